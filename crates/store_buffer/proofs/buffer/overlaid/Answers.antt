use Rattle.std.proofs.Common.{◌≡◌, ◌+◌, ◌∷◌, [], ◌++◌, take, refl, sym, ap, ◌∙◌}
use Rattle.std.proofs.lemmas.List.{take_more, take_all}
use Rattle.store_buffer.specs.declared.entry.Entry.{Entry}
use Rattle.store_buffer.specs.ByteMask.{united, laid_over}
use Rattle.store_buffer.specs.Layout.{overlaid}
use Rattle.store_buffer.proofs.Overlaid.{overlaid-mask, overlaid-bytes, overlaid-other}
use Rattle.store_buffer.proofs.buffer.overlaid.Goals as goal
use Rattle.store_buffer.proofs.buffer.overlaid.Goals.{then-entry-word, else-entry-word}

pub loop-entry-init : goal.loop-entry-init
loop-entry-init c = (c.none-mask.ensures, refl)

pub loop-entry-preserved : goal.loop-entry-preserved
loop-entry-preserved c =
    let es = c.args.entries.now in
    let i = c.loop-entry.entry-index in
    let e = c.entry-item.result in
    let more : take (i + 1) es ≡ take i es ++ e ∷ [] = take_more es i e c.loop-entry-test.true ∙ ap (λ (x : Entry). take i es ++ x ∷ []) (sym c.entry-item.is) in
    rw more
    (elim c.if-entry-word.branch [
      | then-entry-word w ↦ (
        w.mask-is ∙ w.union-mask.ensures ∙ ap (united e.mask) c.loop-entry.invariant.0 ∙ sym (overlaid-mask c.args.word (take i es) e w.if-entry-word.true),
        w.bytes-is ∙ w.lay_over-laid.ensures ∙ ap (laid_over e.mask e.bytes) c.loop-entry.invariant.1 ∙ sym (overlaid-bytes c.args.word (take i es) e w.if-entry-word.true),
      )
      | else-entry-word w ↦ (
          let other = overlaid-other c.args.word (take i es) e w.if-entry-word.false in (
            w.mask-is ∙ c.loop-entry.invariant.0 ∙ sym (ap (λ p. p.0) other),
            w.bytes-is ∙ c.loop-entry.invariant.1 ∙ sym (ap (λ p. p.1) other),
          )
          )
    ])

pub returns : goal.returns
returns c =
    let es = c.args.entries.now in
    let all = take_all c.loop-entry.entry-index es c.loop-entry-test.false in
    let mask = c.loop-entry.invariant.0 in
    let bytes = c.loop-entry.invariant.1 in
    (λ i. (mask i, bytes i)) ∙ ap (overlaid c.args.word) all
