use Rattle.std.proofs.Common.{◌≡◌, ℕ, List, Bool, ◌||◌, sym, ◌∙◌}
use Rattle.std.specs.Prelude.{codes}
use Rattle.trace_text.proofs.Refusals.{is_parted_word, known, or_then, or_else}
use Rattle.trace_text.proofs.script_faults.is_known.Goals.{then-is_word, else-is_word, then-is_word-2, else-is_word-2, then-is_word-3, else-is_word-3}
use Rattle.trace_text.proofs.script_faults.is_known.Goals as goal

pub returns-then-is_word-4 : goal.returns-then-is_word-4
returns-then-is_word-4 c =
    let word : List ℕ → Bool = is_parted_word c.args.line.now in
    let two : c.if-is_word.value ≡ (word (codes "step") || word (codes "drain")) = elim c.if-is_word.branch [
      | then-is_word w ↦ or_then _ _ _ (sym c.is_word.ensures ∙ w.if-is_word.true) (w.value-is ∙ w.if-is_word.true)
      | else-is_word w ↦ or_else _ _ _ (sym c.is_word.ensures ∙ w.if-is_word.false) (w.value-is ∙ w.is_word-else-is_word.ensures)
    ] in
    let three : c.if-is_word-2.value ≡ ((word (codes "step") || word (codes "drain")) || word (codes "evict")) = elim c.if-is_word-2.branch [
      | then-is_word-2 w ↦ or_then _ _ _ (sym two ∙ w.if-is_word-2.true) (w.value-is ∙ w.if-is_word-2.true)
      | else-is_word-2 w ↦ or_else _ _ _ (sym two ∙ w.if-is_word-2.false) (w.value-is ∙ w.is_word-else-is_word-2.ensures)
    ] in
    let four : c.if-is_word-3.value ≡ (((word (codes "step") || word (codes "drain")) || word (codes "evict")) || word (codes "deliver")) = elim c.if-is_word-3.branch [
      | then-is_word-3 w ↦ or_then _ _ _ (sym three ∙ w.if-is_word-3.true) (w.value-is ∙ w.if-is_word-3.true)
      | else-is_word-3 w ↦ or_else _ _ _ (sym three ∙ w.if-is_word-3.false) (w.value-is ∙ w.is_word-else-is_word-3.ensures)
    ] in
    known c.args.line.now c.if-is_word-3.value c.requires (or_then _ _ _ (sym four ∙ c.if-is_word-4.true) c.if-is_word-4.true)

pub returns-else-is_word-4 : goal.returns-else-is_word-4
returns-else-is_word-4 c =
    let word : List ℕ → Bool = is_parted_word c.args.line.now in
    let two : c.if-is_word.value ≡ (word (codes "step") || word (codes "drain")) = elim c.if-is_word.branch [
      | then-is_word w ↦ or_then _ _ _ (sym c.is_word.ensures ∙ w.if-is_word.true) (w.value-is ∙ w.if-is_word.true)
      | else-is_word w ↦ or_else _ _ _ (sym c.is_word.ensures ∙ w.if-is_word.false) (w.value-is ∙ w.is_word-else-is_word.ensures)
    ] in
    let three : c.if-is_word-2.value ≡ ((word (codes "step") || word (codes "drain")) || word (codes "evict")) = elim c.if-is_word-2.branch [
      | then-is_word-2 w ↦ or_then _ _ _ (sym two ∙ w.if-is_word-2.true) (w.value-is ∙ w.if-is_word-2.true)
      | else-is_word-2 w ↦ or_else _ _ _ (sym two ∙ w.if-is_word-2.false) (w.value-is ∙ w.is_word-else-is_word-2.ensures)
    ] in
    let four : c.if-is_word-3.value ≡ (((word (codes "step") || word (codes "drain")) || word (codes "evict")) || word (codes "deliver")) = elim c.if-is_word-3.branch [
      | then-is_word-3 w ↦ or_then _ _ _ (sym three ∙ w.if-is_word-3.true) (w.value-is ∙ w.if-is_word-3.true)
      | else-is_word-3 w ↦ or_else _ _ _ (sym three ∙ w.if-is_word-3.false) (w.value-is ∙ w.is_word-else-is_word-3.ensures)
    ] in
    known c.args.line.now c.is_word-else-is_word-4.result c.requires (or_else _ _ _ (sym four ∙ c.if-is_word-4.false) c.is_word-else-is_word-4.ensures)
