use Rattle.std.proofs.Common.{ap, arith, length, ◌∙◌}
use Rattle.text_fields.proofs.Pages.{page_as, page_ends, page_fails, page_more, page_stops}
use Rattle.event_stream.specs.Noted.{noted_at}
use Rattle.event_stream.proofs.Counting.{numbered_next, numbered_none}
use Rattle.event_stream.proofs.noting.put_noted.Goals as goal

pub returns-in_err-put_notes : goal.returns-in_err-put_notes
returns-in_err-put_notes g c =
    let s = c.args.machine.now in
    page_stops _ _ _ _ _ _ c.from_residual.ensures.0
    (page_fails _ _ _ _ _ _ _ (page_as _ _ _ _ _ _ (numbered_next (noted_at s) (length s.views.memory) c.loop-number.number (omega (arith, c.loop-number-test.true, c.line_count-count.ensures.count ∙ ap (λ m. length m) (c.memory.ensures ∙ ap (λ v. v.views.memory) c.views.ensures)))) c.loop-number.invariant) c.in_err-put_notes.ensures)

pub loop-number-preserved : goal.loop-number-preserved
loop-number-preserved g c =
    let s = c.args.machine.now in
    page_more _ _ _ _ _ _ _ _ (page_as _ _ _ _ _ _ (numbered_next (noted_at s) (length s.views.memory) c.loop-number.number (omega (arith, c.loop-number-test.true, c.line_count-count.ensures.count ∙ ap (λ m. length m) (c.memory.ensures ∙ ap (λ v. v.views.memory) c.views.ensures)))) c.loop-number.invariant) c.in_ok-put_notes.ensures

pub returns : goal.returns
returns g c =
    let s = c.args.machine.now in
    page_ends _ _ _ _ _ (page_as _ _ _ _ _ _ (numbered_none (noted_at s) (length s.views.memory) c.loop-number.number (omega (arith, c.loop-number-test.false, c.line_count-count.ensures.count ∙ ap (λ m. length m) (c.memory.ensures ∙ ap (λ v. v.views.memory) c.views.ensures)))) c.loop-number.invariant)
