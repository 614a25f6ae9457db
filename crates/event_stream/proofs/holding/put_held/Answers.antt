use Rattle.std.proofs.Common.{ap, arith, length, ◌∙◌}
use Rattle.text_fields.proofs.Pages.{page_as, page_ends, page_fails, page_more, page_stops}
use Rattle.event_stream.specs.Holding.{hart_lines}
use Rattle.event_stream.proofs.Counting.{numbered_next, numbered_none}
use Rattle.event_stream.proofs.holding.put_held.Goals as goal

pub returns-in_err-put_hart : goal.returns-in_err-put_hart
returns-in_err-put_hart g c =
    let s = c.args.machine.now in
    page_stops _ _ _ _ _ _ c.from_residual.ensures.0
    (page_fails _ _ _ _ _ _ _ (page_as _ _ _ _ _ _ (numbered_next (hart_lines s) (length s.views.nodes) c.loop-number.number (omega (arith, c.loop-number-test.true, c.harts-count.ensures ∙ ap (λ v. length v.views.nodes) c.views.ensures))) c.loop-number.invariant) c.in_err-put_hart.ensures)

pub loop-number-preserved : goal.loop-number-preserved
loop-number-preserved g c =
    let s = c.args.machine.now in
    page_more _ _ _ _ _ _ _ _ (page_as _ _ _ _ _ _ (numbered_next (hart_lines s) (length s.views.nodes) c.loop-number.number (omega (arith, c.loop-number-test.true, c.harts-count.ensures ∙ ap (λ v. length v.views.nodes) c.views.ensures))) c.loop-number.invariant) c.in_ok-put_hart.ensures

pub returns : goal.returns
returns g c =
    let s = c.args.machine.now in
    page_ends _ _ _ _ _ (page_as _ _ _ _ _ _ (numbered_none (hart_lines s) (length s.views.nodes) c.loop-number.number (omega (arith, c.loop-number-test.false, c.harts-count.ensures ∙ ap (λ v. length v.views.nodes) c.views.ensures))) c.loop-number.invariant)
