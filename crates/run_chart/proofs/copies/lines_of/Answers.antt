use Rattle.run_chart.proofs.Limits.{given_up, lines_full}
use Rattle.run_chart.proofs.copies.lines_of.Goals as goal

pub returns-in_err-meet-clause-full : goal.returns-in_err-meet-clause-full
returns-in_err-meet-clause-full c =
    given_up _ c.from_residual.result _ c.from_residual.ensures.1
    (λ why. lines_full c.args.only c.loop-rest.lines.items c.loop-rest.rest.now c.args.log.now _ c.in-len1-up.len_at_least c.loop-rest.invariant.lines (c.in_err-meet.ensures.full why))
