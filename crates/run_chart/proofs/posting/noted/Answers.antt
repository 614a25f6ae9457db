use Rattle.run_chart.proofs.Limits.{given_up, noted_long}
use Rattle.run_chart.proofs.posting.noted.Goals as goal

pub returns-in_err-next-clause-full : goal.returns-in_err-next-clause-full
returns-in_err-next-clause-full c =
    given_up _ c.from_residual-in_err-next.result _ c.from_residual-in_err-next.ensures.1
    (λ why. noted_long c.args.line c.loop-rest.next c.args.notes.now c.loop-rest.rest.now c.loop-rest.list.items c.in-len1-up.len_at_least c.loop-rest.invariant.notes c.loop-rest.invariant.next c.in_err-next.ensures.last)
