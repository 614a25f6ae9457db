use Rattle.std.proofs.Common.{◌-◌, sym, ap, ◌∙◌, arith}
use Rattle.image_orderings.specs.Flow as spec
use Rattle.image_orderings.proofs.Sweeping.{closed_now, given_up, open_yet}
use Rattle.image_orderings.proofs.flow.close.Goals as goal

pub returns-then-is_closed : goal.returns-then-is_closed
returns-then-is_closed c =
    closed_now c.args.image.now c.loop-sweeps.sweeps c.loop-sweeps.table c.loop-sweeps-test.true (sym c.is_closed.ensures ∙ c.if-is_closed.true)
    ∙ c.loop-sweeps.invariant.rest

pub loop-sweeps-preserved : goal.loop-sweeps-preserved
loop-sweeps-preserved c =
    let image = c.args.image.now in
    let n = c.loop-sweeps.sweeps in
    let table = c.loop-sweeps.table in
    record {
      size = c.sweep.ensures.size ∙ c.loop-sweeps.invariant.size;
      rest = ap (spec.closed_within (n - 1) image) c.sweep.ensures.swept ∙ (open_yet image n table c.loop-sweeps-test.true (sym c.is_closed.ensures ∙ c.if-is_closed.false) ∙ c.loop-sweeps.invariant.rest);
    }

pub returns : goal.returns
returns c =
    let image = c.args.image.now in
    let table = c.loop-sweeps.table in
    let l = c.loop-sweeps-test.false in
    c.set_all.ensures ∙ (given_up image table ∙ (ap (λ n. spec.closed_within n image table) (omega (arith, l)) ∙ c.loop-sweeps.invariant.rest))
