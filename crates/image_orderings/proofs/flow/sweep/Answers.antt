use Rattle.std.proofs.Common.{◌-◌, ◌+◌, ap, arith, sym, ◌∙◌}
use Rattle.image_orderings.specs.Flow as spec
use Rattle.image_orderings.proofs.Sweeping.{swept_next, swept_none}
use Rattle.image_orderings.proofs.flow.sweep.Goals as goal

pub loop-left-preserved : goal.loop-left-preserved
loop-left-preserved c =
    let image = c.args.image.now in
    let place = c.loop-left.place in
    let left = c.loop-left.left in
    let l = c.loop-left-test.true in
    let f = c.loop-left.invariant.places in
    record {
      places = omega (arith, l, f);
      size = c.mark_from.ensures.size ∙ c.loop-left.invariant.size;
      rest = ap (spec.swept image (place + 1) (left - 1)) c.mark_from.ensures.flowed ∙ (swept_next image place left c.loop-left.table l ∙ c.loop-left.invariant.rest);
    }

pub returns-clause-swept : goal.returns-clause-swept
returns-clause-swept c =
    let l = c.loop-left-test.false in
    sym (swept_none c.args.image.now c.loop-left.place c.loop-left.table)
    ∙ (ap (λ n. spec.swept c.args.image.now c.loop-left.place n c.loop-left.table) (omega (arith, l)) ∙ c.loop-left.invariant.rest)
