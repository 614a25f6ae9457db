use Rattle.std.proofs.Common.{ap, arith, sym, ◌∙◌}
use Rattle.image_orderings.specs.Flow as spec
use Rattle.image_orderings.proofs.Sweeping.{none_left, one_closed, one_open}
use Rattle.image_orderings.proofs.flow.each_goes_on.Goals as goal

pub returns-then-not-goes_on : goal.returns-then-not-goes_on
returns-then-not-goes_on c =
    one_open c.args.image.now c.loop-place.place c.args.table.now c.loop-place-test.true (sym c.goes_on.ensures ∙ c.if-not-goes_on.true) ∙ c.loop-place.invariant.rest

pub loop-place-preserved : goal.loop-place-preserved
loop-place-preserved c =
    let l = c.loop-place-test.true in
    let f = c.loop-place.invariant.few in
    record {
      few = omega (arith, l, f);
      rest = one_closed c.args.image.now c.loop-place.place c.args.table.now l (sym c.goes_on.ensures ∙ c.if-not-goes_on.false) ∙ c.loop-place.invariant.rest;
    }

pub returns : goal.returns
returns c =
    let l = c.loop-place-test.false in
    sym (none_left c.args.image.now c.args.table.now) ∙ (ap (λ p. spec.each_goes_on c.args.image.now c.args.table.now p) (omega (arith, l)) ∙ c.loop-place.invariant.rest)
