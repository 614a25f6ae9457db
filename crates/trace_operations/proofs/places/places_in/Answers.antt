use Rattle.std.proofs.Common.{ℕ, ap, arith}
use Rattle.std.specs.Option.{option_or}
use Rattle.std.proofs.lemmas.Grind.{common_steps}
use Rattle.trace_operations.specs.Indexed.{known, place_from}
use Rattle.trace_operations.proofs.Indexed.{or_placed}
use Rattle.trace_operations.proofs.places.places_in.Goals as goal

pub loop-position-init : goal.loop-position-init
loop-position-init c = λ a. ap (λ (n : ℕ). option_or (known n) (place_from 0 a c.args.order.now)) (c.none-places.ensures a.hart a.place)

pub loop-position-preserved : goal.loop-position-preserved
loop-position-preserved c = λ a. grind (arith, common_steps, or_placed, c.in_ok-put_first.ensures a, c.loop-position.invariant a)

pub returns : goal.returns
returns c = grind (arith, common_steps)
