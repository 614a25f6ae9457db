use Rattle.std.proofs.Common.{◌≡◌, length}
use Rattle.std.specs.Prelude.{filter}
use Rattle.std.specs.List.{last_or}
use Rattle.memory_model.specs.Operations.{precedes}
use Rattle.order_text.specs.Neighbours.{neighbour}
use Rattle.order_text.proofs.neighbours.neighbour.Given as goal

abbrev pub invariant-loop-rest : goal.invariant-loop-rest
invariant-loop-rest l = last_or l.found (filter (λ a. precedes a l.b) l.rest) ≡ neighbour l.own l.b

abbrev pub decreases-loop-rest : goal.decreases-loop-rest
decreases-loop-rest l = length l.rest
