use Rattle.std.proofs.Common.{◌≡◌, ◌++◌, length}
use Rattle.order_text.specs.Neighbours.{operations_in}
use Rattle.order_text.proofs.neighbours.operations_in.Given as goal

abbrev pub invariant-loop-item : goal.invariant-loop-item
invariant-loop-item l = l.own.items ++ operations_in l.rest ≡ operations_in l.items

abbrev pub decreases-loop-item : goal.decreases-loop-item
decreases-loop-item l = length l.rest
