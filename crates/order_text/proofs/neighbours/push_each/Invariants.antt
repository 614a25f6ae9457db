use Rattle.std.proofs.Common.{◌≡◌, ◌++◌, length, map}
use Rattle.order_text.specs.Neighbours.{ruled}
use Rattle.order_text.proofs.neighbours.push_each.Given as goal

abbrev pub invariant-loop-rest : goal.invariant-loop-rest
invariant-loop-rest l = l.lines.items ++ map (ruled l.a l.b) l.rest ≡ l.initial.lines.items ++ map (ruled l.a l.b) l.rules

abbrev pub decreases-loop-rest : goal.decreases-loop-rest
decreases-loop-rest l = length l.rest
