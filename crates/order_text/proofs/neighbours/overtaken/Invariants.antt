use Rattle.std.proofs.Common.{◌≡◌, length}
use Rattle.std.specs.Prelude.{filter}
use Rattle.std.specs.List.{last_or}
use Rattle.order_text.specs.Neighbours.{is_overtaken, overtaken}
use Rattle.order_text.proofs.neighbours.overtaken.Given as goal

abbrev pub invariant-loop-rest : goal.invariant-loop-rest
invariant-loop-rest l = last_or l.found (filter (is_overtaken l.relations l.b) l.rest) ≡ overtaken l.relations l.own l.b

abbrev pub decreases-loop-rest : goal.decreases-loop-rest
decreases-loop-rest l = length l.rest
