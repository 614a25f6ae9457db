use Rattle.std.proofs.Common.{◌≡◌, length}
use Rattle.litmus_answers.specs.Logs.{has_item}
use Rattle.litmus_answers.specs.Naming.{plain}
use Rattle.litmus_answers.proofs.comparing.has_item.Given as goal

abbrev pub invariant-loop-rest : goal.invariant-loop-rest
invariant-loop-rest l = has_item (plain l.rest) l.item ≡ has_item (plain l.initial.rest) l.item

abbrev pub decreases-loop-rest : goal.decreases-loop-rest
decreases-loop-rest l = length l.rest
