use Rattle.std.proofs.Common.{◌≡◌, length}
use Rattle.litmus_answers.specs.Holding.{has}
use Rattle.litmus_answers.proofs.holding.has.Given as goal

abbrev pub invariant-loop-told : goal.invariant-loop-told
invariant-loop-told l = has l.names l.told l.state l.place l.value ≡ has l.names l.initial.told l.initial.state l.place l.value

abbrev pub decreases-loop-told : goal.decreases-loop-told
decreases-loop-told l = length l.told
