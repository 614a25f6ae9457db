use Rattle.std.proofs.Common.{◌≡◌, ◌++◌, [], length}
use Rattle.litmus_answers.specs.States.{items_text}
use Rattle.litmus_answers.proofs.states.put_items.Given as goal

abbrev pub invariant-loop-told : goal.invariant-loop-told
invariant-loop-told l = l.out.items ++ items_text l.names l.gap l.told l.state ≡ l.initial.out.items ++ items_text l.names [] l.initial.told l.initial.state

abbrev pub decreases-loop-told : goal.decreases-loop-told
decreases-loop-told l = length l.told
