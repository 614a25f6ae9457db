use Rattle.std.proofs.Common.{◌≡◌, ◌++◌, length}
use Rattle.litmus_answers.specs.States.{state_lines}
use Rattle.litmus_answers.proofs.states.put_states.Given as goal

abbrev pub invariant-loop-rest : goal.invariant-loop-rest
invariant-loop-rest l = l.out.items ++ state_lines l.names l.told l.rest ≡ l.initial.out.items ++ state_lines l.names l.told l.initial.rest

abbrev pub decreases-loop-rest : goal.decreases-loop-rest
decreases-loop-rest l = length l.rest
