use Rattle.std.proofs.Common.{◌≡◌, length}
use Rattle.litmus_answers.specs.Entries.{plain_states}
use Rattle.litmus_answers.specs.Logs.{has_state}
use Rattle.litmus_answers.specs.Naming.{plain}
use Rattle.litmus_answers.proofs.comparing.has_state.Given as goal

abbrev pub invariant-loop-rest : goal.invariant-loop-rest
invariant-loop-rest l = has_state (plain_states l.rest) (plain l.state) ≡ has_state (plain_states l.initial.rest) (plain l.state)

abbrev pub decreases-loop-rest : goal.decreases-loop-rest
decreases-loop-rest l = length l.rest
