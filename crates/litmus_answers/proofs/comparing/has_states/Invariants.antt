use Rattle.std.proofs.Common.{◌≡◌, length}
use Rattle.litmus_answers.specs.Entries.{plain_states}
use Rattle.litmus_answers.specs.Logs.{has_states}
use Rattle.litmus_answers.proofs.comparing.has_states.Given as goal

abbrev pub invariant-loop-rest : goal.invariant-loop-rest
invariant-loop-rest l = has_states (plain_states l.rest) (plain_states l.other) ≡ has_states (plain_states l.initial.rest) (plain_states l.other)

abbrev pub decreases-loop-rest : goal.decreases-loop-rest
decreases-loop-rest l = length l.rest
