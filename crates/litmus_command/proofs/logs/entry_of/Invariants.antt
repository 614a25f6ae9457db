use Rattle.std.proofs.Common.{◌≡◌, length}
use Rattle.litmus_answers.specs.Entries.{all_said}
use Rattle.litmus_command.specs.Comparing.{test_named}
use Rattle.litmus_command.proofs.logs.entry_of.Given as goal

abbrev pub invariant-loop-rest : goal.invariant-loop-rest
invariant-loop-rest l = test_named l.name (all_said l.rest) ≡ test_named l.name (all_said l.initial.rest)

abbrev pub decreases-loop-rest : goal.decreases-loop-rest
decreases-loop-rest l = length l.rest
