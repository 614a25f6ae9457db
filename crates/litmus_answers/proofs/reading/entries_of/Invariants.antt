use Rattle.std.proofs.Common.{◌≡◌, ◌++◌, length}
use Rattle.litmus_answers.specs.Entries.{all_said}
use Rattle.litmus_answers.specs.Logs.{lines, said_in, tests_in}
use Rattle.litmus_answers.proofs.reading.entries_of.Given as goal

abbrev pub invariant-loop-rest : goal.invariant-loop-rest
invariant-loop-rest l = all_said l.entries.items ++ tests_in (lines l.rest) ≡ said_in l.log

abbrev pub decreases-loop-rest : goal.decreases-loop-rest
decreases-loop-rest l = length l.rest
