use Rattle.std.proofs.Common.{◌<◌, ◌^◌, length}
use Rattle.open_questions.proofs.Opened.{IsPassed}
use Rattle.open_questions.proofs.opening.left_open.Given as goal

-- the entries from here on are passed
abbrev pub invariant-loop-index : goal.invariant-loop-index
invariant-loop-index l = IsPassed l.answers l.found l.log l.index × (length l.log < 2 ^ 64)

abbrev pub decreases-loop-index : goal.decreases-loop-index
decreases-loop-index l = l.index
