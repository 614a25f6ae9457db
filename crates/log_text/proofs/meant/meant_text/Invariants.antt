use Rattle.std.proofs.Common.{◌≡◌, ◌++◌, length}
use Rattle.log_text.specs.Meant.{meant, meant_from}
use Rattle.log_text.specs.Names.{lines_of}
use Rattle.log_text.proofs.meant.meant_text.Given as goal

abbrev pub invariant-loop-tail : goal.invariant-loop-tail
invariant-loop-tail l = l.meant.items ++ meant_from l.skip l.begun l.text (lines_of l.rest) ≡ meant l.skip l.text

abbrev pub decreases-loop-tail : goal.decreases-loop-tail
decreases-loop-tail l = length l.rest
