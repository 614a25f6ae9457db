use Rattle.std.proofs.Common.{◌≡◌, length}
use Rattle.std.specs.Prelude.{reverse}
use Rattle.log_text.specs.Ending.{first_of_line}
use Rattle.log_text.proofs.ending.first_of_last.Given as goal

abbrev pub invariant-loop-rest : goal.invariant-loop-rest
invariant-loop-rest l = first_of_line l.first (reverse l.rest) ≡ first_of_line l.initial.first (reverse l.initial.rest)

abbrev pub decreases-loop-rest : goal.decreases-loop-rest
decreases-loop-rest l = length l.rest
