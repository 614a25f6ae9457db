use Rattle.std.proofs.Common.{◌≡◌, length}
use Rattle.allowed_outcomes.specs.Allowing.{without_number}
use Rattle.allowed_outcomes.proofs.allowing.without_number.Given as goal

abbrev pub invariant-loop-rest : goal.invariant-loop-rest
invariant-loop-rest l = without_number l.rest ≡ without_number l.line

abbrev pub decreases-loop-rest : goal.decreases-loop-rest
decreases-loop-rest l = length l.rest
