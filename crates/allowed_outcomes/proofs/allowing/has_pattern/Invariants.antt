use Rattle.std.proofs.Common.{◌≡◌, length}
use Rattle.allowed_outcomes.specs.Allowing.{has_pattern}
use Rattle.allowed_outcomes.proofs.allowing.has_pattern.Given as goal

-- none of those before says so
abbrev pub invariant-loop-rest : goal.invariant-loop-rest
invariant-loop-rest l = has_pattern l.rest l.line ≡ has_pattern l.patterns l.line

abbrev pub decreases-loop-rest : goal.decreases-loop-rest
decreases-loop-rest l = length l.rest
