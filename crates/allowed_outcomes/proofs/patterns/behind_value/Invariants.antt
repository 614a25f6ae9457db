use Rattle.std.proofs.Common.{◌≡◌, length}
use Rattle.allowed_outcomes.specs.Patterns.{behind_value}
use Rattle.allowed_outcomes.proofs.patterns.behind_value.Given as goal

abbrev pub invariant-loop-rest : goal.invariant-loop-rest
invariant-loop-rest l = behind_value l.rest ≡ behind_value l.line

abbrev pub decreases-loop-rest : goal.decreases-loop-rest
decreases-loop-rest l = length l.rest
