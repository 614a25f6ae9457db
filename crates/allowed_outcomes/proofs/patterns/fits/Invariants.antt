use Rattle.std.proofs.Common.{◌≡◌, Some, length}
use Rattle.allowed_outcomes.specs.Patterns.{left_behind}
use Rattle.allowed_outcomes.proofs.patterns.fits.Given as goal

abbrev pub invariant-loop-pattern : goal.invariant-loop-pattern
invariant-loop-pattern l = left_behind l.pattern (Some l.left) ≡ left_behind l.fn.pattern (Some l.line)

abbrev pub decreases-loop-pattern : goal.decreases-loop-pattern
decreases-loop-pattern l = length l.pattern
