use Rattle.std.proofs.Common.{◌≡◌, length}
use Rattle.explore_command.specs.Judging.{has_stopped}
use Rattle.flat_model.specs.Shown.{told}
use Rattle.explore_command.proofs.failing.has_stopped.Given as goal

-- those before didn't
abbrev pub invariant-loop-rest : goal.invariant-loop-rest
invariant-loop-rest l = has_stopped (told l.rest) ≡ has_stopped (told l.harts)

abbrev pub decreases-loop-rest : goal.decreases-loop-rest
decreases-loop-rest l = length l.rest
