use Rattle.std.proofs.Common.{◌≡◌, length, map}
use Rattle.explore_command.specs.Judging.{have_failure}
use Rattle.explore_command.proofs.failing.has_failure.Given as goal

-- those before have none
abbrev pub invariant-loop-rest : goal.invariant-loop-rest
invariant-loop-rest g l = have_failure (map g.T.Findings.harts l.rest) ≡ have_failure (map g.T.Findings.harts (g.T.Findings.outcomes l.found))

abbrev pub decreases-loop-rest : goal.decreases-loop-rest
decreases-loop-rest g l = length l.rest
