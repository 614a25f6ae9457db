use Rattle.std.proofs.Common.{◌≡◌, length}
use Rattle.hart.specs.Run.{reached}
use Rattle.stop_text.specs.Standing as spec
use Rattle.stop_text.proofs.standing.standing.Given as goal

abbrev pub invariant-loop-rest : goal.invariant-loop-rest
invariant-loop-rest l = spec.standing l.trace.history l.hart ≡ reached l.standing l.rest

abbrev pub decreases-loop-rest : goal.decreases-loop-rest
decreases-loop-rest l = length l.rest
