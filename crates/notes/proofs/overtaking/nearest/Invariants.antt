use Rattle.std.proofs.Common.{◌≡◌, None, length}
use Rattle.notes.specs.Overtaking.{nearest_from}
use Rattle.notes.proofs.overtaking.nearest.Given as goal

abbrev pub invariant-loop-rest : goal.invariant-loop-rest
invariant-loop-rest l = nearest_from l.found l.b l.rest ≡ nearest_from None l.b l.later

abbrev pub decreases-loop-rest : goal.decreases-loop-rest
decreases-loop-rest l = length l.rest
