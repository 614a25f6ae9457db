use Rattle.std.proofs.Common.{◌≡◌, ◌&&◌, length}
use Rattle.hart.specs.Run.{are_steps, reached, status_fits}
use Rattle.trace_operations.proofs.runs.is_run.Given as goal

abbrev pub invariant-loop-rest : goal.invariant-loop-rest
invariant-loop-rest l = (are_steps l.image l.reset l.entries && status_fits l.image (reached l.reset l.entries) l.status) ≡ (are_steps l.image l.hart l.rest && status_fits l.image (reached l.hart l.rest) l.status)

abbrev pub decreases-loop-rest : goal.decreases-loop-rest
decreases-loop-rest l = length l.rest
