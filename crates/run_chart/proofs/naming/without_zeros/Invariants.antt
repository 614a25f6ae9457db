use Rattle.std.proofs.Common.{◌≡◌, ◌≤◌, length}
use Rattle.event_stream.specs.Naming.{without_zeros}
use Rattle.run_chart.proofs.naming.without_zeros.Given as goal

abbrev pub invariant-loop-rest : goal.invariant-loop-rest
invariant-loop-rest l = record { value : without_zeros l.digits ≡ without_zeros l.rest; len : length l.rest ≤ length l.digits }

abbrev pub decreases-loop-rest : goal.decreases-loop-rest
decreases-loop-rest l = length l.rest
