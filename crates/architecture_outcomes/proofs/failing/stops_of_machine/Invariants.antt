use Rattle.std.proofs.Common.{◌≡◌, map}
use Rattle.architecture_outcomes.specs.Failings.{of_failure}
use Rattle.architecture_outcomes.proofs.failing.stops_of_machine.Given as goal

abbrev pub invariant-loop-failure : goal.invariant-loop-failure
invariant-loop-failure l = l.failings.items ≡ map of_failure l.yielded
