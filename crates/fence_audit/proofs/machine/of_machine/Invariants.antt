use Rattle.std.proofs.Common.{◌≡◌, map}
use Rattle.architecture_outcomes.specs.Outcomes.{of_found}
use Rattle.fence_audit.proofs.machine.of_machine.Given as goal

abbrev pub invariant-loop-harts : goal.invariant-loop-harts
invariant-loop-harts l = l.outcomes.items ≡ map of_found l.yielded
