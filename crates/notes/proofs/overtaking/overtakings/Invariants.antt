use Rattle.std.proofs.Common.{◌≡◌, ◌++◌, length}
use Rattle.notes.specs.Overtaking as spec
use Rattle.notes.proofs.overtaking.overtakings.Given as goal

abbrev pub invariant-loop-rest : goal.invariant-loop-rest
invariant-loop-rest l = l.pairs.items ++ spec.overtakings_in l.rest ≡ spec.overtakings l.trace.history

abbrev pub decreases-loop-rest : goal.decreases-loop-rest
decreases-loop-rest l = length l.rest
