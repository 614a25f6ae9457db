use Rattle.std.proofs.Common.{◌≡◌, ◌+◌, length}
use Rattle.litmus_answers.specs.Locations.{number_from}
use Rattle.litmus_answers.proofs.locations.number_of.Given as goal

abbrev pub invariant-loop-rest : goal.invariant-loop-rest
invariant-loop-rest l = (number_from l.number l.rest l.name ≡ number_from 0 l.initial.rest l.name) × (l.number + length l.rest ≡ length l.initial.rest)

abbrev pub decreases-loop-rest : goal.decreases-loop-rest
decreases-loop-rest l = length l.rest
