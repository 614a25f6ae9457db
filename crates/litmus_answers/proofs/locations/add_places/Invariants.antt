use Rattle.std.proofs.Common.{◌≡◌, ◌++◌, length}
use Rattle.litmus_answers.specs.Naming.{places_names, plain}
use Rattle.litmus_answers.proofs.locations.add_places.Given as goal

abbrev pub invariant-loop-rest : goal.invariant-loop-rest
invariant-loop-rest l = plain l.names.items ++ places_names l.rest ≡ plain l.initial.names.items ++ places_names l.initial.rest

abbrev pub decreases-loop-rest : goal.decreases-loop-rest
decreases-loop-rest l = length l.rest
