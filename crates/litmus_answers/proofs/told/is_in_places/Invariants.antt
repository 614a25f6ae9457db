use Rattle.std.proofs.Common.{◌≡◌, length}
use Rattle.litmus_answers.specs.Naming.{is_in_places}
use Rattle.litmus_answers.proofs.told.is_in_places.Given as goal

abbrev pub invariant-loop-rest : goal.invariant-loop-rest
invariant-loop-rest l = is_in_places l.rest l.name ≡ is_in_places l.initial.rest l.name

abbrev pub decreases-loop-rest : goal.decreases-loop-rest
decreases-loop-rest l = length l.rest
