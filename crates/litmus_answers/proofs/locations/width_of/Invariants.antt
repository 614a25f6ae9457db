use Rattle.std.proofs.Common.{◌≡◌, length}
use Rattle.litmus_answers.specs.Layouts.{width_of}
use Rattle.litmus_answers.proofs.locations.width_of.Given as goal

abbrev pub invariant-loop-rest : goal.invariant-loop-rest
invariant-loop-rest l = width_of l.rest l.name ≡ width_of l.initial.rest l.name

abbrev pub decreases-loop-rest : goal.decreases-loop-rest
decreases-loop-rest l = length l.rest
