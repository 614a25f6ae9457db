use Rattle.std.proofs.Common.{◌≡◌, length}
use Rattle.litmus_answers.specs.Naming.{ask_places}
use Rattle.litmus_answers.proofs.parts.ask_places.Given as goal

abbrev pub invariant-loop-rest : goal.invariant-loop-rest
invariant-loop-rest l = ask_places l.hart l.rest l.asked ≡ ask_places l.hart l.initial.rest l.initial.asked

abbrev pub decreases-loop-rest : goal.decreases-loop-rest
decreases-loop-rest l = length l.rest
