use Rattle.std.proofs.Common.{◌≡◌, length}
use Rattle.litmus_answers.specs.Naming.{ask_steps}
use Rattle.litmus_answers.proofs.parts.ask_steps.Given as goal

abbrev pub invariant-loop-rest : goal.invariant-loop-rest
invariant-loop-rest l = ask_steps l.hart l.rest l.asked ≡ ask_steps l.hart l.initial.rest l.initial.asked

abbrev pub decreases-loop-rest : goal.decreases-loop-rest
decreases-loop-rest l = length l.rest
