use Rattle.std.proofs.Common.{◌≡◌, ◌++◌, length}
use Rattle.litmus_answers.specs.Naming.{steps_names, plain}
use Rattle.litmus_answers.proofs.locations.add_steps.Given as goal

abbrev pub invariant-loop-rest : goal.invariant-loop-rest
invariant-loop-rest l = plain l.names.items ++ steps_names l.rest ≡ plain l.initial.names.items ++ steps_names l.initial.rest

abbrev pub decreases-loop-rest : goal.decreases-loop-rest
decreases-loop-rest l = length l.rest
