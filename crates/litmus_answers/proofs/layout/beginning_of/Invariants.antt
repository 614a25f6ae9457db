use Rattle.std.proofs.Common.{◌≡◌, length}
use Rattle.litmus_answers.specs.Layouts.{beginning_of}
use Rattle.litmus_answers.proofs.layout.beginning_of.Given as goal

abbrev pub invariant-loop-rest : goal.invariant-loop-rest
invariant-loop-rest l = beginning_of l.names l.rest l.name ≡ beginning_of l.names l.initial.rest l.name

abbrev pub decreases-loop-rest : goal.decreases-loop-rest
decreases-loop-rest l = length l.rest
