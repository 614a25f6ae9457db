use Rattle.std.proofs.Common.{◌≡◌, length}
use Rattle.litmus_answers.specs.Layouts.{begun_by}
use Rattle.litmus_answers.proofs.parts.begins_of.Given as goal

abbrev pub invariant-loop-rest : goal.invariant-loop-rest
invariant-loop-rest l = begun_by l.names l.hart l.rest l.begins ≡ begun_by l.names l.hart l.initial.rest l.initial.begins

abbrev pub decreases-loop-rest : goal.decreases-loop-rest
decreases-loop-rest l = length l.rest
