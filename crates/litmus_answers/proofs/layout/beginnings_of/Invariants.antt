use Rattle.std.proofs.Common.{◌≡◌, ◌++◌, length}
use Rattle.litmus_answers.specs.Layouts.{beginnings_of}
use Rattle.litmus_answers.proofs.layout.beginnings_of.Given as goal

abbrev pub invariant-loop-rest : goal.invariant-loop-rest
invariant-loop-rest l = l.numbers.items ++ beginnings_of l.names l.values l.rest ≡ beginnings_of l.names l.values l.initial.rest

abbrev pub decreases-loop-rest : goal.decreases-loop-rest
decreases-loop-rest l = length l.rest
