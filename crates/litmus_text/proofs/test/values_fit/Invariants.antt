use Rattle.std.proofs.Common.{◌≡◌, length}
use Rattle.litmus_text.specs.Tests.{values_fit}
use Rattle.litmus_text.proofs.test.values_fit.Given as goal

abbrev pub invariant-loop-rest : goal.invariant-loop-rest
invariant-loop-rest l = values_fit l.harts l.rest ≡ values_fit l.harts l.initial.rest

abbrev pub decreases-loop-rest : goal.decreases-loop-rest
decreases-loop-rest l = length l.rest
