use Rattle.std.proofs.Common.{◌≡◌, length}
use Rattle.litmus_text.specs.Tests.{again}
use Rattle.litmus_text.proofs.test.again.Given as goal

abbrev pub invariant-loop-rest : goal.invariant-loop-rest
invariant-loop-rest l = again l.place l.rest ≡ again l.place l.initial.rest

abbrev pub decreases-loop-rest : goal.decreases-loop-rest
decreases-loop-rest l = length l.rest
