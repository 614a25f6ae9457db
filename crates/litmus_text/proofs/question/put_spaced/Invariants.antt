use Rattle.std.proofs.Common.{◌≡◌, ◌++◌, length}
use Rattle.litmus_text.specs.Questions.{spaced}
use Rattle.litmus_text.proofs.question.put_spaced.Given as goal

abbrev pub invariant-loop-rest : goal.invariant-loop-rest
invariant-loop-rest l = l.out.items ++ spaced l.rest ≡ l.initial.out.items ++ spaced l.initial.rest

abbrev pub decreases-loop-rest : goal.decreases-loop-rest
decreases-loop-rest l = length l.rest
