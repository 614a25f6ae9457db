use Rattle.std.proofs.Common.{◌≡◌, length}
use Rattle.litmus_answers.specs.Logs.{is_part}
use Rattle.litmus_answers.specs.Naming.{plain}
use Rattle.litmus_answers.proofs.comparing.is_part.Given as goal

abbrev pub invariant-loop-rest : goal.invariant-loop-rest
invariant-loop-rest l = is_part (plain l.rest) (plain l.other) ≡ is_part (plain l.initial.rest) (plain l.other)

abbrev pub decreases-loop-rest : goal.decreases-loop-rest
decreases-loop-rest l = length l.rest
