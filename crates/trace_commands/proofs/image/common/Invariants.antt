use Rattle.std.proofs.Common.{◌≡◌, ◌+◌, length}
use Rattle.trace_commands.specs.Images.{common}
use Rattle.trace_commands.proofs.image.common.Given as goal

abbrev pub invariant-loop-rest : goal.invariant-loop-rest
invariant-loop-rest l = record { value : l.count + common l.rest l.others ≡ common l.one l.other; within : l.count + length l.rest ≡ length l.one }

abbrev pub decreases-loop-rest : goal.decreases-loop-rest
decreases-loop-rest l = length l.rest
