use Rattle.std.proofs.Common.{◌≡◌, drop}
use Rattle.litmus_image.specs.Tail.{spare, free_from}
use Rattle.litmus_image.proofs.tail.spare.Given as goal

abbrev pub invariant-loop-register : goal.invariant-loop-register
invariant-loop-register l = free_from l.register (drop l.register l.asked) ≡ spare l.asked
