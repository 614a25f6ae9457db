use Rattle.std.proofs.Common.{◌≡◌, ◌++◌, drop}
use Rattle.litmus_image.specs.Instructions.{each_from}
use Rattle.litmus_image.specs.Tail.{other}
use Rattle.litmus_image.proofs.tail.put_tail.Given as goal

abbrev pub invariant-loop-register : goal.invariant-loop-register
invariant-loop-register l = l.out.items ++ each_from other l.register (drop l.register l.asked) ≡ l.initial.out.items ++ each_from other 0 l.asked
