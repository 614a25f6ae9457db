use Rattle.std.proofs.Common.{◌≡◌, ◌++◌, drop}
use Rattle.litmus_image.specs.Instructions.{each_from}
use Rattle.litmus_image.specs.Beginnings.{beginning, beginnings}
use Rattle.litmus_image.proofs.beginnings.put_beginnings.Given as goal

abbrev pub invariant-loop-register : goal.invariant-loop-register
invariant-loop-register l = l.out.items ++ each_from beginning l.register (drop l.register l.begins) ≡ l.fn.out.items ++ beginnings l.begins
