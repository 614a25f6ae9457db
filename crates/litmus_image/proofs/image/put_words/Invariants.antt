use Rattle.std.proofs.Common.{◌≡◌, ◌++◌, take, map}
use Rattle.rv32_decode.specs.Encoding.{encoded}
use Rattle.litmus_image.proofs.image.put_words.Given as goal

abbrev pub invariant-loop-instr : goal.invariant-loop-instr
invariant-loop-instr l = l.words.items ≡ l.fn.words.items ++ map encoded (take l.instr-index l.program)
