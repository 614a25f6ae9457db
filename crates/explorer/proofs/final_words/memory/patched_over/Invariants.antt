use Rattle.std.proofs.Common.{◌≡◌, take}
use Rattle.flat_machine.specs.Memory.{patched}
use Rattle.explorer.proofs.final_words.memory.patched_over.Given as goal

abbrev pub invariant-loop-index : goal.invariant-loop-index
invariant-loop-index l = patched l.over.items (take l.index l.patches) ≡ patched l.bytes l.patches
