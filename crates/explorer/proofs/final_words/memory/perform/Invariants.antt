use Rattle.std.proofs.Common.{◌≡◌, length}
use Rattle.explorer.proofs.Performed.{AreOthers, AreWritten}
use Rattle.explorer.proofs.final_words.memory.perform.Given as goal

abbrev pub invariant-loop-index : goal.invariant-loop-index
invariant-loop-index l = record {
  size : length l.memory.items ≡ length l.fn.memory.items;
  written : AreWritten l.fn.memory.items l.memory.items l.a l.index;
  others : AreOthers l.fn.memory.items l.memory.items l.a;
}
