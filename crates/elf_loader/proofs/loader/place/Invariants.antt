use Rattle.std.proofs.Common.{◌≡◌, ℕ, ◌+◌, ◌<◌, length, take, get_or}
use Rattle.elf_loader.specs.Load.{loaded_byte}
use Rattle.elf_loader.specs.Size.{base}
use Rattle.elf_loader.proofs.loader.place.Given as goal

abbrev pub invariant-loop-segment : goal.invariant-loop-segment
invariant-loop-segment l = record {
  size : length l.bytes.items ≡ l.size;
  placed : (k : ℕ) → k < l.size → get_or l.bytes.items k 0 ≡ loaded_byte l.file (take l.segment-index l.segments) (base + k);
}
