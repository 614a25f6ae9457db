use Rattle.std.proofs.Common.{◌≡◌, ◌<◌, ◌≤◌, ℕ, length}
use Rattle.elf_loader.specs.Image.{byte_at, end_of}
use Rattle.elf_loader.specs.Size.{base}
use Rattle.flat_model.specs.Flat.{byte_in}
use Rattle.flat_model.specs.Order.{last_write}
use Rattle.explorer.proofs.final_words.memory.performed.Given as goal

abbrev pub invariant-loop-rest : goal.invariant-loop-rest
invariant-loop-rest l = record {
  size : length l.memory.items ≡ length l.image.bytes;
  bytes : (x : ℕ) → base ≤ x → x < end_of l.image → last_write (byte_in l.memory.items) l.rest x ≡ last_write (byte_at l.image) l.order x;
}

abbrev pub decreases-loop-rest : goal.decreases-loop-rest
decreases-loop-rest l = length l.rest
