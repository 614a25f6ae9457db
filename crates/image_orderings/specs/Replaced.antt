-- An image with words replaced.
use Rattle.std.specs.Prelude.{ℕ, ◌+◌, ◌-◌, ◌++◌, List, drop, fold, map, take}
use Rattle.std.specs.Int.{to_le_bytes, w32}
use Rattle.elf_loader.specs.Image.{HasWord, Initial, word_at}
use Rattle.elf_loader.specs.Size.{base}
use Rattle.image_orderings.specs.Forms.{IsVariant}
use Rattle.image_orderings.specs.declared.replacing.Patch.{Patch}

-- this word stands at this address, its lowest byte first (section 1.5 of the Unprivileged ISA 20191213); each other byte is as it was
abbrev pub replaced : Initial → (address word : ℕ) → Initial
replaced image address word = record {
  bytes = take (address - base) image.bytes ++ (to_le_bytes w32 word ++ drop (address - base + 4) image.bytes);
  entry = image.entry;
}

-- one patch after another
abbrev pub patched : Initial → List Patch → Initial
patched = fold (λ image (patch : Patch). replaced image patch.address patch.word)

-- a word lies there, and the patch's differs from it at most in what it orders
pub record IsPatchOf (image : Initial) (patch : Patch) : Type 0 where
  pub place : HasWord image patch.address
  pub variant : IsVariant (word_at image patch.address) patch.word

abbrev pub addresses_of : List Patch → List ℕ
addresses_of = map (λ (p : Patch). p.address)
