-- A program's file with words replaced, and what it is loaded as.
use Rattle.std.specs.Prelude.{ℕ, ◌≡◌, ◌+◌, ◌++◌, ◌↔◌, Bool, IsTrue, List, None, Ok, Option, Result, Some, drop, fold, if◌then◌else◌, length, nat_le, take}
use Rattle.std.specs.Int.{to_le_bytes, w32}
use Rattle.elf_loader.specs.Image.{Initial}
use Rattle.elf_loader.specs.Load.{load_answer}
use Rattle.elf_loader.specs.Raw.{raw_answer}
use Rattle.elf_loader.specs.declared.error.LoadError.{LoadError}
use Rattle.image_orderings.specs.declared.replacing.Patch.{Patch}
use Rattle.image_writing.specs.Places.{place_of}
use Rattle.image_writing.specs.declared.places.Format.{Format}
use Rattle.image_writing.specs.declared.places.Format.TheVariants.{Elf, Words}

-- the file in memory of this size
abbrev pub loaded_as : Format → List ℕ → (size : ℕ) → Result Initial LoadError
loaded_as Elf file size = load_answer file size
loaded_as Words file size = raw_answer file size

-- whether that is this image
abbrev pub TellsLoaded : Result Initial LoadError → Initial → Bool → Type 0
TellsLoaded answer image is = IsTrue is ↔ (answer ≡ Ok image)

-- this word stands at this place, its lowest byte first, where all of it has room; each other byte is as it was
abbrev pub with_word : List ℕ → (place : Option ℕ) → (word : ℕ) → List ℕ
with_word bytes None word = bytes
with_word bytes (Some place) word = if nat_le (place + 4) (length bytes) then take place bytes ++ (to_le_bytes w32 word ++ drop (place + 4) bytes) else bytes

-- the file's bytes, but at the place of each of these words that word
abbrev pub written : Format → (file : List ℕ) → List Patch → List ℕ
written format file = fold (λ bytes (patch : Patch). with_word bytes (place_of format file patch.address) patch.word) file
