-- The program with the orderings that are enough, as a file.
use Rattle.std.specs.Prelude.{◌≡◌, ◌≢◌, ℕ, Bool, IfSome, List, None, Ok, Option, Some, false, if◌then◌else◌, length, true}
use Rattle.command_files.specs.Contents.{Contents, HoldsBytes}
use Rattle.command_files.specs.Faults.{Name}
use Rattle.command_settings.specs.declared.wanted.Fences.{Fences}
use Rattle.elf_loader.specs.Image.{Initial}
use Rattle.fence_audit.specs.Answers.{is_enough, is_whole}
use Rattle.fence_audit.specs.Searches.{answer_in}
use Rattle.fence_audit.specs.declared.allowing.Allowance.{Allowance}
use Rattle.fence_audit.specs.declared.allowing.Allowance.TheVariants.{Broken, Kept}
use Rattle.fence_audit.specs.declared.answers.Answer.{Answer}
use Rattle.image_orderings.specs.Replaced.{patched}
use Rattle.image_orderings.specs.declared.replacing.Patch.{Patch}
use Rattle.image_writing.specs.Written.{loaded_as, written}
use Rattle.image_writing.specs.declared.places.Format.{Format}
use Rattle.image_writing.specs.declared.places.Format.TheVariants.{Elf, Words}

abbrev pub format_of : (is_raw : Bool) → Format
format_of true = Words
format_of false = Elf

-- ---- where it goes

-- no file that is read has this name
pub record IsUnread (fences : Fences) (name : List ℕ) : Type 0 where
  pub program : name ≢ fences.image.now
  pub allowed : IfSome fences.allow (λ allow. name ≢ allow.now)

-- the file is that one
abbrev pub IsProgramFile : Option Name → List ℕ → Type 0
IsProgramFile None name = ⊥
IsProgramFile (Some file) name = name ≡ file.now

-- ---- what it has

abbrev pub are_enough : Option Answer → Bool
are_enough None = false
are_enough (Some answer) = is_enough answer

-- the words of the last program, where searches say that it is enough
abbrev pub enough_words : Allowance → Option (List Patch)
enough_words (Kept audit) = if is_whole audit.known then Some audit.last.items else None
enough_words (Broken missing) = if are_enough (answer_in missing.searches.items missing.most.items) then Some missing.last.items else None

-- a program's bytes but for these words
abbrev pub changed : Format → (file : List ℕ) → List Patch → List ℕ
changed format file words = written format file words

-- they are loaded as the image with these words
abbrev pub LoadsChanged : Format → (file : List ℕ) → Initial → List Patch → Type 0
LoadsChanged format file image words = loaded_as format (changed format file words) (length image.bytes) ≡ Ok (patched image words)

-- the file has them
pub record IsWritten (left : Contents) (format : Format) (file : List ℕ) (image : Initial) (words : List Patch) (name : List ℕ) : Type 0 where
  pub bytes : HoldsBytes left name (changed format file words)
  pub loads : LoadsChanged format file image words

-- where no program is known to be enough the file is as it was
abbrev pub IsKept : (held left : Contents) → Fences → Initial → (file name : List ℕ) → Option (List Patch) → Type 0
IsKept held left fences image file name None = left name ≡ held name
IsKept held left fences image file name (Some words) = IsWritten left (format_of fences.raw) file image words name

-- if one was named
abbrev pub IsProgramKept : (held left : Contents) → Fences → Initial → (file : List ℕ) → Allowance → Option Name → Type 0
IsProgramKept held left fences image file allowance None = Unit {0}
IsProgramKept held left fences image file allowance (Some name) = IsKept held left fences image file name.now (enough_words allowance)
