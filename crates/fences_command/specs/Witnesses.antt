-- The runs that show what is lost without each ordering that is needed, as files of a folder.
use Rattle.std.specs.Prelude.{ℕ, ◌≡◌, ◌≢◌, ◌⊎◌, ◌+◌, ◌<◌, ◌∷◌, ◌++◌, [], IfSome, List, None, Option, Some, codes, decimal, length}
use Rattle.std.specs.Borrow.{Bor}
use Rattle.command_files.specs.Contents.{Contents}
use Rattle.command_files.specs.Files.{HoldsScript, HoldsTrace}
use Rattle.command_files.specs.Sizes.{script_for}
use Rattle.command_settings.specs.declared.wanted.Fences.{Fences}
use Rattle.elf_loader.specs.Image.{Initial}
use Rattle.fence_audit.specs.Auditing.{shown_without}
use Rattle.explorer.specs.declared.found.Realisation.{Realisation}
use Rattle.explorer.specs.declared.found.Realisation.TheVariants.{Events, Limit, NoMemory, Unrealised}
use Rattle.architecture_outcomes.specs.declared.outcome.Way.{Way}
use Rattle.architecture_outcomes.specs.declared.outcome.Way.TheVariants.{Machine, Model, ModelAlone}
use Rattle.fence_audit.specs.declared.allowing.Allowance.{Allowance}
use Rattle.fence_audit.specs.declared.allowing.Allowance.TheVariants.{Broken, Kept}
use Rattle.fence_audit.specs.declared.auditing.Audit.{Audit}
use Rattle.fences_command.specs.Keeping.{IsProgramFile, IsUnread, IsWritten, format_of}
use Rattle.image_orderings.specs.Orderings.{orderings_of}
use Rattle.image_orderings.specs.Programs.{patches_without}
use Rattle.image_orderings.specs.declared.orderings.ImageOrdering.{ImageOrdering}
use Rattle.image_orderings.specs.declared.replacing.Patch.{Patch}
use Rattle.machine_types.specs.declared.config.Config.{Config}
use Rattle.search_files.specs.Folders.{FileName, IsInNamed}
use Rattle.trace_text.specs.TraceLimits.{IsTrace}

-- ---- the files

-- FOLDER/needed-NUMBER.ENDING
abbrev pub needed_path : FileName → ℕ → (ending : List ℕ) → FileName
needed_path folder number ending = folder ++ (codes "/needed-" ++ (decimal number ++ (codes "." ++ ending)))

abbrev pub trace_path : FileName → ℕ → FileName
trace_path folder number = needed_path folder number (codes "trace")

abbrev pub script_path : FileName → ℕ → FileName
script_path folder number = needed_path folder number (codes "script")

abbrev pub image_path : FileName → ℕ → FileName
image_path folder number = needed_path folder number (codes "image")

-- the file is one of this number
abbrev pub IsFileOf : FileName → ℕ → FileName → Type 0
IsFileOf folder number name = (name ≡ trace_path folder number) ⊎ ((name ≡ script_path folder number) ⊎ (name ≡ image_path folder number))

-- or of some number
abbrev pub IsNeededFile : FileName → FileName → Type 0
IsNeededFile folder name = (number : ℕ) × IsFileOf folder number name

-- all that the command may write: the program, and these
abbrev pub IsFencesFile : Fences → FileName → Type 0
IsFencesFile fences name = IsProgramFile fences.write name ⊎ IsInNamed fences.scripts IsNeededFile name

-- the file is none that is read, nor the one for the program
pub record IsSpare (fences : Fences) (name : FileName) : Type 0 where
  pub unread : IsUnread fences name
  pub unwritten : IfSome fences.write (λ write. name ≢ write.now)

-- so are those of each number
pub record AreSpare (fences : Fences) (folder : FileName) (number : ℕ) : Type 0 where
  pub trace : IsSpare fences (trace_path folder number)
  pub script : IsSpare fences (script_path folder number)
  pub image : IsSpare fences (image_path folder number)

-- up to a number
abbrev pub AreSpareTo : Fences → FileName → (count : ℕ) → Type 0
AreSpareTo fences folder count = (i : ℕ) → i < count → AreSpare fences folder (i + 1)

-- as many as the image has orderings
abbrev pub AllSpare : Fences → Initial → FileName → Type 0
AllSpare fences image folder = AreSpareTo fences folder (length (orderings_of image))

-- ---- what they have

-- the trace, where it is one, is within the limits of a trace's text
abbrev pub HasText : Way → Type 0
HasText (Machine script) = Unit {0}
HasText (ModelAlone trace) = IsTrace trace.history
HasText (Model trace) = IsTrace trace.history

-- the script of the events that lead the machine there
abbrev pub IsScriptAt : Contents → Config → (kib : ℕ) → FileName → Realisation → Type 0
IsScriptAt left config kib path (Events events) = HoldsScript left path (script_for config kib events.items)
IsScriptAt left config kib path NoMemory = ⊥
IsScriptAt left config kib path Limit = ⊥
IsScriptAt left config kib path Unrealised = ⊥

-- its trace; or the script that leads the machine there, with the program that it is for: the file's bytes but for these words
abbrev pub IsShownAt : Contents → Fences → Config → (kib : ℕ) → Initial → (file : List ℕ) → (words : List Patch) → FileName → ℕ → Way → Type 0
IsShownAt left fences config kib image file words folder number (Machine script) =
    IsScriptAt left config kib (script_path folder number) script × IsWritten left (format_of fences.raw) file image words (image_path folder number)
IsShownAt left fences config kib image file words folder number (ModelAlone trace) = HoldsTrace left (trace_path folder number) trace.history
IsShownAt left fences config kib image file words folder number (Model trace) = HoldsTrace left (trace_path folder number) trace.history

-- ---- for which orderings

-- an ordering, and what shows that it is needed
abbrev pub Needed : Type 0
Needed = ImageOrdering × Way

abbrev pub needed_with : ImageOrdering → Option Way → List Needed → List Needed
needed_with o None rest = rest
needed_with o (Some way) rest = (o, way) ∷ rest

-- of these orderings those that are needed, as another outcome shows, or a hart that stops
abbrev pub needed_in : Audit → List ImageOrdering → List Needed
needed_in audit [] = []
needed_in audit (o ∷ rest) = needed_with o (shown_without audit o) (needed_in audit rest)

-- of the program without the ordering
abbrev pub IsShownWithout : Contents → Fences → Config → (kib : ℕ) → Initial → (file : List ℕ) → Audit → FileName → ℕ → Needed → Type 0
IsShownWithout left fences config kib image file audit folder number (o, way) = IsShownAt left fences config kib image file (patches_without o audit.own.items) folder number way

-- where something shows that the ordering is needed the next number's files show it, and else nothing was written
abbrev pub IsPassed : (held left : Contents) → Fences → Config → (kib : ℕ) → Initial → (file : List ℕ) → Audit → FileName → (number next : ℕ) → ImageOrdering → Option Way → Type 0
IsPassed held left fences config kib image file audit folder number next o None = (next ≡ number) × (left ≡ held)
IsPassed held left fences config kib image file audit folder number next o (Some way) = (next ≡ number + 1) × IsShownWithout left fences config kib image file audit folder next (o, way)

-- each has the files of its number, counted from a number on
abbrev pub AreShownFrom : Contents → Fences → Config → (kib : ℕ) → Initial → (file : List ℕ) → Audit → FileName → ℕ → List Needed → Type 0
AreShownFrom left fences config kib image file audit folder number [] = Unit {0}
AreShownFrom left fences config kib image file audit folder number (n ∷ rest) =
    IsShownWithout left fences config kib image file audit folder number n × AreShownFrom left fences config kib image file audit folder (number + 1) rest

-- those to which a hart may come
abbrev pub AreShown : Contents → Fences → Config → (kib : ℕ) → Initial → (file : List ℕ) → Audit → FileName → Type 0
AreShown left fences config kib image file audit folder = AreShownFrom left fences config kib image file audit folder 1 (needed_in audit audit.met.items)

-- where a folder was named; what is missing shows none
abbrev pub AreShownFor : Contents → Fences → Config → Initial → (file : List ℕ) → Allowance → Option (Bor FileName) → Type 0
AreShownFor left fences config image file allowance None = Unit {0}
AreShownFor left fences config image file (Kept audit) (Some folder) = AreShown left fences config fences.machine.memory image file audit folder.now
AreShownFor left fences config image file (Broken missing) (Some folder) = Unit {0}

-- ---- what is known of what shows them

-- each has a text, where it is a trace
abbrev pub AreReadableOf : Audit → Type 0
AreReadableOf audit = (o : ImageOrdering) (way : Way) → shown_without audit o ≡ Some way → HasText way

abbrev pub AreReadable : Allowance → Type 0
AreReadable (Kept audit) = AreReadableOf audit
AreReadable (Broken missing) = Unit {0}
