-- The scripts that an exploration leaves in a folder.
use Rattle.std.specs.Prelude.{ℕ, ◌≡◌, ◌⊎◌, ◌+◌, ◌<◌, ◌∷◌, ◌++◌, [], IfSome, IsSome, List, Option, codes, decimal}
use Rattle.std.specs.Borrow.{Bor}
use Rattle.command_files.specs.Files.{HoldsScript}
use Rattle.command_files.specs.Contents.{Contents}
use Rattle.command_files.specs.Sizes.{script_for}
use Rattle.explorer.specs.declared.exploration.Exploration.{Exploration}
use Rattle.explorer.specs.declared.exploration.Stuck.{Stuck}
use Rattle.explorer.specs.declared.found.Found.{Found}
use Rattle.explorer.specs.declared.found.FoundFailure.{FoundFailure}
use Rattle.explorer.specs.declared.found.Realisation.{Realisation}
use Rattle.explorer.specs.declared.found.Realisation.TheVariants.{Events}
use Rattle.machine_types.specs.declared.config.Config.{Config}
pub use Rattle.search_files.specs.Folders.{FileName, HasName, IsInNamed, SparesOthers}

-- FOLDER/outcome-NUMBER.script
abbrev pub outcome_path : FileName → ℕ → FileName
outcome_path folder number = folder ++ (codes "/outcome-" ++ (decimal number ++ codes ".script"))

-- FOLDER/failure-NUMBER.script
abbrev pub failure_path : FileName → ℕ → FileName
failure_path folder number = folder ++ (codes "/failure-" ++ (decimal number ++ codes ".script"))

-- FOLDER/stuck.script
abbrev pub stuck_path : FileName → FileName
stuck_path folder = folder ++ codes "/stuck.script"

-- the file has the script of these events, for this machine with so much memory
abbrev pub IsKeptAt : Contents → Config → (kib : ℕ) → FileName → Realisation → Type 0
IsKeptAt left config kib path (Events events) = HoldsScript left path (script_for config kib events.items)
IsKeptAt left config kib path _ = ⊥

-- each one's script in the file of its number, counted from a number on
abbrev pub AreNumbered : {X : Type 0} → Contents → Config → (kib : ℕ) → (path : ℕ → FileName) (script : X → Realisation) → ℕ → List X → Type 0
AreNumbered left config kib path script number [] = Unit {0}
AreNumbered left config kib path script number (x ∷ rest) = IsKeptAt left config kib (path number) (script x) × AreNumbered left config kib path script (number + 1) rest

-- each outcome's script
abbrev pub AreKeptFrom : Contents → Config → (kib : ℕ) → FileName → ℕ → List Found → Type 0
AreKeptFrom left config kib folder = AreNumbered left config kib (outcome_path folder) (λ (f : Found). f.script)

-- each failure's script
abbrev pub AreFailuresKept : Contents → Config → (kib : ℕ) → FileName → ℕ → List FoundFailure → Type 0
AreFailuresKept left config kib folder = AreNumbered left config kib (failure_path folder) (λ (f : FoundFailure). f.script)

-- each outcome's script, each failure's, and one that gets stuck, if any does
pub record AreKept (left : Contents) (config : Config) (kib : ℕ) (folder : FileName) (e : Exploration) : Type 0 where
  pub outcomes : AreKeptFrom left config kib folder 1 e.outcomes.items
  pub failures : AreFailuresKept left config kib folder 1 e.failures.items
  pub stuck : IfSome e.stuck (λ stuck. IsKeptAt left config kib (stuck_path folder) stuck.script)

-- the file is one of those scripts
abbrev pub IsScriptIn : FileName → FileName → Type 0
IsScriptIn folder name = ((number : ℕ) × (name ≡ outcome_path folder number)) ⊎ (((number : ℕ) × (name ≡ failure_path folder number)) ⊎ (name ≡ stuck_path folder))

-- the file is that of one of so many numbers
abbrev pub IsNumbered : (path : ℕ → FileName) (count : ℕ) (name : FileName) → Type 0
IsNumbered path count name = (i : ℕ) × (i < count) × (name ≡ path (i + 1))

-- the file is the script of one of so many outcomes
abbrev pub IsOutcomeScript : (count : ℕ) (folder name : FileName) → Type 0
IsOutcomeScript count folder name = IsNumbered (outcome_path folder) count name

-- or of one of so many failures
abbrev pub IsFailureScript : (count : ℕ) (folder name : FileName) → Type 0
IsFailureScript count folder name = IsNumbered (failure_path folder) count name

-- or that of what gets stuck, if anything does
abbrev pub IsScriptOf : (outcomes failures : ℕ) (stuck : Option Stuck) (folder name : FileName) → Type 0
IsScriptOf outcomes failures stuck folder name = IsOutcomeScript outcomes folder name ⊎ (IsFailureScript failures folder name ⊎ (IsSome stuck × (name ≡ stuck_path folder)))

abbrev pub IsScriptFile : Option (Bor FileName) → FileName → Type 0
IsScriptFile folder name = IsInNamed folder IsScriptIn name
