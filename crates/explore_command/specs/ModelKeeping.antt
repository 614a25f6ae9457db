-- The files in which a folder has what shows the outcomes, and the harts that stop.
use Rattle.std.specs.Prelude.{ℕ, ◌≡◌, ◌⊎◌, ◌+◌, ◌∷◌, ◌++◌, [], All, List, Option, codes, decimal}
use Rattle.std.specs.Borrow.{Bor}
use Rattle.architecture_outcomes.specs.declared.architecture.Architecture.{Architecture}
use Rattle.architecture_outcomes.specs.declared.failing.Failing.{Failing}
use Rattle.architecture_outcomes.specs.declared.outcome.Outcome.{Outcome}
use Rattle.architecture_outcomes.specs.declared.outcome.Way.{Way}
use Rattle.architecture_outcomes.specs.declared.outcome.Way.TheVariants.{Machine, Model, ModelAlone}
use Rattle.command_files.specs.Files.{HoldsScript, HoldsTrace}
use Rattle.command_files.specs.Contents.{Contents}
use Rattle.command_files.specs.Sizes.{script_for}
use Rattle.explore_command.specs.Keeping.{FileName, IsInNamed}
use Rattle.explorer.specs.declared.found.Realisation.TheVariants.{Events, Limit, NoMemory, Unrealised}
use Rattle.machine_types.specs.declared.config.Config.{Config}
use Rattle.trace_text.specs.TraceLimits.{IsTrace}

-- ---- names

abbrev pub outcome_stem : FileName
outcome_stem = codes "/outcome-"

abbrev pub failure_stem : FileName
failure_stem = codes "/failure-"

-- FOLDER/outcome-NUMBER.script or FOLDER/failure-NUMBER.script
abbrev pub script_path : FileName → (stem : FileName) → ℕ → FileName
script_path folder stem number = folder ++ (stem ++ (decimal number ++ codes ".script"))

-- FOLDER/outcome-NUMBER.trace or FOLDER/failure-NUMBER.trace
abbrev pub trace_path : FileName → (stem : FileName) → ℕ → FileName
trace_path folder stem number = folder ++ (stem ++ (decimal number ++ codes ".trace"))

-- a script, where the machine comes there, and else a trace
abbrev pub file_path : FileName → (stem : FileName) → ℕ → Way → FileName
file_path folder stem number (Machine script) = script_path folder stem number
file_path folder stem number (ModelAlone trace) = trace_path folder stem number
file_path folder stem number (Model trace) = trace_path folder stem number

-- ---- what they have

-- the file has the script of these events, for this machine with so much memory, or the trace of the lists and the order
abbrev pub IsWayKeptAt : Contents → Config → (kib : ℕ) → FileName → Way → Type 0
IsWayKeptAt left config kib path (Machine (Events events)) = HoldsScript left path (script_for config kib events.items)
IsWayKeptAt left config kib path (Machine NoMemory) = ⊥
IsWayKeptAt left config kib path (Machine Limit) = ⊥
IsWayKeptAt left config kib path (Machine Unrealised) = ⊥
IsWayKeptAt left config kib path (ModelAlone trace) = HoldsTrace left path trace.history
IsWayKeptAt left config kib path (Model trace) = HoldsTrace left path trace.history

-- its trace, where it is told by one, is within the limits of a trace's text
abbrev pub HasText : Way → Type 0
HasText (Machine script) = Unit {0}
HasText (ModelAlone trace) = IsTrace trace.history
HasText (Model trace) = IsTrace trace.history

abbrev pub outcome_way : Outcome → Way
outcome_way o = o.way

abbrev pub failing_way : Failing → Way
failing_way f = f.way

-- what shows each, counted from a number on
abbrev pub AreWaysKept : {X : Type 0} → (stem : FileName) (way_of : X → Way) → Contents → Config → (kib : ℕ) → FileName → ℕ → List X → Type 0
AreWaysKept stem way_of left config kib folder number [] = Unit {0}
AreWaysKept stem way_of left config kib folder number (x ∷ rest) = IsWayKeptAt left config kib (file_path folder stem number (way_of x)) (way_of x) × AreWaysKept stem way_of left config kib folder (number + 1) rest

-- the file is one of those
abbrev pub IsWayFile : {X : Type 0} → (stem : FileName) (way_of : X → Way) → ℕ → List X → (folder name : FileName) → Type 0
IsWayFile stem way_of number [] folder name = ⊥
IsWayFile stem way_of number (x ∷ rest) folder name = (name ≡ file_path folder stem number (way_of x)) ⊎ IsWayFile stem way_of (number + 1) rest folder name

-- ---- all of them

-- what shows each outcome, and each hart that stops
pub record AreKeptOf (found : Architecture) (left : Contents) (config : Config) (kib : ℕ) (folder : FileName) : Type 0 where
  pub outcomes : AreWaysKept outcome_stem outcome_way left config kib folder 1 found.outcomes.items
  pub failures : AreWaysKept failure_stem failing_way left config kib folder 1 found.failures.items

-- each trace among it has a text
pub record HaveTexts (found : Architecture) : Type 0 where
  pub outcomes : All (λ o. HasText o.way) found.outcomes.items
  pub failures : All (λ f. HasText f.way) found.failures.items

-- the file is one of those
abbrev pub IsFileOf : Architecture → (folder name : FileName) → Type 0
IsFileOf found folder name = IsWayFile outcome_stem outcome_way 1 found.outcomes.items folder name ⊎ IsWayFile failure_stem failing_way 1 found.failures.items folder name

-- the file is one of some number
abbrev pub IsNumberedIn : (stem : FileName) → FileName → FileName → Type 0
IsNumberedIn stem folder name = ((number : ℕ) × (name ≡ script_path folder stem number)) ⊎ ((number : ℕ) × (name ≡ trace_path folder stem number))

-- it is one that shows an outcome, or a hart that stops, of some number
abbrev pub IsFileIn : FileName → FileName → Type 0
IsFileIn folder name = IsNumberedIn outcome_stem folder name ⊎ IsNumberedIn failure_stem folder name

abbrev pub IsFileInNamed : Option (Bor FileName) → FileName → Type 0
IsFileInNamed folder name = IsInNamed folder IsFileIn name
