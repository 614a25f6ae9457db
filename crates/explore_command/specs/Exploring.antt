-- What an exploration has told, written and judged, and which faults it tells.
use Rattle.std.specs.Prelude.{◌≡◌, ◌≢◌, ◌⊎◌, ◌≤◌, ◌==◌, ◌||◌, Bool, ℕ, [], All, IfSome, List, is_some, length, map, None, not, Option, Some}
use Rattle.std.specs.Io.KnownBytes.{Appends}
use Rattle.std.specs.List.Sorted.{IsStrictlySortedBy}
use Rattle.std.specs.Ordering.{on}
use Rattle.command_files.specs.Faults.{IsImageFault, IsNoImage, IsReadFault, Name}
use Rattle.command_files.specs.Allowing.{IsNamedBy}
use Rattle.command_files.specs.Contents.{Contents}
use Rattle.command_files.specs.Sizes.{IsInside, IsOutside, config_named}
use Rattle.command_files.specs.declared.fault.Fault.{Fault}
use Rattle.command_files.specs.declared.fault.Fault.TheVariants.{CannotMake, CannotRead, CannotWrite, Configuration, Image, OutOfMemory}
use Rattle.command_settings.specs.declared.wanted.Explore.{Explore}
use Rattle.elf_loader.specs.Image.{Initial}
use Rattle.elf_symbols.specs.Named.{Named}
use Rattle.exploration_text.specs.Words.{end_text, exploration_text}
use Rattle.explore_command.specs.Judging.{HaveRefusals, IsJudged, fail_lines, have_failure, is_complete}
use Rattle.explore_command.specs.Keeping.{AreKept, HasName, IsInNamed, IsScriptOf, SparesOthers}
use Rattle.explore_command.specs.Sought.{EndsJudged}
use Rattle.command_files.specs.declared.allowing.Judgement.{Judgement}
use Rattle.command_files.specs.declared.allowing.Judgement.TheVariants.{Allowed}
use Rattle.explorer.specs.Ends.{IsRealIn, outcome_of, outcomes_of}
use Rattle.explorer.specs.Failures.{AreOnce, HasEachFailure, IsRealFailure, failures_of}
use Rattle.explorer.specs.Outcomes.{CanAlwaysEnd, HasEachEnd}
use Rattle.explorer.specs.Ranks.{outcome_cmp}
use Rattle.explorer.specs.Stuck.{IsStuckIn}
use Rattle.explorer.specs.Visited.{AreVisited}
use Rattle.explorer.specs.declared.exploration.Exploration.{Exploration}
use Rattle.flat_model.specs.Flat.{Flat}
use Rattle.machine_types.specs.declared.config.Config.{Config}
use Rattle.command_files.specs.Named.{HoldsNamedImage}
pub use Rattle.search_files.specs.Faults.{ComesBeforeScripts, IsFolderFault, LeavesPart}
use Rattle.state_search.specs.declared.findings.Extent.TheVariants.{Complete, LimitMet}
use Rattle.state_search.specs.declared.findings.Extent.TheVariants as extent

-- it tells a hart that stops, whatever the other harts do then
abbrev pub tells_failures : Exploration → Bool
tells_failures found = not (length found.failures.items == 0)

-- what else it came to that it may not
abbrev pub exploration_fails : Option Name → Exploration → List ℕ
exploration_fails list found = fail_lines list (tells_failures found || have_failure (map (λ f. (outcome_of f).results) found.outcomes.items)) (is_some found.stuck) (not (is_complete found.extent))

-- ---- what is found

-- each end is a flat run's, with the words at these addresses, and its script, where there is one, leads there; where it says complete no end is missing, and where nothing is stuck each flat run can go on to an end, and one is told;
-- the ends stand in their order, each once; there are states, no more than the limit, as many as it says, that were found;
-- each failure is a flat run's, with how the harts stand there, and its script, where there is one, leads there; none is told twice, and where it says complete none is missing, whatever the other harts do then
pub record IsFoundIn (image : Initial) (config : Config) (addresses : List ℕ) (limit : ℕ) (found : Exploration) : Type 0 where
  pub real : All (IsRealIn image config addresses) found.outcomes.items
  pub complete : found.extent ≡ Complete → HasEachEnd image config addresses (outcomes_of found.outcomes.items)
  pub none_stuck : found.extent ≡ Complete → found.stuck ≡ None → CanAlwaysEnd image config addresses
  pub some : found.extent ≡ Complete → found.stuck ≡ None → found.outcomes.items ≢ []
  pub stuck : IfSome found.stuck (IsStuckIn image config addresses)
  pub order : IsStrictlySortedBy (on outcome_of outcome_cmp) found.outcomes.items
  pub within : found.states ≤ limit
  pub full : found.extent ≡ LimitMet → found.states ≡ limit
  pub visited : (states : List Flat) × AreVisited image config addresses found states
  pub failures : All (IsRealFailure image config addresses) found.failures.items
  pub failures_once : AreOnce (failures_of found.failures.items)
  pub each_failure : found.extent ≡ Complete → HasEachFailure image config (failures_of found.failures.items)

-- what was found of the image in the file was printed, with the names that the file has, its scripts are in the folder, if one was named, and each other file is as before, and it was judged by the file that says what is allowed; it is allowed only where memory sufficed for all states, or for as many as were asked for; and it ended at the first of what it found only where that was asked for, and it tells what may end it
pub record IsExplorationTold (held left : Contents) (wanted : Explore) (judgement : Judgement) (old new : Option (List ℕ)) : Type 0 where
  pub image : Initial
  pub symbols : List Named
  pub exploration : Exploration
  pub image_file : HoldsNamedImage held wanted.raw wanted.image.now wanted.machine.memory image symbols
  pub inside : IsInside wanted.machine
  pub found : IsFoundIn image (config_named wanted.machine inside) [] wanted.states exploration
  pub printed : Appends old new (exploration_text [] symbols exploration)
  pub named : HasName wanted.scripts
  pub kept : IfSome wanted.scripts (λ folder. AreKept left (config_named wanted.machine inside) wanted.machine.memory folder.now exploration)
  pub spared : SparesOthers (IsInNamed wanted.scripts (IsScriptOf (length exploration.outcomes.items) (length exploration.failures.items) exploration.stuck)) held left
  pub judged : IsJudged held wanted.allow (map (λ f. end_text [] (outcome_of f)) exploration.outcomes.items) (exploration_fails wanted.fail_on exploration) judgement
  pub whole : judgement ≡ Allowed → exploration.extent ≢ extent.OutOfMemory
  pub ends : EndsJudged wanted.first wanted.seconds judgement exploration

-- P holds of the text of what was found of the image in the file
pub record ExplorationHas (held : Contents) (wanted : Explore) (P : List ℕ → Type 0) : Type 0 where
  pub image : Initial
  pub symbols : List Named
  pub exploration : Exploration
  pub image_file : HoldsNamedImage held wanted.raw wanted.image.now wanted.machine.memory image symbols
  pub inside : IsInside wanted.machine
  pub found : IsFoundIn image (config_named wanted.machine inside) [] wanted.states exploration
  pub of_text : P (exploration_text [] symbols exploration)

-- P holds of what is to be told of the outcomes that were printed, those of the image in the file
pub record ExplorationRefusals (held : Contents) (wanted : Explore) (old new : Option (List ℕ)) (P : List ℕ → Type 0) : Type 0 where
  pub image : Initial
  pub symbols : List Named
  pub exploration : Exploration
  pub image_file : HoldsNamedImage held wanted.raw wanted.image.now wanted.machine.memory image symbols
  pub inside : IsInside wanted.machine
  pub found : IsFoundIn image (config_named wanted.machine inside) [] wanted.states exploration
  pub printed : Appends old new (exploration_text [] symbols exploration)
  pub refusals : HaveRefusals held wanted.allow (map (λ f. end_text [] (outcome_of f)) exploration.outcomes.items) (exploration_fails wanted.fail_on exploration) P

-- ---- faults

-- the file that says what is allowed, or the image, can't be read or used
abbrev pub IsReadingFault : Contents → Explore → Fault → Type 0
IsReadingFault held explore fault = IsNamedBy explore.allow IsReadFault fault ⊎ IsImageFault held explore.raw explore.image explore.machine.memory fault

-- or the machine is out of limits, or no script could be written into the folder that was named
abbrev pub IsFirstFault : Contents → Explore → Fault → Type 0
IsFirstFault held explore fault = ((fault ≡ Configuration) × IsOutside explore.machine) ⊎ (IsReadingFault held explore fault ⊎ IsNamedBy explore.scripts IsFolderFault fault)

-- which faults there are, and of which file; the image is refused for the cause that is told
abbrev pub IsExploreFault : Contents → Explore → Fault → Type 0
IsExploreFault held explore Configuration = IsOutside explore.machine
IsExploreFault held explore (CannotRead file) = (file ≡ explore.image) ⊎ (explore.allow ≡ Some file)
IsExploreFault held explore (Image file error) = (file ≡ explore.image) × IsNoImage held explore.raw explore.image.now explore.machine.memory error
IsExploreFault held explore (CannotMake file) = explore.scripts ≡ Some file
IsExploreFault held explore CannotWrite = Unit {0}
IsExploreFault held explore OutOfMemory = Unit {0}
IsExploreFault held explore _ = ⊥
