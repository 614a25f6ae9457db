-- What a search under a memory model has told, written and judged.
use Rattle.std.specs.Prelude.{◌≡◌, ◌≢◌, ◌<◌, ◌≤◌, ◌⊎◌, ◌==◌, ◌||◌, ℕ, All, Bool, IfSome, List, Option, false, length, map, min, not, true}
use Rattle.std.specs.Io.KnownBytes.{Appends}
use Rattle.std.specs.List.Sorted.{IsStrictlySortedBy}
use Rattle.std.specs.Ordering.{on}
use Rattle.explore_command.specs.ModelKeeping.{AreKeptOf, IsFileOf}
use Rattle.explore_command.specs.Telling.{AreRemarked}
use Rattle.architecture_outcomes.specs.declared.architecture.Architecture.{Architecture}
use Rattle.architecture_outcomes.specs.Failings.{IsDecidedStop, IsShown, TellsEachStop, failures_in}
use Rattle.architecture_outcomes.specs.Outcomes.{IsDecided, IsWitnessed, TellsEachEnd, end_of, ends_of}
use Rattle.architecture_outcomes.specs.Text.{architecture_text}
use Rattle.architecture_outcomes.specs.Visited.{AreMachineStates, TellsEnd}
use Rattle.command_files.specs.Faults.{Name}
use Rattle.command_files.specs.Contents.{Contents}
use Rattle.command_files.specs.Sizes.{IsInside, config_named}
use Rattle.command_files.specs.declared.fault.Fault.{Fault}
use Rattle.command_settings.specs.declared.wanted.Explore.{Explore}
use Rattle.elf_loader.specs.Image.{Initial}
use Rattle.exploration_text.specs.Words.{end_text}
use Rattle.explore_command.specs.Exploring.{IsExploreFault}
use Rattle.explore_command.specs.Judging.{HaveRefusals, IsJudged, IsToldBy, fail_lines, have_failure, is_complete}
use Rattle.explore_command.specs.Keeping.{HasName, IsInNamed, SparesOthers}
use Rattle.command_files.specs.declared.allowing.Judgement.{Judgement}
use Rattle.command_files.specs.declared.allowing.Judgement.TheVariants.{Allowed}
use Rattle.flat_model.specs.Flat.{Flat}
use Rattle.machine_types.specs.declared.config.Config.{Config}
use Rattle.explore_command.specs.Asking.{HasProgram, HasUnshown}
use Rattle.explore_command.specs.Targets.{names_of}
use Rattle.state_search.specs.declared.findings.Extent.{Extent}
use Rattle.state_search.specs.declared.findings.Extent.TheVariants.{Complete, LimitMet}
use Rattle.state_search.specs.declared.findings.Extent.TheVariants as extent
use Rattle.architecture_outcomes.specs.Complete.{TellsEachAllowed}
use Rattle.architecture_outcomes.specs.FailingRuns.{TellsEachFailing}
use Rattle.architecture_outcomes.specs.Met.{HasMet}
use Rattle.architecture_outcomes.specs.Stops.{AreOnce}
use Rattle.architecture_outcomes.specs.LeftOut.{keeps_limit}
use Rattle.architecture_outcomes.specs.Reach.{Reach}
use Rattle.architecture_outcomes.specs.TheVariants as reach
use Rattle.state_search.specs.declared.until.Ending.TheVariants.{First, Time}
use Rattle.explorer.specs.Ranks.{outcome_cmp}

-- what is said to show an outcome does; where the machine's own search is complete, each of its outcomes is told as one of the machine, and each other as the model's alone;
-- where the search under the model left nothing out, each outcome that the model allows is told, and each hart that stops in a run that it allows, whatever the others do then; what is said to show such a hart does, none is told twice, and where the machine's own search is complete, each that it stops is told as one of the machine, and each other as the model's alone; that search finds no state only where it says that it left out more; the machine's search finds no more states than the limit, and says where it met it; the model's finds no more, unless it says that it met the limit, and then it did, or was ended, or that memory ended; each other bound that it says it met was met, and there;
-- the outcomes stand in their order, each once; unless memory ended the machine's search, each end among its states is told as the machine's; the window told is the one asked for, 64 where that is more
pub record IsFoundUnder (image : Initial) (config : Config) (addresses : List ℕ) (window limit : ℕ) (found : Architecture) : Type 0 where
  pub shown : All (IsWitnessed image config addresses) found.outcomes.items
  pub machine : found.machine ≡ Complete → TellsEachEnd image config addresses found.outcomes.items
  pub alone : found.machine ≡ Complete → All (λ o. IsDecided o.way) found.outcomes.items
  pub allowed : found.reach ≡ reach.Whole → TellsEachAllowed image config addresses (ends_of found.outcomes.items)
  pub failing : found.reach ≡ reach.Whole → TellsEachFailing image config (failures_in found.failures.items)
  pub stopped : All (IsShown image config addresses) found.failures.items
  pub stopped_once : AreOnce (failures_in found.failures.items)
  pub stopped_machine : found.machine ≡ Complete → TellsEachStop image config found.failures.items
  pub stopped_alone : found.machine ≡ Complete → All IsDecidedStop found.failures.items
  pub opens : found.reach ≡ reach.Whole → 0 < found.states
  pub bounded : keeps_limit found.reach ≡ true → found.states ≤ limit
  pub limited : found.reach ≡ reach.LimitMet → limit < found.states
  pub met : HasMet image found.window found.reach
  pub order : IsStrictlySortedBy (on end_of outcome_cmp) found.outcomes.items
  pub within : found.machine_states ≤ limit
  pub full : found.machine ≡ LimitMet → found.machine_states ≡ limit
  pub model : found.model ≡ config.model
  pub visited : (states : List Flat) × AreMachineStates image config addresses found.machine found.machine_states (TellsEnd found.outcomes.items) states
  pub window_is : found.window ≡ min window 64

-- neither search met a bound
abbrev pub is_whole : Reach → Extent → Bool
is_whole reach.Whole e = is_complete e
is_whole _ e = false

-- it tells a hart that stops, whatever the other harts do then
abbrev pub tells_stops : Architecture → Bool
tells_stops found = not (length found.failures.items == 0)

-- what else it came to that it may not; it doesn't look for states from which no schedule ends
abbrev pub search_fails : Option Name → Architecture → List ℕ
search_fails list found = fail_lines list (tells_stops found || have_failure (map (λ o. (end_of o).results) found.outcomes.items)) false (not (is_whole found.reach found.machine))

-- it was found of the image in the file, with the words where its symbols say
pub record IsOfFile (held : Contents) (wanted : Explore) (words : List Name) (window : ℕ) (architecture : Architecture) : Type 0 where
  pub image : Initial
  pub addresses : List ℕ
  pub program : HasProgram held wanted words image addresses
  pub inside : IsInside wanted.machine
  pub found : IsFoundUnder image (config_named wanted.machine inside) addresses window wanted.states architecture

-- what was found was printed, what shows it is in the folder, if one was named, and each other file is as before, and it was judged by the file that says what is allowed; it ended at the first only where that was asked for, and by the clock only where it was given seconds; it is allowed only where memory sufficed for both searches
pub record IsSearched (held left : Contents) (wanted : Explore) (words : List Name) (window : ℕ) (judgement : Judgement) (old new : Option (List ℕ)) : Type 0 where
  pub architecture : Architecture
  pub of_file : IsOfFile held wanted words window architecture
  pub printed : Appends old new (architecture_text (names_of words) of_file.program.symbols architecture)
  pub named : HasName wanted.scripts
  pub kept : IfSome wanted.scripts (λ folder. AreKeptOf architecture left (config_named wanted.machine of_file.inside) wanted.machine.memory folder.now)
  pub first : architecture.reach ≡ reach.Ended First → wanted.first ≡ true
  pub timed : architecture.reach ≡ reach.Ended Time → 0 < wanted.seconds
  pub spared : SparesOthers (IsInNamed wanted.scripts (IsFileOf architecture)) held left
  pub judged : IsJudged held wanted.allow (map (λ o. end_text (names_of words) (end_of o)) architecture.outcomes.items) (search_fails wanted.fail_on architecture) judgement
  pub whole : judgement ≡ Allowed → (architecture.machine ≢ extent.OutOfMemory) × (architecture.reach ≢ reach.OutOfMemory)

-- P holds of the text of what was found
pub record SearchHas (held : Contents) (wanted : Explore) (words : List Name) (window : ℕ) (P : List ℕ → Type 0) : Type 0 where
  pub architecture : Architecture
  pub of_file : IsOfFile held wanted words window architecture
  pub of_text : P (architecture_text (names_of words) of_file.program.symbols architecture)

-- standard error was told of the traces that show the outcomes that were printed, and then of the outcomes that aren't allowed
pub record IsSearchNoted (held : Contents) (wanted : Explore) (words : List Name) (window : ℕ) (judgement : Judgement) (old new before after : Option (List ℕ)) : Type 0 where
  pub architecture : Architecture
  pub of_file : IsOfFile held wanted words window architecture
  pub printed : Appends old new (architecture_text (names_of words) of_file.program.symbols architecture)
  pub between : Option (List ℕ)
  pub remarked : AreRemarked wanted.scripts architecture.outcomes.items before between
  pub refusals : HaveRefusals held wanted.allow (map (λ o. end_text (names_of words) (end_of o)) architecture.outcomes.items) (search_fails wanted.fail_on architecture) (IsToldBy judgement between after)

-- as an exploration has them; or one of the words can't be shown
abbrev pub IsSearchFault : Contents → Explore → List Name → Fault → Type 0
IsSearchFault held wanted words fault = IsExploreFault held wanted fault ⊎ HasUnshown held wanted words fault
