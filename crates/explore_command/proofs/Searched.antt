-- What is known of a search, and what it leaves.
use Rattle.std.proofs.Common.{◌≡◌, ◌≢◌, ◌++◌, ℕ, IfSome, List, Option, map, subst}
use Rattle.std.specs.Io.KnownBytes.{Appends}
use Rattle.explore_command.specs.ModelKeeping.{AreKeptOf, IsFileOf}
use Rattle.explore_command.specs.Searching.{IsFoundUnder, IsOfFile, IsSearchNoted, IsSearched, SearchHas, search_fails}
use Rattle.explore_command.specs.Telling.{AreRemarked}
use Rattle.architecture_outcomes.specs.declared.architecture.Architecture.{Architecture}
use Rattle.architecture_outcomes.specs.Outcomes.{end_of}
use Rattle.architecture_outcomes.specs.Text.{architecture_text}
use Rattle.command_files.specs.Faults.{Name}
use Rattle.command_files.specs.Contents.{Contents}
use Rattle.command_files.specs.Sizes.{IsInside, config_named}
use Rattle.command_settings.specs.declared.wanted.Explore.{Explore}
use Rattle.elf_loader.specs.Image.{Initial}
use Rattle.exploration_text.specs.declared.wording.WordName.{WordName}
use Rattle.exploration_text.specs.Words.{end_text}
use Rattle.command_files.specs.Allowing.{IsAllowFile}
use Rattle.explore_command.specs.Judging.{IsToldBy, judgement_of_lines, refusals}
use Rattle.explore_command.specs.Keeping.{HasName, IsInNamed, SparesOthers}
use Rattle.command_files.specs.declared.allowing.Judgement.{Judgement}
use Rattle.command_files.specs.declared.allowing.Judgement.TheVariants.{Allowed}
use Rattle.machine_types.specs.declared.config.Config.{Config}
use Rattle.explore_command.proofs.Shown.{judged_of, told_of}
use Rattle.explore_command.specs.Asking.{HasProgramBy}
use Rattle.elf_symbols.specs.Named.{Named}
use Rattle.command_files.specs.Named.{HoldsNamedImage}
use Rattle.explore_command.specs.Targets.{AreAddressesOf, names_of}
use Rattle.state_search.specs.declared.findings.Extent.TheVariants as extent
use Rattle.architecture_outcomes.specs.TheVariants as reach
use Rattle.std.proofs.Common.{◌<◌, ◌≤◌, ◌⊎◌, ◌∙◌, inl, inr, sym, true, Bool, All, Err, IfOk, Ok, Result}
use Rattle.std.specs.Prelude.{min}
use Rattle.std.specs.List.Sorted.{IsStrictlySortedBy}
use Rattle.std.specs.Ordering.{on}
use Rattle.std.specs.declared.alloc.AllocError.{AllocError}
use Rattle.architecture_outcomes.specs.Outcomes.{IsDecided, IsWitnessed, TellsEachEnd, ends_of}
use Rattle.architecture_outcomes.specs.Visited.{AreMachineStates, TellsEnd}
use Rattle.explorer.specs.Ranks.{outcome_cmp}
use Rattle.flat_model.specs.Flat.{Flat}
use Rattle.architecture_outcomes.specs.Complete.{TellsEachAllowed}
use Rattle.architecture_outcomes.specs.LeftOut.{keeps_limit}
use Rattle.architecture_outcomes.specs.Met.{HasMet}
use Rattle.architecture_outcomes.specs.FailingRuns.{TellsEachFailing}
use Rattle.architecture_outcomes.specs.Failings.{HasSought, IsDecidedStop, IsShown, TellsEachStop, failures_in}
use Rattle.architecture_outcomes.specs.Stops.{AreOnce}
use Rattle.allowed_outcomes.specs.declared.allowing.Allowed.{Allowed as Lines}
use Rattle.explore_command.specs.Sought.{EndsUnder, IsRefused, IsRefusedBy, IsSoughtBy}
use Rattle.state_search.specs.declared.until.Ending.TheVariants.{First, Time}

module _ (held : Contents) (wanted : Explore) (words : List Name) (window : ℕ) (config : Config) (image : Initial) (symbols : List Named) (addresses : List ℕ) (names : List WordName) (found : Architecture)
    (inside : IsInside wanted.machine) (config_is : config ≡ config_named wanted.machine inside) (program : HasProgramBy held wanted words image symbols addresses) (named : names ≡ names_of words) (is : IsFoundUnder image config addresses window wanted.states found) where
  of_file : IsOfFile held wanted words window found
  of_file = record {
    image = image;
    addresses = addresses;
    program = record {
      symbols = symbols;
      image_file = subst (λ (s : List Named). HoldsNamedImage held wanted.raw wanted.image.now wanted.machine.memory image s) program.1 program.0.image_file;
      placed = subst (λ (s : List Named). AreAddressesOf s words addresses) program.1 program.0.placed;
      inside = program.0.inside;
    };
    inside = inside;
    found = subst (λ (c : Config). IsFoundUnder image c addresses window wanted.states found) config_is is;
  }

  pub has : (P : List ℕ → Type 0) → P (architecture_text names symbols found) → SearchHas held wanted words window P
  unfolding of_file
  has P so = record { architecture = found; of_file = of_file; of_text = subst (λ (n : List WordName). P (architecture_text n symbols found)) named so }

  pub whole : (old new : Option (List ℕ)) (left : Contents) (judgement : Judgement) (text : Option (List ℕ)) → Appends old new (architecture_text names symbols found) → HasName wanted.scripts → IfSome wanted.scripts (λ folder. AreKeptOf found left config wanted.machine.memory folder.now)
      → EndsUnder wanted.first wanted.seconds names text found → SparesOthers (IsInNamed wanted.scripts (IsFileOf found)) held left
      → IsAllowFile held wanted.allow text → judgement ≡ judgement_of_lines text (map (λ o. end_text names (end_of o)) found.outcomes.items) (search_fails wanted.fail_on found)
      → (judgement ≡ Allowed → (found.machine ≢ extent.OutOfMemory) × (found.reach ≢ reach.OutOfMemory)) → IsSearched held left wanted words window judgement old new
  unfolding of_file
  whole old new left judgement text printed folder kept ends spares read by memory = record {
    architecture = found;
    of_file = of_file;
    printed = subst (λ (n : List WordName). Appends old new (architecture_text n symbols found)) named printed;
    named = folder;
    kept = subst (λ (c : Config). IfSome wanted.scripts (λ folder. AreKeptOf found left c wanted.machine.memory folder.now)) config_is kept;
    first = λ first. (ends.first first).0;
    timed = ends.timed;
    spared = spares;
    judged = judged_of end_of held wanted.allow text names (names_of words) found.outcomes.items (search_fails wanted.fail_on found) judgement named read by;
    whole = memory;
  }

  pub noted : (old new before between after : Option (List ℕ)) (judgement : Judgement) (text : Option (List ℕ)) → Appends old new (architecture_text names symbols found) → AreRemarked wanted.scripts found.outcomes.items before between
      → IsAllowFile held wanted.allow text → IsToldBy judgement between after (refusals text (map (λ o. end_text names (end_of o)) found.outcomes.items) ++ search_fails wanted.fail_on found) → IsSearchNoted held wanted words window judgement old new before after
  unfolding of_file
  noted old new before between after judgement text printed remarked read told = record {
    architecture = found;
    of_file = of_file;
    printed = subst (λ (n : List WordName). Appends old new (architecture_text n symbols found)) named printed;
    between = between;
    remarked = remarked;
    refusals = told_of end_of held wanted.allow text names (names_of words) found.outcomes.items (search_fails wanted.fail_on found) (IsToldBy judgement between after) named read told;
  }

-- what is said of it, fact by fact
pub found_under : (image : Initial) (config : Config) (addresses : List ℕ) (window limit : ℕ) (r : Result Architecture AllocError) → IfOk r (λ a. All (IsWitnessed image config addresses) a.outcomes.items)
    → IfOk r (λ a. a.machine ≡ extent.Complete → TellsEachEnd image config addresses a.outcomes.items) → IfOk r (λ a. a.machine ≡ extent.Complete → All (λ o. IsDecided o.way) a.outcomes.items)
    → IfOk r (λ a. a.reach ≡ reach.Whole → TellsEachAllowed image config addresses (ends_of a.outcomes.items)) → IfOk r (λ a. a.reach ≡ reach.Whole → TellsEachFailing image config (failures_in a.failures.items)) → IfOk r (λ a. All (IsShown image config addresses) a.failures.items) → IfOk r (λ a. AreOnce (failures_in a.failures.items))
    → IfOk r (λ a. a.machine ≡ extent.Complete → TellsEachStop image config a.failures.items) → IfOk r (λ a. a.machine ≡ extent.Complete → All IsDecidedStop a.failures.items) → IfOk r (λ a. a.reach ≡ reach.Whole → 0 < a.states) → IfOk r (λ a. keeps_limit a.reach ≡ true → a.states ≤ limit) → IfOk r (λ a. a.reach ≡ reach.LimitMet → limit < a.states) → IfOk r (λ a. HasMet image a.window a.reach) → IfOk r (λ a. IsStrictlySortedBy (on end_of outcome_cmp) a.outcomes.items)
    → IfOk r (λ a. a.machine_states ≤ limit) → IfOk r (λ a. a.machine ≡ extent.LimitMet → a.machine_states ≡ limit) → IfOk r (λ a. a.model ≡ config.model)
    → IfOk r (λ a. (states : List Flat) × AreMachineStates image config addresses a.machine a.machine_states (TellsEnd a.outcomes.items) states) → IfOk r (λ a. a.window ≡ min window 64) → IfOk r (IsFoundUnder image config addresses window limit)
found_under image config addresses window limit (Ok a) shown machine alone allowed failing stopped stopped_once stopped_machine stopped_alone opens bounded limited met order within full model visited width = record { shown = shown; machine = machine; alone = alone; allowed = allowed; failing = failing; stopped = stopped; stopped_once = stopped_once; stopped_machine = stopped_machine; stopped_alone = stopped_alone; opens = opens; bounded = bounded; limited = limited; met = met; order = order; within = within; full = full; model = model; visited = visited; window_is = width }
found_under image config addresses window limit (Err error) shown machine alone allowed failing stopped stopped_once stopped_machine stopped_alone opens bounded limited met order within full model visited width = tt

-- what ended it
pub ends_under : (is_asked asked : Bool) (seconds waits : ℕ) (names called : List WordName) (text : Option (List ℕ)) (allowed : Option Lines) → asked ≡ is_asked → waits ≡ seconds → called ≡ names → ((line : List ℕ) → IsRefusedBy allowed line → IsRefused text line)
    → (r : Result Architecture AllocError)
    → IfOk r (λ a. a.reach ≡ reach.Ended First → HasSought ((asked ≡ true) ⊎ (asked ≡ true)) (λ end. IsSoughtBy asked called allowed end ⊎ IsSoughtBy asked called allowed end) a.failures.items (ends_of a.outcomes.items)) → IfOk r (λ a. a.reach ≡ reach.Ended Time → (0 < waits) ⊎ (0 < waits))
    → IfOk r (EndsUnder is_asked seconds names text)
ends_under is_asked asked seconds waits names called text allowed same lasts known reads (Ok a) first timed = record {
  first = λ ended. elim (first ended) [
    | inl (asks, some) ↦ (sym same ∙ one asks, inl some)
    | inr (end, there, either) ↦
        let (is, why) = one either in (
          sym same ∙ is,
          inr (
            end,
            there,
            elim why [
              | inl stopped ↦ inl stopped
              | inr refuses ↦ inr (subst (λ (n : List WordName). IsRefused text (end_text n end)) known (reads (end_text called end) refuses))
            ],
          ),
        )
  ];
  timed = λ ended. subst (λ (n : ℕ). 0 < n) lasts (one (timed ended));
}
  where
    one : {X : Type 0} → X ⊎ X → X
    one (inl x) = x
    one (inr x) = x
ends_under is_asked asked seconds waits names called text allowed same lasts known reads (Err error) first timed = tt
