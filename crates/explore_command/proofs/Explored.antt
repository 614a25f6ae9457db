-- What is known of an exploration, and what it leaves.
use Rattle.std.proofs.Common.{◌≡◌, ◌≢◌, ℕ, Err, IfErr, IfOk, IfSome, List, None, Ok, Option, Result, Some, [], ap, inr, length, map, subst, sym}
use Rattle.std.specs.Io.KnownBytes.{Appends}
use Rattle.command_files.specs.Faults.{Name}
use Rattle.command_files.specs.Contents.{Contents}
use Rattle.command_files.specs.Sizes.{IsInside, config_named}
use Rattle.command_files.specs.declared.fault.Fault.{Fault}
use Rattle.command_files.specs.declared.fault.Fault.TheVariants.{OutOfMemory}
use Rattle.command_settings.specs.declared.wanted.Explore.{Explore}
use Rattle.elf_loader.specs.Image.{Initial}
use Rattle.elf_symbols.specs.Named.{Named}
use Rattle.exploration_text.specs.Words.{end_text, exploration_text}
use Rattle.command_files.specs.Allowing.{IsAllowFile}
use Rattle.explore_command.specs.Exploring.{IsExploreFault, IsExplorationTold, IsFoundIn, ExplorationHas, ExplorationRefusals, LeavesPart, exploration_fails}
use Rattle.explore_command.specs.Judging.{HaveRefusals, IsJudged, judgement_of_lines}
use Rattle.explore_command.specs.Keeping.{AreKept, HasName, IsInNamed, IsScriptOf, SparesOthers}
use Rattle.explore_command.specs.Sought.{EndsJudged}
use Rattle.command_files.specs.declared.allowing.Judgement.{Judgement}
use Rattle.command_files.specs.declared.allowing.Judgement.TheVariants.{Allowed}
use Rattle.explorer.specs.Ends.{outcome_of}
use Rattle.explorer.specs.declared.exploration.Exploration.{Exploration}
use Rattle.machine_types.specs.declared.config.Config.{Config}
use Rattle.command_files.specs.Named.{HoldsNamedImage}
use Rattle.state_search.specs.declared.findings.Extent.TheVariants as extent
pub use Rattle.search_files.proofs.Files.{all_of, spared, spared_after}
use Rattle.text_fields.specs.Writing.{Begins}
use Rattle.std.proofs.Common.{◌≤◌, All}
use Rattle.std.specs.List.Sorted.{IsStrictlySortedBy}
use Rattle.std.specs.Ordering.{on}
use Rattle.std.specs.declared.alloc.AllocError.{AllocError}
use Rattle.explorer.specs.Ends.{IsRealIn, outcomes_of}
use Rattle.explorer.specs.Failures.{AreOnce, HasEachFailure, IsRealFailure, failures_of}
use Rattle.explorer.specs.Outcomes.{CanAlwaysEnd, HasEachEnd}
use Rattle.explorer.specs.Ranks.{outcome_cmp}
use Rattle.explorer.specs.Stuck.{IsStuckIn}
use Rattle.explorer.specs.Visited.{AreVisited}
use Rattle.flat_model.specs.Flat.{Flat}

pub ok_more : {T E : Type 0} (P Q : T → Type 0) (r : Result T E) → ((x : T) → P x → Q x) → IfOk r P → IfOk r Q
ok_more P Q (Ok x) more so = more x so
ok_more P Q (Err e) more so = tt

pub ok_both : {T E : Type 0} (P Q : T → Type 0) (r : Result T E) → IfOk r P → IfOk r Q → IfOk r (λ x. P x × Q x)
ok_both P Q (Ok x) one other = (one, other)
ok_both P Q (Err e) one other = tt

pub err_more : {T E : Type 0} (P Q : E → Type 0) (r : Result T E) → ((e : E) → P e → Q e) → IfErr r P → IfErr r Q
err_more P Q (Ok x) more so = tt
err_more P Q (Err e) more so = more e so

-- what one file's bytes say of the lines, all files say
pub judged : (held : Contents) (allow : Option Name) (text : Option (List ℕ)) (lines : List (List ℕ)) (fails : List ℕ) (judgement : Judgement) → IsAllowFile held allow text → judgement ≡ judgement_of_lines text lines fails → IsJudged held allow lines fails judgement
judged held None None lines fails judgement read is = is
judged held None (Some text) lines fails judgement read is = absurd read
judged held (Some file) None lines fails judgement read is = absurd read
judged held (Some file) (Some text) lines fails judgement read is = (text, read, is)

module _ (held : Contents) (wanted : Explore) (config : Config) (image : Initial) (symbols : List Named) (found : Exploration)
    (inside : IsInside wanted.machine) (config_is : config ≡ config_named wanted.machine inside) (file : HoldsNamedImage held wanted.raw wanted.image.now wanted.machine.memory image symbols) (is : IsFoundIn image config [] wanted.states found) where
  is_found : IsFoundIn image (config_named wanted.machine inside) [] wanted.states found
  is_found = subst (λ (c : Config). IsFoundIn image c [] wanted.states found) config_is is

  pub has : (P : List ℕ → Type 0) → P (exploration_text [] symbols found) → ExplorationHas held wanted P
  has P so = record { image = image; symbols = symbols; exploration = found; image_file = file; inside = inside; found = is_found; of_text = so }

  pub whole : (old new : Option (List ℕ)) (left : Contents) (judgement : Judgement) → Appends old new (exploration_text [] symbols found) → HasName wanted.scripts → IfSome wanted.scripts (λ folder. AreKept left config wanted.machine.memory folder.now found)
      → SparesOthers (IsInNamed wanted.scripts (IsScriptOf (length found.outcomes.items) (length found.failures.items) found.stuck)) held left
      → IsJudged held wanted.allow (map (λ f. end_text [] (outcome_of f)) found.outcomes.items) (exploration_fails wanted.fail_on found) judgement → (judgement ≡ Allowed → found.extent ≢ extent.OutOfMemory) → EndsJudged wanted.first wanted.seconds judgement found → IsExplorationTold held left wanted judgement old new
  whole old new left judgement told named kept spares by memory ends = record {
    image = image;
    symbols = symbols;
    exploration = found;
    image_file = file;
    inside = inside;
    found = is_found;
    printed = told;
    named = named;
    kept = subst (λ (c : Config). IfSome wanted.scripts (λ folder. AreKept left c wanted.machine.memory folder.now found)) config_is kept;
    spared = spares;
    judged = by;
    whole = memory;
    ends = ends;
  }

  pub refusals : (old new : Option (List ℕ)) (P : List ℕ → Type 0) → Appends old new (exploration_text [] symbols found) → HaveRefusals held wanted.allow (map (λ f. end_text [] (outcome_of f)) found.outcomes.items) (exploration_fails wanted.fail_on found) P
      → ExplorationRefusals held wanted old new P
  refusals old new P printed so = record { image = image; symbols = symbols; exploration = found; image_file = file; inside = inside; found = is_found; printed = printed; refusals = so }

pub memory_left : (fault : Fault) (old new : Option (List ℕ)) (Has : (List ℕ → Type 0) → Type 0) → fault ≡ OutOfMemory → Has (Begins old new) → LeavesPart fault old new Has
memory_left fault old new Has is so = subst (λ f. LeavesPart f old new Has) (sym is) (inr so)

pub memory_told : (held : Contents) (explore : Explore) (fault : Fault) → fault ≡ OutOfMemory → IsExploreFault held explore fault
memory_told held explore fault is = subst (IsExploreFault held explore) (sym is) tt

-- what is said of it, fact by fact
pub found_in : (image : Initial) (config : Config) (addresses : List ℕ) (limit : ℕ) (r : Result Exploration AllocError) → IfOk r (λ e. All (IsRealIn image config addresses) e.outcomes.items) → IfOk r (λ e. e.extent ≡ extent.Complete → HasEachEnd image config addresses (outcomes_of e.outcomes.items))
    → IfOk r (λ e. e.extent ≡ extent.Complete → e.stuck ≡ None → CanAlwaysEnd image config addresses) → IfOk r (λ e. e.extent ≡ extent.Complete → e.stuck ≡ None → e.outcomes.items ≢ []) → IfOk r (λ e. IfSome e.stuck (IsStuckIn image config addresses))
    → IfOk r (λ e. IsStrictlySortedBy (on outcome_of outcome_cmp) e.outcomes.items) → IfOk r (λ e. e.states ≤ limit) → IfOk r (λ e. e.extent ≡ extent.LimitMet → e.states ≡ limit) → IfOk r (λ e. (states : List Flat) × AreVisited image config addresses e states)
    → IfOk r (λ e. All (IsRealFailure image config addresses) e.failures.items) → IfOk r (λ e. AreOnce (failures_of e.failures.items)) → IfOk r (λ e. e.extent ≡ extent.Complete → HasEachFailure image config (failures_of e.failures.items)) → IfOk r (IsFoundIn image config addresses limit)
found_in image config addresses limit (Ok e) real complete none_stuck some stuck order within full visited failures once each_failure = record { real = real; complete = complete; none_stuck = none_stuck; some = some; stuck = stuck; order = order; within = within; full = full; visited = visited; failures = failures; failures_once = once; each_failure = each_failure }
found_in image config addresses limit (Err error) real complete none_stuck some stuck order within full visited failures once each_failure = tt
