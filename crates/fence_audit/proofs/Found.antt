-- A search of an image with words replaced.
use Rattle.std.proofs.Common.{◌≡◌, ◌≤◌, true, ℕ, All, Err, IfOk, List, Ok, Result, arith, length, min}
use Rattle.std.specs.List.Sorted.{IsStrictlySortedBy}
use Rattle.std.specs.Ordering.{on}
use Rattle.std.specs.declared.alloc.AllocError.{AllocError}
use Rattle.std.proofs.lemmas.List.Elements.{All-weaker}
use Rattle.architecture_outcomes.specs.FailingRuns.{TellsEachFailing}
use Rattle.architecture_outcomes.specs.Failings.{IsShown, failures_in}
use Rattle.architecture_outcomes.specs.Outcomes.{IsDecided, IsWitnessed, TellsEachEnd, end_of, ends_of}
use Rattle.architecture_outcomes.specs.declared.architecture.Architecture.{Architecture}
use Rattle.elf_loader.specs.Image.{Initial}
use Rattle.exploration_text.specs.Ranks.{outcome_cmp}
use Rattle.architecture_outcomes.specs.Words.{CanShow, CanShowEach}
use Rattle.fence_audit.specs.Answers.{IsMachineSearchOf, IsSearchIn, IsSearchOf}
use Rattle.fence_audit.specs.declared.searches.World.{World}
use Rattle.fence_audit.specs.declared.searches.World.TheVariants.{Machine, Model}
use Rattle.machine_types.specs.declared.config.Config.{Config}
use Rattle.state_search.specs.declared.findings.Extent.TheVariants.{Complete}
use Rattle.architecture_outcomes.specs.Complete.{TellsEachAllowed}
use Rattle.architecture_outcomes.specs.LeftOut.{keeps_limit}
use Rattle.architecture_outcomes.specs.TheVariants.{Whole}

-- words that can be shown of an image can be shown of one of the same size
pub shows_same : (image made : Initial) (addresses : List ℕ) → length made.bytes ≡ length image.bytes → CanShowEach image addresses → CanShowEach made addresses
shows_same image made addresses same all = All-weaker (CanShow image) (CanShow made) (λ address is. still address is) addresses all
  where
    still : (address : ℕ) → CanShow image address → CanShow made address
    still address is = (is.0, (is.1.0, omega arith))

module _ (image : Initial) (config : Config) (addresses : List ℕ) (window limit : ℕ) where
  pub searched : (r : Result Architecture AllocError) → IfOk r (λ a. All (IsWitnessed image config addresses) a.outcomes.items)
      → IfOk r (λ a. a.machine ≡ Complete → TellsEachEnd image config addresses a.outcomes.items) → IfOk r (λ a. a.machine ≡ Complete → All (λ o. IsDecided o.way) a.outcomes.items)
      → IfOk r (λ a. a.reach ≡ Whole → TellsEachAllowed image config addresses (ends_of a.outcomes.items))
      → IfOk r (λ a. a.reach ≡ Whole → TellsEachFailing image config (failures_in a.failures.items)) → IfOk r (λ a. All (IsShown image config addresses) a.failures.items)
      → IfOk r (λ a. keeps_limit a.reach ≡ true → a.states ≤ limit) → IfOk r (λ a. IsStrictlySortedBy (on end_of outcome_cmp) a.outcomes.items)
      → IfOk r (λ a. a.model ≡ config.model) → IfOk r (λ a. a.window ≡ min window 64) → IfOk r (IsSearchOf image config addresses window limit)
  searched (Ok a) shown machine alone allowed failing stopped bounded order model width =
      record { shown = shown; machine = machine; alone = alone; allowed = allowed; failing = failing; stopped = stopped; bounded = bounded; order = order; model = model; window_is = width }
  searched (Err error) shown machine alone allowed failing stopped bounded order model width = tt

-- what a search found within few states is what it may find within more
module _ (image : Initial) (config : Config) (addresses : List ℕ) (window few more : ℕ) (fewer : few ≤ more) where
  more_of_model : (a : Architecture) → IsSearchOf image config addresses window few a → IsSearchOf image config addresses window more a
  more_of_model a is = record { shown = is.shown; machine = is.machine; alone = is.alone; allowed = is.allowed; failing = is.failing; stopped = is.stopped; bounded = λ keeps. omega (arith, is.bounded keeps, fewer); order = is.order; model = is.model; window_is = is.window_is }

  more_of_machine : (a : Architecture) → IsMachineSearchOf image config addresses window few a → IsMachineSearchOf image config addresses window more a
  more_of_machine a is = record { shown = is.shown; machine = is.machine; alone = is.alone; failing = is.failing; stopped = is.stopped; bounded = omega (arith, is.bounded, fewer); order = is.order; model = is.model; window_is = is.window_is; unasked = is.unasked }

  more_in : (world : World) (a : Architecture) → IsSearchIn world image config addresses window few a → IsSearchIn world image config addresses window more a
  more_in Model a is = more_of_model a is
  more_in Machine a is = more_of_machine a is

  pub searched_more : (world : World) (r : Result Architecture AllocError) → IfOk r (IsSearchIn world image config addresses window few) → IfOk r (IsSearchIn world image config addresses window more)
  searched_more world (Ok a) is = more_in world a is
  searched_more world (Err error) is = tt
