-- What a search of a changed program told, beside what one of the program as it is told, or a file allows.
use Rattle.std.specs.Prelude.{◌≡◌, ◌≢◌, ◌≤◌, ◌+◌, ◌∷◌, [], ℕ, All, Bool, List, None, Option, Some, false, if◌then◌else◌, min, not, position, true}
use Rattle.std.specs.List.{list_any}
use Rattle.std.specs.List.Sorted.{IsStrictlySortedBy}
use Rattle.std.specs.Ordering.{on}
use Rattle.allowed_outcomes.specs.Allowing.{without_number}
use Rattle.allowed_outcomes.specs.Known.{allows_line}
use Rattle.architecture_outcomes.specs.ExplorerOutcomes.{HasEachEnd}
use Rattle.architecture_outcomes.specs.Outcomes.{IsDecided, IsMachine, IsWitnessed, TellsEachEnd, end_of, ends_of, tells}
use Rattle.architecture_outcomes.specs.declared.architecture.Architecture.{Architecture}
use Rattle.architecture_outcomes.specs.declared.failing.Failing.{Failing}
use Rattle.architecture_outcomes.specs.declared.outcome.Outcome.{Outcome}
use Rattle.architecture_outcomes.specs.Failings.{HasEachFailure, IsShown, failures_in}
use Rattle.architecture_outcomes.specs.FailingRuns.{TellsEachFailing}
use Rattle.architecture_outcomes.specs.Failure.{Failure}
use Rattle.architecture_outcomes.specs.Stops.{is_same_failure}
use Rattle.elf_loader.specs.Image.{Initial}
use Rattle.exploration_text.specs.Words.{end_text}
use Rattle.exploration_text.specs.declared.wording.WordName.{WordName}
use Rattle.exploration_text.specs.Ranks.{outcome_cmp}
use Rattle.fence_audit.specs.declared.answers.Answer.{Answer}
use Rattle.fence_audit.specs.declared.answers.Answer.TheVariants.{Bounded, Fewer, Other, Same, Stops}
use Rattle.fence_audit.specs.declared.answers.Standard.{Standard}
use Rattle.fence_audit.specs.declared.answers.Standard.TheVariants.{AsItIs, Within}
use Rattle.fence_audit.specs.declared.searches.World.{World}
use Rattle.fence_audit.specs.declared.searches.World.TheVariants.{Machine, Model}
use Rattle.machine_types.specs.declared.config.Config.{Config}
use Rattle.state_search.specs.declared.findings.Extent.{Extent}
use Rattle.state_search.specs.declared.findings.Extent.TheVariants as extent
use Rattle.state_search.specs.declared.findings.Extent.TheVariants.{Complete}
use Rattle.architecture_outcomes.specs.Complete.{TellsEachAllowed}
use Rattle.architecture_outcomes.specs.Reach.{Reach}
use Rattle.architecture_outcomes.specs.LeftOut.{keeps_limit}
use Rattle.architecture_outcomes.specs.TheVariants as reach
use Rattle.architecture_outcomes.specs.TheVariants.{Whole}

-- ---- a search

-- what is said to show an outcome does; where the machine's own search is complete, each of its outcomes is told as one of the machine, and each other as the model's alone;
-- where the search under the model left nothing out, each outcome that the model allows is told, and each hart that stops in a run that it allows, whatever the others do then; what is said to show such a hart does; it finds no more states than the limit, unless it says that it met one or that memory ended; the outcomes stand in their order, each once
pub record IsSearchOf (image : Initial) (config : Config) (addresses : List ℕ) (window limit : ℕ) (found : Architecture) : Type 0 where
  pub shown : All (IsWitnessed image config addresses) found.outcomes.items
  pub machine : found.machine ≡ Complete → TellsEachEnd image config addresses found.outcomes.items
  pub alone : found.machine ≡ Complete → All (λ o. IsDecided o.way) found.outcomes.items
  pub allowed : found.reach ≡ Whole → TellsEachAllowed image config addresses (ends_of found.outcomes.items)
  pub failing : found.reach ≡ Whole → TellsEachFailing image config (failures_in found.failures.items)
  pub stopped : All (IsShown image config addresses) found.failures.items
  pub bounded : keeps_limit found.reach ≡ true → found.states ≤ limit
  pub order : IsStrictlySortedBy (on end_of outcome_cmp) found.outcomes.items
  pub model : found.model ≡ config.model
  pub window_is : found.window ≡ min window 64

abbrev pub whole_by : Reach → Extent → Bool
whole_by Whole Complete = true
whole_by _ _ = false

-- the same of a search of this machine alone, of which nothing is asked of the model, and so nothing of it left out: each outcome is told as the machine's, and where the search is complete, each that it has; so is each hart that it stops
pub record IsMachineSearchOf (image : Initial) (config : Config) (addresses : List ℕ) (window limit : ℕ) (found : Architecture) : Type 0 where
  pub shown : All (IsWitnessed image config addresses) found.outcomes.items
  pub machine : found.machine ≡ Complete → HasEachEnd image config addresses (ends_of found.outcomes.items)
  pub alone : All (λ o. IsMachine o.way) found.outcomes.items
  pub failing : found.machine ≡ Complete → HasEachFailure image config (failures_in found.failures.items)
  pub stopped : All (IsShown image config addresses) found.failures.items
  pub bounded : found.machine_states ≤ limit
  pub order : IsStrictlySortedBy (on end_of outcome_cmp) found.outcomes.items
  pub model : found.model ≡ config.model
  pub window_is : found.window ≡ min window 64
  pub unasked : found.reach ≡ Whole

-- of what is asked
abbrev pub IsSearchIn : World → Initial → Config → (addresses : List ℕ) → (window limit : ℕ) → Architecture → Type 0
IsSearchIn Model image config addresses window limit found = IsSearchOf image config addresses window limit found
IsSearchIn Machine image config addresses window limit found = IsMachineSearchOf image config addresses window limit found

-- neither the search under the model nor the machine's own met a bound
abbrev pub is_whole : Architecture → Bool
is_whole found = whole_by found.reach found.machine

abbrev pub lacked_by : Reach → Extent → Bool
lacked_by reach.OutOfMemory _ = true
lacked_by _ extent.OutOfMemory = true
lacked_by _ _ = false

-- one of the two ended for want of memory
abbrev pub lacked_memory : Architecture → Bool
lacked_memory found = lacked_by found.reach found.machine

-- ---- beside another

-- it is one of these
abbrev pub has_end : List Outcome → Outcome → Bool
has_end outcomes o = list_any (tells (end_of o)) outcomes

-- the place of the first that isn't one of the others
abbrev pub first_beyond : (others outcomes : List Outcome) → Option ℕ
first_beyond others = position (λ o. not (has_end others o))

-- one of these harts stops so
abbrev pub has_stop : List Failing → Failure → Bool
has_stop failings x = list_any (λ (f : Failing). is_same_failure f.failure x) failings

-- the place of the first hart that stops as none of the others does
abbrev pub first_stop_beyond : (others failings : List Failing) → Option ℕ
first_stop_beyond others = position (λ (f : Failing). not (has_stop others f.failure))

-- another outcome counts whatever was left out, and else another hart that stops; and that there is none, or one outcome less, only where nothing was
abbrev pub answer_by : (other stops missing : Option ℕ) → (whole : Bool) → Answer
answer_by (Some place) stops missing whole = Other place
answer_by None (Some place) missing whole = Stops place
answer_by None None missing false = Bounded
answer_by None None (Some place) true = Fewer place
answer_by None None None true = Same

-- what was found beside what was known, where the search that knew it was whole
abbrev pub answer_as : (known : Architecture) → Architecture → Answer
answer_as known found =
    answer_by (first_beyond known.outcomes.items found.outcomes.items) (first_stop_beyond known.failures.items found.failures.items) (first_beyond found.outcomes.items known.outcomes.items) (is_whole found)

-- ---- beside what is allowed

-- the line that tells it is allowed
abbrev pub is_allowed : (allows : List ℕ → Bool) → List WordName → Outcome → Bool
is_allowed allows names o = allows (without_number (end_text names (end_of o)))

-- the place of the first that isn't allowed, counted from a number on
abbrev pub first_refused : (allows : List ℕ → Bool) → List WordName → (place : ℕ) → List Outcome → Option ℕ
first_refused allows names place [] = None
first_refused allows names place (o ∷ rest) = if is_allowed allows names o then first_refused allows names (place + 1) rest else Some place

-- what was found beside what is allowed, of which the program may lack any
abbrev pub answer_within : (allows : List ℕ → Bool) → List WordName → Architecture → Answer
answer_within allows names found = answer_by (first_refused allows names 0 found.outcomes.items) None None (is_whole found)

-- ---- beside either

-- it was whole, and has the outcomes that it is to have
abbrev pub is_enough : Answer → Bool
is_enough Same = true
is_enough (Other place) = false
is_enough (Stops place) = false
is_enough (Fewer place) = false
is_enough Bounded = false

-- the place of the first outcome that it may not have
abbrev pub refused_place : Answer → Option ℕ
refused_place Same = None
refused_place (Other place) = Some place
refused_place (Stops place) = None
refused_place (Fewer place) = None
refused_place Bounded = None

abbrev pub answer_of : Standard → Architecture → Answer
answer_of (AsItIs known) = answer_as known.now
answer_of (Within names allowed) = answer_within (allows_line allowed.now) names.now
