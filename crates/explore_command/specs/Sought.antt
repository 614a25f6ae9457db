-- What an exploration that is to end at the first of what it finds seeks, and what it says where it ended so.
use Rattle.std.specs.Prelude.{ℕ, ◌≡◌, ◌⊎◌, ◌<◌, Bool, true, false, List, Option, None, Some, Contains, length}
use Rattle.allowed_outcomes.specs.Allowing.{is_allowed_line, without_number}
use Rattle.allowed_outcomes.specs.Known.{allows_line}
use Rattle.allowed_outcomes.specs.declared.allowing.Allowed.{Allowed}
use Rattle.architecture_outcomes.specs.declared.architecture.Architecture.{Architecture}
use Rattle.architecture_outcomes.specs.Outcomes.{ends_of}
use Rattle.architecture_outcomes.specs.TheVariants as reach
use Rattle.exploration_text.specs.Words.{end_text}
use Rattle.explore_command.specs.Judging.{has_stopped}
use Rattle.exploration_text.specs.declared.wording.WordName.{WordName}
use Rattle.command_files.specs.declared.allowing.Judgement.{Judgement}
use Rattle.command_files.specs.declared.allowing.Judgement.TheVariants.{NotAllowed}
use Rattle.explorer.specs.Ends.{outcomes_of}
use Rattle.explorer.specs.FlatExplorationOutcomes.{Outcome}
use Rattle.explorer.specs.declared.exploration.Exploration.{Exploration}
use Rattle.state_search.specs.declared.findings.Extent.TheVariants.{Ended}
use Rattle.state_search.specs.declared.until.Ending.TheVariants.{First, Time}

-- there is a text, and it doesn't allow the line
abbrev pub IsRefused : (text : Option (List ℕ)) → (line : List ℕ) → Type 0
IsRefused None line = ⊥
IsRefused (Some text) line = is_allowed_line text (without_number line) ≡ false

-- and so of the text as it was read
abbrev pub IsRefusedBy : Option Allowed → (line : List ℕ) → Type 0
IsRefusedBy None line = ⊥
IsRefusedBy (Some allowed) line = allows_line allowed (without_number line) ≡ false

-- an outcome in which a hart has stopped, or that isn't allowed, where that is asked for
abbrev pub IsSoughtBy : (is_asked : Bool) → List WordName → Option Allowed → Outcome → Type 0
IsSoughtBy is_asked names allowed o = (is_asked ≡ true) × ((has_stopped o.results ≡ true) ⊎ IsRefusedBy allowed (end_text names o))

-- a search under a memory model ended at the first only where that was asked for, and it tells a hart that stops, or an outcome in which one has, or that the text doesn't allow, where the words are called so; and by the clock only where it was given seconds
pub record EndsUnder (is_asked : Bool) (seconds : ℕ) (names : List WordName) (text : Option (List ℕ)) (found : Architecture) : Type 0 where
  pub first : found.reach ≡ reach.Ended First → (is_asked ≡ true) × ((0 < length found.failures.items) ⊎ ((o : Outcome) × Contains (ends_of found.outcomes.items) o × ((has_stopped o.results ≡ true) ⊎ IsRefused text (end_text names o))))
  pub timed : found.reach ≡ reach.Ended Time → 0 < seconds

-- it ended at the first only where that was asked for, and it tells a hart that stops, or an outcome that the text doesn't allow, where the words are called so; and by the clock only where it was given seconds
pub record EndsBy (is_asked : Bool) (seconds : ℕ) (names : List WordName) (text : Option (List ℕ)) (found : Exploration) : Type 0 where
  pub first : found.extent ≡ Ended First → (is_asked ≡ true) × ((0 < length found.failures.items) ⊎ ((o : Outcome) × Contains (outcomes_of found.outcomes.items) o × IsRefused text (end_text names o)))
  pub timed : found.extent ≡ Ended Time → 0 < seconds

-- and so of what was judged: it tells a hart that stops, or the judgement is that not all are allowed
pub record EndsJudged (is_asked : Bool) (seconds : ℕ) (judgement : Judgement) (found : Exploration) : Type 0 where
  pub first : found.extent ≡ Ended First → (is_asked ≡ true) × ((0 < length found.failures.items) ⊎ (judgement ≡ NotAllowed))
  pub timed : found.extent ≡ Ended Time → 0 < seconds
