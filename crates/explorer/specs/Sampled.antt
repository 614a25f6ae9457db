-- What random runs come to, and how often.
use Rattle.std.specs.Prelude.{◌≡◌, ℕ, ◌+◌, ◌<◌, ◌≤◌, ◌&&◌, Bool, true, not, List, [], ◌∷◌, All, count_by, filter, length, map, unwrap_or}
use Rattle.std.specs.List.{AllByRecursion}
use Rattle.std.specs.List.Sorted.{IsStrictlySortedBy}
use Rattle.std.specs.Map.{keys_of, lookup, values_of}
use Rattle.std.specs.Ordering.{is_eq, on}
use Rattle.elf_loader.specs.Image.{Initial}
use Rattle.explorer.specs.declared.found.Found.{Found}
use Rattle.explorer.specs.declared.found.Realisation.{Realisation}
use Rattle.explorer.specs.declared.found.Realisation.TheVariants.{Events}
use Rattle.explorer.specs.Ends.{outcome_of}
use Rattle.explorer.specs.Ranks.{outcome_cmp}
use Rattle.flat_exploration.specs.Outcomes.{Outcome, machine_outcome}
use Rattle.flat_model.specs.Shown.{HartEnd}
use Rattle.hart.specs.Run.{is_running}
use Rattle.machine_types.specs.declared.config.Config.{Config}
use Rattle.machine_types.specs.declared.event.Event.{Event}
use Rattle.explorer.specs.declared.samples.sampled.Sampled.{Sampled}
use Rattle.explorer.specs.declared.samples.tally.Tally.{Tally}
use Rattle.schedules.specs.Schedules.{EachMoves, HasResults, LeadsThere, Replays, led}

-- ---- ends

-- no hart runs any more
abbrev pub all_ended : List HartEnd → Bool
all_ended [] = true
all_ended (r ∷ rs) = not (is_running r.status) && all_ended rs

abbrev pub LeadsToEnd : Initial → Config → List HartEnd → Realisation → Type 0
LeadsToEnd image config results (Events events) = LeadsThere image config (HasResults results) events.items
LeadsToEnd image config results _ = ⊥

-- it is an end, without words, and its script leads there
abbrev pub IsRealEnd : Initial → Config → Found → Type 0
IsRealEnd image config found = (all_ended (outcome_of found).results ≡ true) × LeadsToEnd image config (outcome_of found).results found.script × (found.words.items ≡ [])

-- ---- how often

-- the outcome is this end's
abbrev pub is_outcome_of : Found → Outcome → Bool
is_outcome_of found outcome = is_eq (outcome_cmp outcome (outcome_of found))

-- each end with its number
abbrev pub with_times : List Found → List ℕ → List (Found × ℕ)
with_times [] _ = []
with_times (f ∷ fs) [] = []
with_times (f ∷ fs) (n ∷ ns) = (f, n) ∷ with_times fs ns

-- the number that stands with an end, or 0
abbrev pub times_of : Found → List (Found × ℕ) → ℕ
times_of found counted = unwrap_or (lookup (λ other. is_eq (outcome_cmp (outcome_of found) (outcome_of other))) counted) 0

-- how many events a run tries at most
abbrev pub most_events : ℕ
most_events = 1000000

-- none of the events is refused from reset on, each changes the machine, and there are no more than a run tries
pub record IsSampledRun (image : Initial) (config : Config) (events : List Event) : Type 0 where
  pub replays : Replays image config events
  pub moves : EachMoves image config events
  pub within : length events ≤ most_events

-- the script has no more events than a run tries
abbrev pub IsShort : Realisation → Type 0
IsShort (Events events) = length events.items ≤ most_events
IsShort _ = ⊥

-- what those of the lists of events lead to that end all harts
abbrev pub ends_led : Initial → Config → List (List Event) → List Outcome
ends_led image config schedules = filter (λ (o : Outcome). all_ended o.results) (map (λ events. machine_outcome [] (led image config events)) schedules)

-- there are as many lists of events as runs are told, each as of a run from reset: so many of them lead to each end, and so many to none
pub record AreCounted (image : Initial) (config : Config) (counted : List (Found × ℕ)) (to_none runs : ℕ) : Type 0 where
  pub schedules : List (List Event)
  pub count : length schedules ≡ runs
  pub each : AllByRecursion (IsSampledRun image config) schedules
  pub times : (found : Found) → times_of found counted ≡ count_by (is_outcome_of found) (ends_led image config schedules)
  pub others : to_none + length (ends_led image config schedules) ≡ runs

-- ---- what is told

pub record IsTally (image : Initial) (config : Config) (t : Tally) : Type 0 where
  pub counted : AreCounted image config t.ends.entries t.unended t.runs
  pub reached : All (IsRealEnd image config) (keys_of t.ends.entries)
  pub some : All (λ (n : ℕ). 0 < n) (values_of t.ends.entries)

-- each end is one, and its script leads there; so many runs came to each, one at least, and so many to none; the ends stand in their order, each once
pub record IsSampled (image : Initial) (config : Config) (s : Sampled) : Type 0 where
  pub reached : All (IsRealEnd image config) s.ends.items
  pub counted : AreCounted image config (with_times s.ends.items s.times.items) s.unended s.runs
  pub as_many : length s.times.items ≡ length s.ends.items
  pub some : All (λ (n : ℕ). 0 < n) s.times.items
  pub order : IsStrictlySortedBy (on outcome_of outcome_cmp) s.ends.items
