-- What shows that a memory model allows an outcome, and when none of the machine's is missing.
use Rattle.std.specs.Prelude.{◌≡◌, ◌⊎◌, ◌+◌, ◌≤◌, ℕ, true, Bool, List, None, Option, Some, Contains, if◌then◌else◌, map}
use Rattle.std.specs.List.{count_by}
use Rattle.std.specs.Ordering.{is_eq}
use Rattle.architecture_outcomes.specs.declared.outcome.Outcome.{Outcome}
use Rattle.architecture_outcomes.specs.declared.outcome.Way.{Way}
use Rattle.architecture_outcomes.specs.declared.outcome.Way.TheVariants.{Machine, Model, ModelAlone}
use Rattle.elf_loader.specs.Image.{Initial}
use Rattle.exploration_text.specs.Found.{Found}
use Rattle.exploration_text.specs.Realisation.{Realisation}
use Rattle.exploration_text.specs.Ends.{IsRealIn, outcome_with}
use Rattle.exploration_text.specs.Ranks.{outcome_cmp}
use Rattle.performed_words.specs.Outcomes.{HasEnded, Outcome as End, machine_outcome, performed_word}
use Rattle.machine_types.specs.declared.config.Config.{Config}
use Rattle.machine_types.specs.declared.event.Event.{Event}
use Rattle.exploration_text.specs.Schedules.{led}
use Rattle.std.specs.Global.{Vec}
use Rattle.trace_recorder.specs.declared.trace.Trace.{Trace}
use Rattle.witnesses.specs.declared.witness.Witness.{Witness}
use Rattle.witnesses.specs.Witnesses.{IsWitness}

abbrev pub end_of : Outcome → End
end_of o = outcome_with o.harts.items o.words.items

abbrev pub ends_of : List Outcome → List End
ends_of = map end_of

-- ---- the machine's ends

-- no list of events leads to an end with these results and words
abbrev pub NeverEnds : Initial → Config → (addresses : List ℕ) → End → Type 0
NeverEnds image config addresses end = (events : List Event) → HasEnded addresses (led image config events) → machine_outcome addresses (led image config events) ≡ end → ⊥

-- ---- what shows an outcome

-- flat events lead to such an end, and so does the machine's script, where there is one
abbrev pub IsScripted : Initial → Config → (addresses : List ℕ) → Outcome → Realisation → Type 0
IsScripted image config addresses o script = IsRealIn image config addresses (record { harts = o.harts; words = o.words; script = script })

-- lists that are runs of the image from reset to their ends have a legal order, and the results are read off them; the words are what loads read behind that order, which has all operations
pub record IsTraced (image : Initial) (config : Config) (addresses : List ℕ) (o : Outcome) (trace : Trace) : Type 0 where
  pub witness : IsWitness image config (record { harts = o.harts; trace = trace })
  pub words : o.words.items ≡ map (performed_word trace.history) addresses

-- where it is the model's alone, the machine never ends so
abbrev pub IsWitnessedBy : Initial → Config → (addresses : List ℕ) → Outcome → Way → Type 0
IsWitnessedBy image config addresses o (Machine script) = IsScripted image config addresses o script
IsWitnessedBy image config addresses o (ModelAlone trace) = IsTraced image config addresses o trace × NeverEnds image config addresses (end_of o)
IsWitnessedBy image config addresses o (Model trace) = IsTraced image config addresses o trace

abbrev pub IsWitnessed : Initial → Config → (addresses : List ℕ) → Outcome → Type 0
IsWitnessed image config addresses o = IsWitnessedBy image config addresses o o.way

-- it is told as the machine's, or as the model's alone
abbrev pub IsDecided : Way → Type 0
IsDecided (Machine script) = Unit {0}
IsDecided (ModelAlone trace) = Unit {0}
IsDecided (Model trace) = ⊥

-- it is told as the machine's
abbrev pub IsMachine : Way → Type 0
IsMachine (Machine script) = Unit {0}
IsMachine (ModelAlone trace) = ⊥
IsMachine (Model trace) = ⊥

-- ---- where outcomes come from

abbrev pub of_found : Found → Outcome
of_found f = record { harts = f.harts; words = f.words; way = Machine f.script }

abbrev pub of_witness : Bool → Vec ℕ → Witness → Outcome
of_witness is_complete words w = record { harts = w.harts; words = words; way = if is_complete then ModelAlone w.trace else Model w.trace }

-- ---- how often outcomes are told

-- it is this outcome
abbrev pub tells : End → Outcome → Bool
tells outcome o = is_eq (outcome_cmp (end_of o) outcome)

-- no outcome is told twice by what was found of the machine and these
abbrev pub TellOnce : (found outcomes : List Outcome) → Type 0
TellOnce found outcomes = (outcome : End) → count_by (tells outcome) found + count_by (tells outcome) outcomes ≤ 1

-- each of these ends is told by what was found of the machine or by these
abbrev pub TellEach : List End → (found outcomes : List Outcome) → Type 0
TellEach ends found outcomes = (end : End) → Contains ends end → Contains (ends_of found) end ⊎ Contains (ends_of outcomes) end

-- the outcome, where it is told as the machine's
abbrev pub end_by : End → Way → Option End
end_by outcome (Machine script) = Some outcome
end_by outcome (ModelAlone trace) = None
end_by outcome (Model trace) = None

abbrev pub machine_end : Outcome → Option End
machine_end o = end_by (end_of o) o.way

-- whatever events come in whatever order, where they lead to an end, its results and words are told as the machine's
abbrev pub TellsEachEnd : Initial → Config → (addresses : List ℕ) → List Outcome → Type 0
TellsEachEnd image config addresses outcomes =
    (events : List Event) → HasEnded addresses (led image config events) → Contains (map machine_end outcomes) (Some (machine_outcome addresses (led image config events)))
