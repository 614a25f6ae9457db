-- The final states of a test, read off the ends of its program's runs.
use Rattle.std.specs.Prelude.{ℕ, ◌≡◌, ◌↔◌, ◌+◌, Bool, true, false, List, [], ◌∷◌, ◌++◌, Option, Some, None, Contains, slice_get, map, if◌then◌else◌}
use Rattle.std.specs.Cmp.Lexicographic.{slice_cmp}
use Rattle.std.specs.Ordering.{nat_cmp, on}
use Rattle.std.specs.declared.cmp.Ordering.{Ordering}
use Rattle.std.specs.Global.{Vec}
use Rattle.std.specs.List.Sorted.{IsStrictlySortedBy}
use Rattle.architecture_outcomes.specs.declared.outcome.Outcome.{Outcome}
use Rattle.architecture_outcomes.specs.declared.outcome.Way.{Way}
use Rattle.architecture_outcomes.specs.declared.outcome.Way.TheVariants.{Machine, Model, ModelAlone}
use Rattle.flat_model.specs.declared.results.HartResult.{HartResult}
use Rattle.hart.specs.declared.status.Status.{Status}
use Rattle.hart.specs.declared.status.Status.TheVariants.{Running, Stopped, Exited}
use Rattle.litmus_answers.specs.declared.layout.Layout.{Layout}
use Rattle.litmus_answers.specs.Holding.{holds, shown}
use Rattle.litmus_parts.specs.declared.step.Step.{Step}
use Rattle.litmus_parts.specs.declared.told.Told.{Told}
use Rattle.litmus_parts.specs.declared.told.Told.TheVariants.{Register, Location}
use Rattle.litmus_command.specs.declared.fault.Halt.{Halt}
use Rattle.litmus_command.specs.declared.fault.Halt.TheVariants as halt
use Rattle.litmus_command.specs.declared.states.Of.{Of}
use Rattle.litmus_command.specs.declared.states.Of.TheVariants as of

-- ---- a state

abbrev pub or_zero : Option ℕ → ℕ
or_zero (Some n) = n
or_zero None = 0

-- the number at a place, 0 where there is none
abbrev pub number_at : List ℕ → ℕ → ℕ
number_at numbers index = or_zero (slice_get numbers index)

abbrev pub output_by : Option HartResult → ℕ → ℕ
output_by (Some r) index = number_at r.output.items index
output_by None index = 0

-- what a hart put out at a place of its output
abbrev pub output_of : List HartResult → ℕ → ℕ → ℕ
output_of harts hart index = output_by (slice_get harts hart) index

-- a place's value behind a run
abbrev pub value_of : List HartResult → List ℕ → Told → ℕ
value_of harts words (Register hart register index) = output_of harts hart index
value_of harts words (Location name mask number) = shown (Location name mask number) (number_at words number)

abbrev pub row_of : List Told → List HartResult → List ℕ → List ℕ
row_of [] harts words = []
row_of (t ∷ told) harts words = value_of harts words t ∷ row_of told harts words

abbrev pub stopped_by : Status → ℕ → Option (ℕ × ℕ) → Option (ℕ × ℕ)
stopped_by Running n others = others
stopped_by (Stopped cause) n others = Some (n, cause)
stopped_by (Exited code) n others = others

-- the first hart that stopped before its end, and why; so many harts come before these
abbrev pub stopped_from : ℕ → List HartResult → Option (ℕ × ℕ)
stopped_from n [] = None
stopped_from n (r ∷ harts) = stopped_by r.status n (stopped_from (n + 1) harts)

-- a state counts: it keeps what is asked of all, if anything
abbrev pub counts : Layout → Option (Vec Step) → List ℕ → Bool
counts layout None state = true
counts layout (Some steps) state = holds layout.names.items layout.told.items state steps.items

-- ---- the states of outcomes

abbrev pub plain : List (Vec ℕ) → List (List ℕ)
plain = map (λ (row : Vec ℕ). row.items)

-- by their values, the first place's first
abbrev pub state_cmp : Vec ℕ → Vec ℕ → Ordering
state_cmp = on (λ (row : Vec ℕ). row.items) (slice_cmp nat_cmp)

abbrev pub state_of : Layout → Outcome → List ℕ
state_of layout o = row_of layout.told.items o.harts.items o.words.items

-- an outcome is looked at
abbrev pub is_of : Of → Way → Bool
is_of of.All way = true
is_of of.Machine (Machine script) = true
is_of of.Machine (ModelAlone trace) = false
is_of of.Machine (Model trace) = false

-- the states of these outcomes that count, behind others
abbrev pub added : Layout → Option (Vec Step) → List (List ℕ) → Outcome → List (List ℕ)
added layout filter states o = if counts layout filter (state_of layout o) then states ++ (state_of layout o ∷ []) else states

abbrev pub found : Layout → Option (Vec Step) → Of → List (List ℕ) → List Outcome → List (List ℕ)
found layout filter which states [] = states
found layout filter which states (o ∷ outcomes) = found layout filter which (if is_of which o.way then added layout filter states o else states) outcomes

-- each state of the outcomes that counts, once, in order
pub record AreStates (layout : Layout) (filter : Option (Vec Step)) (which : Of) (outcomes : List Outcome) (rows : List (Vec ℕ)) : Type 0 where
  pub sorted : IsStrictlySortedBy state_cmp rows
  pub each : (state : List ℕ) → Contains (found layout filter which [] outcomes) state ↔ Contains (plain rows) state

-- ---- why they aren't told

-- a hart of the outcome stops before its end, the first one that does for this cause; or memory was refused
abbrev pub IsStopOf : Outcome → Halt → Type 0
IsStopOf o (halt.Stops hart cause) = stopped_from 0 o.harts.items ≡ Some (hart, cause)
IsStopOf o halt.Unfit = ⊥
IsStopOf o halt.NoMemory = Unit {0}

-- the same of one of these outcomes
abbrev pub IsStopIn : List Outcome → Halt → Type 0
IsStopIn outcomes (halt.Stops hart cause) = (o : Outcome) × Contains outcomes o × IsStopOf o (halt.Stops hart cause)
IsStopIn outcomes halt.Unfit = ⊥
IsStopIn outcomes halt.NoMemory = Unit {0}
