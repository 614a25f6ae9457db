-- The places whose values a test asks for, and the locations that it names.
use Rattle.std.specs.Prelude.{ℕ, ◌↔◌, ◌==◌, ◌&&◌, ◌||◌, nat_le, Bool, true, false, List, [], ◌∷◌, ◌++◌, Contains, Option, Some, None, length, map, replicate, slice_set, if◌then◌else◌}
use Rattle.std.specs.Cmp.Lexicographic.{slice_cmp}
use Rattle.std.specs.Global.{Vec}
use Rattle.std.specs.List.Sorted.{IsStrictlySortedBy}
use Rattle.std.specs.Ordering.{nat_cmp, on}
use Rattle.std.specs.declared.cmp.Ordering.{Ordering}
use Rattle.litmus_parts.specs.declared.initial.Initial.{Initial}
use Rattle.litmus_parts.specs.declared.places.Place.{Place}
use Rattle.litmus_parts.specs.declared.places.Place.TheVariants.{Register, Location}
use Rattle.litmus_parts.specs.declared.places.Value.{Value}
use Rattle.litmus_parts.specs.declared.places.Value.TheVariants.{Number, Address}
use Rattle.litmus_parts.specs.declared.step.Relation.{Relation}
use Rattle.litmus_parts.specs.declared.step.Step.{Step}
use Rattle.litmus_parts.specs.declared.step.Step.TheVariants as step
use Rattle.litmus_parts.specs.Places.{is_location}
use Rattle.litmus_text.specs.Questions.{Asked}
use Rattle.litmus_text.specs.Tests.{Meaning}

-- what every state has to keep: nothing, where no filter is written
abbrev pub filter_steps : Option (List Step) → List Step
filter_steps None = []
filter_steps (Some steps) = steps

-- ---- locations that are asked for

abbrev pub is_in_places : List Place → List ℕ → Bool
is_in_places [] name = false
is_in_places (p ∷ places) name = is_location p name || is_in_places places name

abbrev pub is_of_step : Step → List ℕ → Bool
is_of_step (step.Equal r) name = is_location r.place name
is_of_step (step.Differs r) name = is_location r.place name
is_of_step step.True name = false
is_of_step step.False name = false
is_of_step step.Not name = false
is_of_step step.And name = false
is_of_step step.Or name = false
is_of_step step.Implies name = false

abbrev pub is_in_steps : List Step → List ℕ → Bool
is_in_steps [] name = false
is_in_steps (s ∷ steps) name = is_of_step s name || is_in_steps steps name

-- a location's value is asked for: it is listed, or stands left of a relation
abbrev pub is_asked : Asked → List ℕ → Bool
is_asked a name = is_in_places a.places name || (is_in_steps (filter_steps a.filter) name || is_in_steps a.steps name)

-- a state tells it; no name has more bytes
abbrev pub is_told : Asked → List ℕ → Bool
is_told a name = nat_le (length name) 200 && is_asked a name

-- ---- registers that are asked for

abbrev pub ask : ℕ → Place → List Bool → List Bool
ask hart (Register of register) asked = if of == hart then slice_set asked register true else asked
ask hart (Location name) asked = asked

abbrev pub ask_places : ℕ → List Place → List Bool → List Bool
ask_places hart [] asked = asked
ask_places hart (p ∷ places) asked = ask_places hart places (ask hart p asked)

abbrev pub ask_step : ℕ → Step → List Bool → List Bool
ask_step hart (step.Equal r) asked = ask hart r.place asked
ask_step hart (step.Differs r) asked = ask hart r.place asked
ask_step hart step.True asked = asked
ask_step hart step.False asked = asked
ask_step hart step.Not asked = asked
ask_step hart step.And asked = asked
ask_step hart step.Or asked = asked
ask_step hart step.Implies asked = asked

abbrev pub ask_steps : ℕ → List Step → List Bool → List Bool
ask_steps hart [] asked = asked
ask_steps hart (s ∷ steps) asked = ask_steps hart steps (ask_step hart s asked)

-- which of a hart's registers are asked for
abbrev pub asked_of : Asked → ℕ → List Bool
asked_of a hart = ask_steps hart a.steps (ask_steps hart (filter_steps a.filter) (ask_places hart a.places (replicate 32 false)))

-- ---- names

abbrev pub place_names : Place → List (List ℕ)
place_names (Register hart register) = []
place_names (Location name) = name ∷ []

abbrev pub value_names : Value → List (List ℕ)
value_names (Number n) = []
value_names (Address name) = name ∷ []

abbrev pub relation_names : Relation → List (List ℕ)
relation_names r = place_names r.place ++ value_names r.value

abbrev pub step_names : Step → List (List ℕ)
step_names (step.Equal r) = relation_names r
step_names (step.Differs r) = relation_names r
step_names step.True = []
step_names step.False = []
step_names step.Not = []
step_names step.And = []
step_names step.Or = []
step_names step.Implies = []

abbrev pub steps_names : List Step → List (List ℕ)
steps_names [] = []
steps_names (s ∷ steps) = step_names s ++ steps_names steps

abbrev pub places_names : List Place → List (List ℕ)
places_names [] = []
places_names (p ∷ places) = place_names p ++ places_names places

abbrev pub values_names : List Initial → List (List ℕ)
values_names [] = []
values_names (v ∷ values) = (place_names v.place ++ value_names v.value) ++ values_names values

-- the locations that a test names, in its order, some more than once
abbrev pub names_in : Meaning → List (List ℕ)
names_in t = values_names t.values ++ (places_names t.asking.places ++ (steps_names (filter_steps t.asking.filter) ++ steps_names t.asking.steps))

abbrev pub plain : List (Vec ℕ) → List (List ℕ)
plain = map (λ (name : Vec ℕ). name.items)

-- by their bytes, the first byte first
abbrev pub text_cmp : Vec ℕ → Vec ℕ → Ordering
text_cmp = on (λ (name : Vec ℕ). name.items) (slice_cmp nat_cmp)

-- each of these texts, once, in order
pub record AreSorted (texts : List (List ℕ)) (sorted : List (Vec ℕ)) : Type 0 where
  pub order : IsStrictlySortedBy text_cmp sorted
  pub each : (text : List ℕ) → Contains texts text ↔ Contains (plain sorted) text
