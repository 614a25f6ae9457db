-- Whether a proposition holds of a final state.
use Rattle.std.specs.Prelude.{ℕ, ◌==◌, Bool, true, false, ◌&&◌, ◌||◌, not, List, [], ◌∷◌, if◌then◌else◌, bit_and}
use Rattle.std.specs.Global.{Vec}
use Rattle.litmus_parts.specs.declared.places.Place.{Place}
use Rattle.litmus_parts.specs.declared.places.Value.{Value}
use Rattle.litmus_parts.specs.Places.{is_same_place}
use Rattle.litmus_parts.specs.declared.step.Step.{Step}
use Rattle.litmus_parts.specs.declared.step.Step.TheVariants as step
use Rattle.litmus_parts.specs.declared.places.Place.TheVariants as places
use Rattle.litmus_parts.specs.declared.told.Told.{Told}
use Rattle.litmus_parts.specs.declared.told.Told.TheVariants as told
use Rattle.litmus_answers.specs.Locations.{value_of}

-- what a state tells is this place's value
abbrev pub is_of : Told → Place → Bool
is_of (told.Register hart register index) place = is_same_place (places.Register hart register) place
is_of (told.Location name mask number) place = is_same_place (places.Location name) place

-- the bits of a number that count
abbrev pub shown : Told → ℕ → ℕ
shown (told.Register hart register index) n = n
shown (told.Location name mask number) n = bit_and n mask

-- a place has a value in a state; a place that no state tells has none
abbrev pub has : List (Vec ℕ) → List Told → List ℕ → Place → Value → Bool
has names [] state place value = false
has names (t ∷ others) [] place value = false
has names (t ∷ others) (n ∷ state) place value = if is_of t place then n == shown t (value_of names value) else has names others state place value

-- what stands above, and what below it
abbrev pub top : List Bool → Bool
top [] = false
top (b ∷ stack) = b

abbrev pub below : List Bool → List Bool
below [] = []
below (b ∷ stack) = stack

-- a step takes its operands, of which the last one stands above, and puts what it makes in their place
abbrev pub stepped : (Place → Value → Bool) → Step → List Bool → List Bool
stepped is step.True stack = true ∷ stack
stepped is step.False stack = false ∷ stack
stepped is (step.Equal r) stack = is r.place r.value ∷ stack
stepped is (step.Differs r) stack = not (is r.place r.value) ∷ stack
stepped is step.Not stack = not (top stack) ∷ below stack
stepped is step.And stack = (top (below stack) && top stack) ∷ below (below stack)
stepped is step.Or stack = (top (below stack) || top stack) ∷ below (below stack)
stepped is step.Implies stack = (not (top (below stack)) || top stack) ∷ below (below stack)

abbrev pub worked_out : (Place → Value → Bool) → List Step → List Bool → List Bool
worked_out is [] stack = stack
worked_out is (s ∷ steps) stack = worked_out is steps (stepped is s stack)

-- whether a proposition holds of a state
abbrev pub holds : List (Vec ℕ) → List Told → List ℕ → List Step → Bool
holds names places' state steps = top (worked_out (has names places' state) steps [])
