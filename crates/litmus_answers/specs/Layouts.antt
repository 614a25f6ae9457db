-- A test's program, and where the values that its states tell come from.
use Rattle.std.specs.Prelude.{ℕ, ◌≡◌, ◌+◌, ◌==◌, ◌&&◌, ◌||◌, nat_lt, Bool, false, List, [], ◌∷◌, ◌++◌, length, replicate, slice_set, Ok, if◌then◌else◌}
use Rattle.std.specs.Global.{Vec}
use Rattle.litmus_image.specs.Image.{words_of}
use Rattle.litmus_image.specs.declared.part.Part.{Part}
use Rattle.litmus_parts.specs.declared.initial.Initial.{Initial}
use Rattle.litmus_parts.specs.declared.initial.Width.{Width}
use Rattle.litmus_parts.specs.declared.initial.Width.TheVariants.{Byte, Half, Word, Double}
use Rattle.litmus_parts.specs.declared.places.Place.{Place}
use Rattle.litmus_parts.specs.declared.places.Place.TheVariants as places
use Rattle.litmus_parts.specs.declared.places.Value.{Value}
use Rattle.litmus_parts.specs.declared.told.Told.{Told}
use Rattle.litmus_parts.specs.declared.told.Told.TheVariants as told
use Rattle.litmus_parts.specs.Places.{is_location}
use Rattle.litmus_text.specs.Questions.{Asked}
use Rattle.litmus_text.specs.Tests.{Meaning}
use Rattle.litmus_answers.specs.declared.layout.Layout.{Layout}
use Rattle.litmus_answers.specs.Locations.{address_at, low_bytes, value_of}
use Rattle.litmus_answers.specs.Naming.{AreSorted, asked_of, is_told, names_in}
use Rattle.litmus_answers.specs.Parts.{column_of}

-- ---- what registers and locations hold at the start

abbrev pub begun : List (Vec ℕ) → ℕ → Place → Value → List ℕ → List ℕ
begun names hart (places.Register of register) value begins = if of == hart then slice_set begins register (value_of names value) else begins
begun names hart (places.Location name) value begins = begins

-- a hart's registers as these values set them, one after another
abbrev pub begun_by : List (Vec ℕ) → ℕ → List Initial → List ℕ → List ℕ
begun_by names hart [] begins = begins
begun_by names hart (v ∷ values) begins = begun_by names hart values (begun names hart v.place v.value begins)

abbrev pub begins_of : List (Vec ℕ) → List Initial → ℕ → List ℕ
begins_of names values hart = begun_by names hart values (replicate 32 0)

-- a location's value is the first one that it is set to, or 0, of as many bytes as the location has
abbrev pub beginning_of : List (Vec ℕ) → List Initial → List ℕ → ℕ
beginning_of names [] name = 0
beginning_of names (v ∷ values) name = if is_location v.place name then low_bytes v.width (value_of names v.value) else beginning_of names values name

abbrev pub beginnings_of : List (Vec ℕ) → List Initial → List (Vec ℕ) → List ℕ
beginnings_of names values [] = []
beginnings_of names values (x ∷ others) = beginning_of names values x.items ∷ beginnings_of names values others

-- ---- the harts' parts

-- a hart's column behind what its registers hold, and before those that are asked for
pub record IsPart (t : Meaning) (names : List (Vec ℕ)) (hart : ℕ) (part : Part) : Type 0 where
  pub begins : part.begins ≡ begins_of names t.values hart
  pub lines : part.lines.items ≡ column_of t.lines hart
  pub asked : part.asked ≡ asked_of t.asking hart

-- of the harts from this one on
abbrev pub ArePartsFrom : Meaning → List (Vec ℕ) → ℕ → List Part → Type 0
ArePartsFrom t names hart [] = Unit {0}
ArePartsFrom t names hart (part ∷ parts) = IsPart t names hart part × ArePartsFrom t names (hart + 1) parts

-- of each hart
pub record AreParts (t : Meaning) (names : List (Vec ℕ)) (parts : List Part) : Type 0 where
  pub each : ArePartsFrom t names 0 parts
  pub count : length parts ≡ t.harts

-- ---- registers that are told

-- a hart puts one register out before another: x10 first, then x17, then the others by number
abbrev pub is_earlier : ℕ → ℕ → Bool
is_earlier one other = if other == 10 then false else if other == 17 then one == 10 else one == 10 || (one == 17 || nat_lt one other)

abbrev pub earlier_from : ℕ → List Bool → ℕ → ℕ
earlier_from n [] register = 0
earlier_from n (a ∷ asked) register = if a && is_earlier n register then 1 + earlier_from (n + 1) asked register else earlier_from (n + 1) asked register

-- at which place a register stands in its hart's output
abbrev pub index_of : List Bool → ℕ → ℕ
index_of asked register = earlier_from 0 asked register

-- by number, from this one on
abbrev pub registers_told : ℕ → List Bool → ℕ → List Bool → List Told
registers_told hart all n [] = []
registers_told hart all n (a ∷ asked) = if a then told.Register hart n (index_of all n) ∷ registers_told hart all (n + 1) asked else registers_told hart all (n + 1) asked

-- by hart, from this one on
abbrev pub harts_told : ℕ → List Part → List Told
harts_told hart [] = []
harts_told hart (part ∷ parts) = registers_told hart part.asked 0 part.asked ++ harts_told (hart + 1) parts

-- ---- locations that are told

-- a location has the width of the first value that it is set to, or a word's
abbrev pub width_of : List Initial → List ℕ → Width
width_of [] name = Word
width_of (v ∷ values) name = if is_location v.place name then v.width else width_of values name

-- of a location's word the bits that count
abbrev pub mask_of : Width → ℕ
mask_of Byte = 255
mask_of Half = 65535
mask_of Word = 4294967295
mask_of Double = 4294967295

-- by name; so many are told before these
abbrev pub locations_told : Meaning → ℕ → List (Vec ℕ) → List Told
locations_told t n [] = []
locations_told t n (x ∷ names) =
    if is_told t.asking x.items then told.Location x.items (mask_of (width_of t.values x.items)) n ∷ locations_told t (n + 1) names else locations_told t n names

-- where they stand; so many locations come before these
abbrev pub addresses_from : Asked → ℕ → List (Vec ℕ) → List ℕ
addresses_from a n [] = []
addresses_from a n (x ∷ names) = if is_told a x.items then address_at n ∷ addresses_from a (n + 1) names else addresses_from a (n + 1) names

abbrev pub addresses_of : Asked → List (Vec ℕ) → List ℕ
addresses_of a names = addresses_from a 0 names

-- ---- the whole

-- main memory's words are those of the test's harts and locations; a state tells the registers that are asked for by hart and number, and then such locations by name, whose addresses these are
pub record IsLayout (t : Meaning) (layout : Layout) : Type 0 where
  pub names : AreSorted (names_in t) layout.names.items
  pub parts : List Part
  pub are_parts : AreParts t layout.names.items parts
  pub words : words_of parts (beginnings_of layout.names.items t.values layout.names.items) ≡ Ok layout.words.items
  pub told : layout.told.items ≡ harts_told 0 parts ++ locations_told t 0 layout.names.items
  pub addresses : layout.addresses.items ≡ addresses_of t.asking layout.names.items
