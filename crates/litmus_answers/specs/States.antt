-- How states are told.
use Rattle.std.specs.Prelude.{ℕ, ◌-◌, ◌/◌, ◌%◌, ◌^◌, slice_get, ◌==◌, nat_lt, List, [], ◌∷◌, ◌++◌, Option, Some, None, codes, decimal, if◌then◌else◌}
use Rattle.std.specs.Global.{Vec}
use Rattle.litmus_parts.specs.declared.places.Place.{Place}
use Rattle.litmus_parts.specs.declared.places.Place.TheVariants.{Register, Location}
use Rattle.litmus_parts.specs.declared.told.Told.{Told}
use Rattle.litmus_parts.specs.declared.told.Told.TheVariants as told

-- a register as 0:x5, a location in brackets
abbrev pub place_text : Place → List ℕ
place_text (Register hart register) = decimal hart ++ (codes ":x" ++ decimal register)
place_text (Location name) = codes "[" ++ (name ++ codes "]")

abbrev pub told_text : Told → List ℕ
told_text (told.Register hart register index) = place_text (Register hart register)
told_text (told.Location name mask number) = place_text (Location name)

-- a word of 32 bits with its sign
abbrev pub signed_text : ℕ → List ℕ
signed_text n = if nat_lt n (2 ^ 31) then decimal n else codes "-" ++ decimal (2 ^ 32 - n)

-- the location that stands at an address
abbrev pub named_by : Option (Vec ℕ) → Option (List ℕ)
named_by (Some x) = Some x.items
named_by None = None

abbrev pub named : List (Vec ℕ) → ℕ → Option (List ℕ)
named names n = if nat_lt n 2147487744 then None else if (n - 2147487744) % 64 == 0 then named_by (slice_get names ((n - 2147487744) / 64)) else None

abbrev pub named_or : Option (List ℕ) → ℕ → List ℕ
named_or (Some name) n = name
named_or None n = signed_text n

-- the name of the location where a value is its address
abbrev pub value_text : List (Vec ℕ) → ℕ → List ℕ
value_text names n = named_or (named names n) n

abbrev pub item_text : List (Vec ℕ) → Told → ℕ → List ℕ
item_text names t n = told_text t ++ (codes "=" ++ (value_text names n ++ codes ";"))

-- a state's places with their values, `gap` before the first
abbrev pub items_text : List (Vec ℕ) → List ℕ → List Told → List ℕ → List ℕ
items_text names gap [] state = []
items_text names gap (t ∷ others) [] = []
items_text names gap (t ∷ others) (n ∷ state) = (gap ++ item_text names t n) ++ items_text names (codes " ") others state

abbrev pub state_line : List (Vec ℕ) → List Told → List ℕ → List ℕ
state_line names places state = items_text names [] places state ++ codes "\n"

abbrev pub state_lines : List (Vec ℕ) → List Told → List (Vec ℕ) → List ℕ
state_lines names places [] = []
state_lines names places (s ∷ states) = state_line names places s.items ++ state_lines names places states
