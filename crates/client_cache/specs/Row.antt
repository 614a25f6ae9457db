-- What a row of slots has of a line.
use Rattle.std.specs.Prelude.{◌≡◌, ℕ, zero, suc, ◌<◌, Bool, true, false, ◌||◌, ◌&&◌, List, [], ◌∷◌, length, Option, Some, None, is_some, if◌then◌else◌, nat_eq, slice_get}
use Rattle.std.specs.List.{AllByRecursion as Each}
use Rattle.client_cache.specs.declared.slot.Place.{Place}
use Rattle.client_cache.specs.declared.slot.Slot.{Slot}

-- a copy, or an Acquire that is outstanding
abbrev pub is_used : Place → Bool
is_used p = is_some p.copy || p.acquiring

abbrev pub holds : ℕ → Place → Bool
holds line p = is_used p && nat_eq p.line line

-- the slots of a new array
abbrev pub free_slot : Slot
free_slot = record { place = record { line = 0; copy = None; acquiring = false } }

-- the first place of the line
abbrev pub place_at : ℕ → List Slot → Option Place
place_at line [] = None
place_at line (x ∷ xs) = if holds line x.place then Some x.place else place_at line xs

-- that place, found at an index
pub record IsAt (line : ℕ) (xs : List Slot) (i : ℕ) (p : Place) : Type 0 where
  pub within : i < length xs
  pub here : slice_get xs i ≡ Some (record { place = p })
  pub held : holds line p ≡ true
  pub first : place_at line xs ≡ Some p

pub record IsFreeAt (xs : List Slot) (i : ℕ) : Type 0 where
  pub within : i < length xs
  pub here : (p : Place) × ((slice_get xs i ≡ Some (record { place = p })) × (is_used p ≡ false))

abbrev pub AllUsed : List Slot → Type 0
AllUsed xs = Each (λ (x : Slot). is_used x.place ≡ true) xs

-- a slot of the row that may take the line: no other slot has it, and it has no other line
abbrev pub IsClear : ℕ → List Slot → ℕ → Type 0
IsClear line [] i = Unit {0}
IsClear line (x ∷ xs) zero = (place_at line xs ≡ None) × (is_used x.place ≡ true → x.place.line ≡ line)
IsClear line (x ∷ xs) (suc i) = (holds line x.place ≡ false) × IsClear line xs i
