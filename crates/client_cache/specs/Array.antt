-- How an array of slots stands for a cache.
use Rattle.std.specs.Prelude.{◌≡◌, ℕ, zero, suc, ◌*◌, ◌<◌, ◌≤◌, Bool, true, false, List, [], ◌∷◌, length, Option, Some, None, take, drop}
use Rattle.std.specs.Ordering.{nat_cmp}
use Rattle.std.specs.FinMap as map
use Rattle.std.specs.FinMap.{FinMap}
use Rattle.std.specs.FinSet as set
use Rattle.std.specs.FinSet.{FinSet}
use Rattle.machine_types.specs.declared.limits.TheConstants.{MAX_SETS, MAX_WAYS}
use Rattle.client_cache.specs.declared.held.Held.{Held}
use Rattle.client_cache.specs.declared.shape.Shape.{Shape}
use Rattle.client_cache.specs.declared.slot.Place.{Place}
use Rattle.client_cache.specs.declared.slot.Slot.{Slot}
use Rattle.client_cache.specs.Shape.{set_of}
use Rattle.client_cache.specs.Row.{is_used, place_at, IsClear, IsFreeAt, AllUsed}

-- the slots of a set
abbrev pub slots_of_set : Shape → List Slot → ℕ → List Slot
slots_of_set shape slots s = take shape.ways (drop (s * shape.ways) slots)

abbrev pub add_copy : ℕ → Option Held → FinMap nat_cmp Held → FinMap nat_cmp Held
add_copy line None m = m
add_copy line (Some h) m = map.insert m line h

abbrev pub add_row : List Slot → FinMap nat_cmp Held → FinMap nat_cmp Held
add_row [] m = m
add_row (x ∷ xs) m = add_copy x.place.line x.place.copy (add_row xs m)

-- the copies of the first sets
abbrev pub copies_below : ℕ → (ℕ → List Slot) → FinMap nat_cmp Held
copies_below zero row = map.empty
copies_below (suc n) row = add_row (row n) (copies_below n row)

-- the copies of all sets
unfoldable pub copies_of : Shape → List Slot → FinMap nat_cmp Held
copies_of shape slots = copies_below shape.sets (slots_of_set shape slots)

abbrev pub copy_in : Option Place → Option Held
copy_in None = None
copy_in (Some p) = p.copy

abbrev pub acquiring_in : Option Place → Bool
acquiring_in None = false
acquiring_in (Some p) = p.acquiring

-- what a line has in its set's row
abbrev pub place_of : Shape → List Slot → ℕ → Option Place
place_of shape slots line = place_at line (slots_of_set shape slots (set_of shape line))

-- each line of a row belongs to its set, and stands there once
abbrev pub IsSetRow : Shape → ℕ → List Slot → Type 0
IsSetRow shape s [] = Unit {0}
IsSetRow shape s (x ∷ xs) = (is_used x.place ≡ true → set_of shape x.place.line ≡ s) × (is_used x.place ≡ true → place_at x.place.line xs ≡ None) × IsSetRow shape s xs

pub record IsLaidOut (shape : Shape) (slots : List Slot) (acquiring : FinSet nat_cmp) : Type 0 where
  pub sets_low : 0 < shape.sets
  pub sets_high : shape.sets ≤ MAX_SETS
  pub ways_low : 0 < shape.ways
  pub ways_high : shape.ways ≤ MAX_WAYS
  pub room : length slots ≡ shape.sets * shape.ways
  pub rows : (s : ℕ) → s < shape.sets → IsSetRow shape s (slots_of_set shape slots s)
  pub tracked : (line : ℕ) → set.contains acquiring line ≡ acquiring_in (place_of shape slots line)

-- the line's slot, or one that is free for it: where it is, and the copy that the line has
pub record IsRoom (shape : Shape) (slots : List Slot) (line way : ℕ) (copy : Option Held) : Type 0 where
  pub within : way < shape.ways
  pub clear : IsClear line (slots_of_set shape slots (set_of shape line)) way
  pub same : copy ≡ copy_in (place_of shape slots line)
  pub free : place_of shape slots line ≡ None → IsFreeAt (slots_of_set shape slots (set_of shape line)) way

-- no slot of the set is free, and none is the line's
pub record IsFull (shape : Shape) (slots : List Slot) (line : ℕ) : Type 0 where
  pub missing : place_of shape slots line ≡ None
  pub used : AllUsed (slots_of_set shape slots (set_of shape line))
