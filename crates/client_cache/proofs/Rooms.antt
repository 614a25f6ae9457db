-- What a search of the array tells, as a place that may be written.
use Rattle.std.proofs.Common.{◌≡◌, ◌≢◌, ℕ, zero, suc, ◌*◌, ◌-◌, ◌<◌, ◌≤◌, Bool, true, false, cond, not, ◌&&◌, ◌||◌, nat_eq, List, length, take, replicate, Option, Some, None, refl, sym, ap, ◌∙◌, arith, inl, inr}
use Rattle.std.specs.Prelude.{◌⊎◌}
use Rattle.std.specs.Ordering.{nat_cmp}
use Rattle.std.specs.Cmp.{nat_cmp_total, unsigned_tied}
use Rattle.std.specs.FinMap as map
use Rattle.std.specs.FinMap.{get-empty}
use Rattle.std.specs.FinSet as fset
use Rattle.std.specs.FinSet.{FinSet, contains-insert, contains-remove, contains-empty}
use Rattle.std.proofs.lemmas.Bool.{cases_eq}
use Rattle.std.proofs.lemmas.List.{drop-replicate, take-replicate, length-replicate}
use Rattle.machine_types.specs.declared.limits.TheConstants.{MAX_SETS, MAX_WAYS}
use Rattle.client_cache.specs.declared.held.Held.{Held}
use Rattle.client_cache.specs.declared.shape.Shape.{Shape}
use Rattle.client_cache.specs.declared.slot.Place.{Place}
use Rattle.client_cache.specs.declared.slot.Slot.{Slot}
use Rattle.client_cache.specs.Shape.{set_of}
use Rattle.client_cache.specs.Row.{free_slot, place_at, IsAt, IsFreeAt}
use Rattle.client_cache.specs.Array.{IsSetRow, IsLaidOut, IsRoom, slots_of_set, copies_of, copy_in, acquiring_in, place_of}
use Rattle.client_cache.proofs.Writes.{clear_at, clear_free}
use Rattle.client_cache.proofs.Copies.{get-copies_of, length-row, IsWrite, same_copies, rows_apart}

pub room_found : (shape : Shape) (slots : List Slot) (line way : ℕ) (p : Place) → 0 < shape.sets → length slots ≡ shape.sets * shape.ways
    → IsSetRow shape (set_of shape line) (slots_of_set shape slots (set_of shape line)) → IsAt line (slots_of_set shape slots (set_of shape line)) way p → IsRoom shape slots line way p.copy
room_found shape slots line way p low room row at =
    let long = length-row shape slots (set_of shape line) room (omega arith) in
    let within = at.within in
    record {
      within = omega (arith, long);
      clear = clear_at shape (set_of shape line) line (slots_of_set shape slots (set_of shape line)) way p row at.here at.held;
      same = sym (ap copy_in at.first);
      free = λ none. absurd (some_none p (sym at.first ∙ none));
    }
  where
    some_none : (p : Place) → Some p ≡ None → ⊥
    some_none p bad = cc

pub room_free : (shape : Shape) (slots : List Slot) (line way : ℕ) → 0 < shape.sets → length slots ≡ shape.sets * shape.ways
    → place_of shape slots line ≡ None → IsFreeAt (slots_of_set shape slots (set_of shape line)) way → IsRoom shape slots line way None
room_free shape slots line way low room none at =
    let long = length-row shape slots (set_of shape line) room (omega arith) in
    let within = at.within in
    record {
      within = omega (arith, long);
      clear = clear_free line (slots_of_set shape slots (set_of shape line)) way (record { place = at.here.0 }) at.here.1.0 at.here.1.1 none;
      same = sym (ap copy_in none);
      free = λ _. at;
    }

-- a place that was found may be written
pub write_found : (shape : Shape) (slots : List Slot) (acquiring : FinSet nat_cmp) (line way : ℕ) (p p' : Place) → IsLaidOut shape slots acquiring
    → IsAt line (slots_of_set shape slots (set_of shape line)) way p → p'.line ≡ line → IsWrite shape slots line way p'
write_found shape slots acquiring line way p p' h at named =
    let low = h.sets_low in
    let r = room_found shape slots line way p low h.room (h.rows (set_of shape line) (omega arith)) at in
    record { within = r.within; clear = r.clear; named = named }

pub write_room : (shape : Shape) (slots : List Slot) (line way : ℕ) (copy : Option Held) (p' : Place) → IsRoom shape slots line way copy → p'.line ≡ line → IsWrite shape slots line way p'
write_room shape slots line way copy p' r named = record { within = r.within; clear = r.clear; named = named }

-- what a tracker tells after the call
pub tells_same : (acquiring : FinSet nat_cmp) (line : ℕ) (b : Bool) → fset.contains acquiring line ≡ b → (q : ℕ) → fset.contains acquiring q ≡ cond (nat_eq q line) b (fset.contains acquiring q)
tells_same acquiring line b is q = go (cases_eq q line)
  where
    go : (q ≡ line) ⊎ (q ≢ line) → fset.contains acquiring q ≡ cond (nat_eq q line) b (fset.contains acquiring q)
    go (inl e) = let t : nat_eq q line ≡ true = grind (arith, e) in rw t (ap (fset.contains acquiring) e ∙ is)
    go (inr n) = let f : nat_eq q line ≡ false = grind (arith, n) in rw f refl

pub tells_insert : (acquiring : FinSet nat_cmp) (line q : ℕ) → fset.contains (fset.insert acquiring line) q ≡ cond (nat_eq q line) true (fset.contains acquiring q)
tells_insert acquiring line q = contains-insert nat_cmp_total acquiring line q ∙ ap (λ b. b || fset.contains acquiring q) (unsigned_tied q line) ∙ go (nat_eq q line)
  where
    go : (b : Bool) → (b || fset.contains acquiring q) ≡ cond b true (fset.contains acquiring q)
    go true = refl
    go false = refl

pub tells_remove : (acquiring : FinSet nat_cmp) (line q : ℕ) → fset.contains (fset.remove acquiring line) q ≡ cond (nat_eq q line) false (fset.contains acquiring q)
tells_remove acquiring line q = contains-remove nat_cmp_total acquiring line q ∙ ap (λ b. not b && fset.contains acquiring q) (unsigned_tied q line) ∙ go (nat_eq q line)
  where
    go : (b : Bool) → (not b && fset.contains acquiring q) ≡ cond b false (fset.contains acquiring q)
    go true = refl
    go false = refl

-- an array of free slots
place_at-free : (q n : ℕ) → place_at q (replicate n free_slot) ≡ None
place_at-free q zero = refl
place_at-free q (suc n) = place_at-free q n

IsRow-free : (shape : Shape) (s n : ℕ) → IsSetRow shape s (replicate n free_slot)
IsRow-free shape s zero = tt
IsRow-free shape s (suc n) = (λ u. absurd (false_true u), λ u. absurd (false_true u), IsRow-free shape s n)
  where
    false_true : false ≡ true → ⊥
    false_true bad = cc

row_of-free : (shape : Shape) (s : ℕ) → s < shape.sets → slots_of_set shape (replicate (shape.sets * shape.ways) free_slot) s ≡ replicate shape.ways free_slot
row_of-free shape s l =
    let apart = rows_apart s shape.sets shape.ways l in
    ap (take shape.ways) (drop-replicate (s * shape.ways) (shape.sets * shape.ways) free_slot) ∙ take-replicate shape.ways (shape.sets * shape.ways - s * shape.ways) free_slot (omega (arith, apart))

place_of-free : (shape : Shape) → 0 < shape.sets → (q : ℕ) → place_of shape (replicate (shape.sets * shape.ways) free_slot) q ≡ None
place_of-free shape low q = ap (place_at q) (row_of-free shape (set_of shape q) (omega arith)) ∙ place_at-free q shape.ways

pub IsPlaced-free : (shape : Shape) → 0 < shape.sets → shape.sets ≤ MAX_SETS → 0 < shape.ways → shape.ways ≤ MAX_WAYS → IsLaidOut shape (replicate (shape.sets * shape.ways) free_slot) fset.empty
IsPlaced-free shape a b c d = record {
  sets_low = a;
  sets_high = b;
  ways_low = c;
  ways_high = d;
  room = length-replicate (shape.sets * shape.ways) free_slot;
  rows = λ s l. rw (row_of-free shape s l) (IsRow-free shape s shape.ways);
  tracked = λ q. contains-empty nat_cmp q ∙ sym (ap acquiring_in (place_of-free shape a q));
}

pub copies_of-free : (shape : Shape) → 0 < shape.sets → shape.sets ≤ MAX_SETS → 0 < shape.ways → shape.ways ≤ MAX_WAYS → copies_of shape (replicate (shape.sets * shape.ways) free_slot) ≡ map.empty
copies_of-free shape a b c d = same_copies _ _ (λ q.
    get-copies_of shape (replicate (shape.sets * shape.ways) free_slot) fset.empty (IsPlaced-free shape a b c d) q
    ∙ ap copy_in (place_of-free shape a q)
    ∙ sym (get-empty nat_cmp q))
