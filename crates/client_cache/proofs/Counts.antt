-- How many lines of a set are held or asked for.
use Rattle.std.proofs.Common.{◌≡◌, ◌≢◌, ℕ, zero, suc, ◌<◌, ◌≤◌, Bool, true, false, cond, ◌&&◌, ◌||◌, nat_eq, List, [], ◌∷◌, length, Some, refl, sym, ap, ◌∙◌, arith, inl, inr}
use Rattle.std.specs.Prelude.{slice_get, ◌⊎◌, is_some}
use Rattle.std.specs.List.{list_any}
use Rattle.std.specs.Ordering.{nat_cmp}
use Rattle.std.specs.Cmp.{nat_cmp_total}
use Rattle.std.specs.FinMap as map
use Rattle.std.specs.FinMap.{FinMap, get, contains_key-keys}
use Rattle.std.specs.FinSet as fset
use Rattle.std.specs.FinSet.{from_list, contains-from_list, contains-from_list_nat, contains-retain, contains-union, same_set, nat_cmp-IsAntisymmetric}
use Rattle.std.proofs.lemmas.Bool.{cases_eq}
use Rattle.client_cache.specs.declared.held.Held.{Held}
use Rattle.client_cache.specs.declared.shape.Shape.{Shape}
use Rattle.client_cache.specs.declared.slot.Slot.{Slot}
use Rattle.client_cache.specs.Distinct.{IsDistinct}
use Rattle.client_cache.specs.Shape.{set_of}
use Rattle.client_cache.specs.Row.{is_used, place_at, AllUsed}
use Rattle.client_cache.specs.Cache.{Cache, lines_in_set}
use Rattle.client_cache.specs.Array.{IsSetRow, IsLaidOut, slots_of_set, copies_of, copy_in, acquiring_in, place_of}
use Rattle.client_cache.proofs.Lines.{len-distinct}
use Rattle.client_cache.proofs.Copies.{get-copies_of, not_home}

abbrev pub used_lines : List Slot → List ℕ
used_lines [] = []
used_lines (x ∷ xs) = cond (is_used x.place) (x.place.line ∷ used_lines xs) (used_lines xs)

any_used : (q : ℕ) (xs : List Slot) → list_any (λ y. nat_eq y q) (used_lines xs) ≡ is_some (place_at q xs)
any_used q [] = refl
any_used q (x ∷ xs) = go (is_used x.place) (nat_eq x.place.line q) (any_used q xs)
  where
    go : (u same : Bool) → list_any (λ y. nat_eq y q) (used_lines xs) ≡ is_some (place_at q xs)
        → list_any (λ y. nat_eq y q) (cond u (x.place.line ∷ used_lines xs) (used_lines xs)) ≡ is_some (cond (u && nat_eq x.place.line q) (Some x.place) (place_at q xs))
    go true same h = inner (nat_eq x.place.line q) h
      where
        inner : (b : Bool) → list_any (λ y. nat_eq y q) (used_lines xs) ≡ is_some (place_at q xs) → (b || list_any (λ y. nat_eq y q) (used_lines xs)) ≡ is_some (cond b (Some x.place) (place_at q xs))
        inner true h = refl
        inner false h = h
    go false same h = h

distinct_used : (shape : Shape) (s : ℕ) (xs : List Slot) → IsSetRow shape s xs → IsDistinct (used_lines xs)
distinct_used shape s [] h = tt
distinct_used shape s (x ∷ xs) h = go (is_used x.place) refl (distinct_used shape s xs h.2)
  where
    go : (b : Bool) → is_used x.place ≡ b → IsDistinct (used_lines xs) → IsDistinct (cond b (x.place.line ∷ used_lines xs) (used_lines xs))
    go true e rest = (any_used x.place.line xs ∙ ap is_some (h.1 e), rest)
    go false e rest = rest

-- a place that is found is used
pub used_place : (q : ℕ) (xs : List Slot) → (is_some (copy_in (place_at q xs)) || acquiring_in (place_at q xs)) ≡ is_some (place_at q xs)
used_place q [] = refl
used_place q (x ∷ xs) = go (is_used x.place) refl (nat_eq x.place.line q) (used_place q xs)
  where
    go : (u : Bool) → is_used x.place ≡ u → (same : Bool) → (is_some (copy_in (place_at q xs)) || acquiring_in (place_at q xs)) ≡ is_some (place_at q xs)
        → (is_some (copy_in (cond (u && same) (Some x.place) (place_at q xs))) || acquiring_in (cond (u && same) (Some x.place) (place_at q xs))) ≡ is_some (cond (u && same) (Some x.place) (place_at q xs))
    go true e true h = e
    go true e false h = h
    go false e same h = h

pub keys-get : (m : FinMap nat_cmp Held) (q : ℕ) → fset.contains (from_list {R = nat_cmp} (map.keys m)) q ≡ is_some (get m q)
keys-get m q = contains-from_list nat_cmp_total (map.keys m) q ∙ sym (contains_key-keys m q)

-- the lines of a set that callers count are those of its row
pub lines_in_set-used : (c : Cache) (slots : List Slot) → IsLaidOut c.shape slots c.acquiring → c.copies ≡ copies_of c.shape slots → (line : ℕ)
    → lines_in_set c line ≡ from_list (used_lines (slots_of_set c.shape slots (set_of c.shape line)))
lines_in_set-used c slots h same line = same_set nat_cmp_total nat_cmp-IsAntisymmetric _ _ (λ q.
    contains-retain (fset.union (from_list (map.keys c.copies)) c.acquiring) (λ k. nat_eq (set_of c.shape k) (set_of c.shape line)) q
    (λ x tie. ap (λ k. nat_eq (set_of c.shape k) (set_of c.shape line)) (sym (nat_cmp-IsAntisymmetric q x tie)))
    ∙ ap (λ b. b && nat_eq (set_of c.shape q) (set_of c.shape line))
    (contains-union nat_cmp_total (from_list (map.keys c.copies)) c.acquiring q
    ∙ ap (λ b. b || fset.contains c.acquiring q) (keys-get c.copies q ∙ ap (λ m. is_some (get m q)) same ∙ ap is_some (get-copies_of c.shape slots c.acquiring h q))
    ∙ ap (λ b. is_some (copy_in (place_of c.shape slots q)) || b) (h.tracked q)
    ∙ used_place q (slots_of_set c.shape slots (set_of c.shape q)))
    ∙ go q (cases_eq (set_of c.shape q) (set_of c.shape line))
    ∙ sym (any_used q (slots_of_set c.shape slots (set_of c.shape line)))
    ∙ sym (contains-from_list_nat (used_lines (slots_of_set c.shape slots (set_of c.shape line))) q))
  where
    go : (q : ℕ) → ((set_of c.shape q) ≡ (set_of c.shape line)) ⊎ ((set_of c.shape q) ≢ (set_of c.shape line))
        → (is_some (place_of c.shape slots q) && nat_eq (set_of c.shape q) (set_of c.shape line)) ≡ is_some (place_at q (slots_of_set c.shape slots (set_of c.shape line)))
    go q (inl e) =
        let t : nat_eq (set_of c.shape q) (set_of c.shape line) ≡ true = grind (arith, e) in
        rw t (and_true _ ∙ ap (λ s. is_some (place_at q (slots_of_set c.shape slots s))) e)
      where
        and_true : (b : Bool) → (b && true) ≡ b
        and_true true = refl
        and_true false = refl
    go q (inr n) =
        let f : nat_eq (set_of c.shape q) (set_of c.shape line) ≡ false = grind (arith, n) in
        let low = h.sets_low in
        rw f (and_false _ ∙ sym (ap is_some (not_home c.shape (set_of c.shape line) (slots_of_set c.shape slots (set_of c.shape line)) q (h.rows (set_of c.shape line) (omega arith)) n)))
      where
        and_false : (b : Bool) → (b && false) ≡ false
        and_false true = refl
        and_false false = refl

pub len-lines_in_set : (c : Cache) (slots : List Slot) → IsLaidOut c.shape slots c.acquiring → c.copies ≡ copies_of c.shape slots → (line : ℕ)
    → fset.len (lines_in_set c line) ≡ length (used_lines (slots_of_set c.shape slots (set_of c.shape line)))
len-lines_in_set c slots h same line =
    let low = h.sets_low in
    ap fset.len (lines_in_set-used c slots h same line)
    ∙ len-distinct _ (distinct_used c.shape (set_of c.shape line) _ (h.rows (set_of c.shape line) (omega arith)))

pub length-all_used : (xs : List Slot) → AllUsed xs → length (used_lines xs) ≡ length xs
length-all_used [] h = refl
length-all_used (x ∷ xs) h = rw h.0 (ap suc (length-all_used xs h.1))

length-used : (xs : List Slot) → length (used_lines xs) ≤ length xs
length-used [] = omega arith
length-used (x ∷ xs) = go (is_used x.place) (length-used xs)
  where
    go : (b : Bool) → length (used_lines xs) ≤ length xs → length (cond b (x.place.line ∷ used_lines xs) (used_lines xs)) ≤ suc (length xs)
    go true h = omega arith
    go false h = omega arith

pub length-free : (xs : List Slot) (i : ℕ) (y : Slot) → slice_get xs i ≡ Some y → is_used y.place ≡ false → length (used_lines xs) < length xs
length-free [] i y here free = absurd (cc)
length-free (x ∷ xs) zero y here free =
    let slot : x ≡ y = cc here in
    let h = length-used xs in
    rw (ap (λ (z : Slot). is_used z.place) slot ∙ free) (omega arith)
length-free (x ∷ xs) (suc i) y here free = go (is_used x.place) (length-free xs i y here free)
  where
    go : (b : Bool) → length (used_lines xs) < length xs → length (cond b (x.place.line ∷ used_lines xs) (used_lines xs)) < suc (length xs)
    go true h = omega arith
    go false h = omega arith
