-- The map of copies of an array: what it has at a line, and what a write of one slot makes of it.
use Rattle.std.proofs.Common.{◌≡◌, ◌≢◌, ℕ, zero, suc, ◌+◌, ◌*◌, ◌<◌, ◌≤◌, Bool, true, false, cond, ◌||◌, nat_eq, nat_lt, List, [], ◌∷◌, length, set, drop, take, Option, Some, None, refl, sym, ap, subst, ◌∙◌, arith, inl, inr}
use Rattle.std.specs.Prelude.{◌⊎◌, is_some}
use Rattle.std.specs.Ordering.{nat_cmp}
use Rattle.std.specs.Cmp.{nat_cmp_total, unsigned_tied}
use Rattle.std.specs.FinMap.{FinMap, get, get-insert, get-remove, get-empty, same_map, nat_cmp-IsAntisymmetric}
use Rattle.std.specs.FinSet as fset
use Rattle.std.specs.FinSet.{FinSet}
use Rattle.std.proofs.lemmas.Bool.{cases_eq, cases_lt}
use Rattle.std.proofs.lemmas.List.{length-set, length-take, length-drop, drop-take, take-set-le, drop-set-lt, drop-set-add}
use Rattle.std.proofs.Math.Seq.{take-set-lt}
use Rattle.std.proofs.Math.Nat.{mul-le-mul_right, suc-mul}
use Rattle.client_cache.specs.declared.held.Held.{Held}
use Rattle.client_cache.specs.declared.shape.Shape.{Shape}
use Rattle.client_cache.specs.declared.slot.Place.{Place}
use Rattle.client_cache.specs.declared.slot.Slot.{Slot}
use Rattle.client_cache.specs.Shape.{set_of}
use Rattle.client_cache.specs.Row.{is_used, holds, place_at, IsClear}
use Rattle.client_cache.specs.Cache.{put}
use Rattle.client_cache.specs.Array.{IsSetRow, IsLaidOut, slots_of_set, add_copy, add_row, copies_below, copies_of, copy_in, acquiring_in, place_of}
use Rattle.client_cache.proofs.Rows.{shown, holds_parts, holds_from, not_held, held_unused}
use Rattle.client_cache.proofs.Writes.{place_at-set, IsRow-set}

-- a map at a line
pub get-put : (m : FinMap nat_cmp Held) (line : ℕ) (o : Option Held) (q : ℕ) → get (put m line o) q ≡ cond (nat_eq q line) o (get m q)
get-put m line None q = get-remove nat_cmp_total m line q ∙ ap (λ b. cond b None (get m q)) (unsigned_tied q line)
get-put m line (Some h) q = get-insert nat_cmp_total m line h q ∙ ap (λ b. cond b (Some h) (get m q)) (unsigned_tied q line)

pub same_copies : (m n : FinMap nat_cmp Held) → ((q : ℕ) → get m q ≡ get n q) → m ≡ n
same_copies m n is = same_map nat_cmp_total nat_cmp-IsAntisymmetric m n is

-- to put what is there changes nothing
pub put-same : (m : FinMap nat_cmp Held) (line : ℕ) → put m line (get m line) ≡ m
put-same m line = same_copies _ m (λ q. get-put m line (get m line) q ∙ go q (nat_eq q line) refl)
  where
    go : (q : ℕ) (b : Bool) → nat_eq q line ≡ b → cond b (get m line) (get m q) ≡ get m q
    go q true e = ap (get m) (let same : line ≡ q = grind (arith, e) in same)
    go q false e = refl

-- the first of two
abbrev pub either : Option Held → Option Held → Option Held
either None o = o
either (Some h) o = Some h

get-add_copy : (line : ℕ) (o : Option Held) (m : FinMap nat_cmp Held) (q : ℕ) → get (add_copy line o m) q ≡ cond (nat_eq q line) (either o (get m q)) (get m q)
get-add_copy line None m q = go (nat_eq q line)
  where
    go : (b : Bool) → get m q ≡ cond b (get m q) (get m q)
    go true = refl
    go false = refl
get-add_copy line (Some h) m q = get-insert nat_cmp_total m line h q ∙ ap (λ b. cond b (Some h) (get m q)) (unsigned_tied q line)

pub or_none : (o : Option Held) → either o None ≡ o
or_none None = refl
or_none (Some h) = refl

pub unused_copy : (p : Place) → is_used p ≡ false → p.copy ≡ None
unused_copy p u = go p.copy refl u
  where
    go : (o : Option Held) → p.copy ≡ o → (is_some o || p.acquiring) ≡ false → o ≡ None
    go None e h = refl
    go (Some x) e h = absurd (cc)

-- a slot before a row
step : (q : ℕ) (p : Place) (xs : List Slot) (o : Option Held) → (is_used p ≡ true → place_at p.line xs ≡ None)
    → cond (nat_eq q p.line) (either p.copy (either (copy_in (place_at q xs)) o)) (either (copy_in (place_at q xs)) o)
    ≡ either (copy_in (cond (holds q p) (Some p) (place_at q xs))) o
step q p xs o alone = elim (cases_eq q p.line) [
  | inl same ↦ used (is_used p) refl same
  | inr n ↦
      let f : nat_eq q p.line ≡ false = grind (arith, n) in
      rw (f, not_held q p (λ e. n (sym e))) refl
]
  where
    used : (b : Bool) → is_used p ≡ b → q ≡ p.line
        → cond (nat_eq q p.line) (either p.copy (either (copy_in (place_at q xs)) o)) (either (copy_in (place_at q xs)) o)
        ≡ either (copy_in (cond (holds q p) (Some p) (place_at q xs))) o
    used true e same =
        let t : nat_eq q p.line ≡ true = grind (arith, same) in
        let none : place_at q xs ≡ None = ap (λ k. place_at k xs) same ∙ alone e in
        rw (t, holds_from q p e (sym same), none) refl
    used false e same =
        let t : nat_eq q p.line ≡ true = grind (arith, same) in
        rw (t, held_unused q p e, unused_copy p e) refl

get-add_row : (shape : Shape) (s : ℕ) (xs : List Slot) (m : FinMap nat_cmp Held) (q : ℕ) → IsSetRow shape s xs → get (add_row xs m) q ≡ either (copy_in (place_at q xs)) (get m q)
get-add_row shape s [] m q h = refl
get-add_row shape s (x ∷ xs) m q h =
    get-add_copy x.place.line x.place.copy (add_row xs m) q
    ∙ ap (λ o. cond (nat_eq q x.place.line) (either x.place.copy o) o) (get-add_row shape s xs m q h.2)
    ∙ step q x.place xs (get m q) h.1

-- a row has no line of another set
pub not_home : (shape : Shape) (s : ℕ) (xs : List Slot) (q : ℕ) → IsSetRow shape s xs → set_of shape q ≢ s → place_at q xs ≡ None
not_home shape s [] q h n = refl
not_home shape s (x ∷ xs) q h n = go (holds q x.place) refl (not_home shape s xs q h.2 n)
  where
    go : (b : Bool) → holds q x.place ≡ b → place_at q xs ≡ None → cond b (Some x.place) (place_at q xs) ≡ None
    go true e none =
        let parts = holds_parts q x.place e in
        absurd (n (ap (λ k. set_of shape k) (sym parts.1) ∙ h.0 parts.0))
    go false e none = none

get-copies_below : (shape : Shape) (n : ℕ) (row : ℕ → List Slot) (q : ℕ) → ((s : ℕ) → s < n → IsSetRow shape s (row s)) → get (copies_below n row) q ≡ cond (nat_lt (set_of shape q) n) (copy_in (place_at q (row (set_of shape q)))) None
get-copies_below shape zero row q h = get-empty nat_cmp q ∙ ap (λ b. cond b (copy_in (place_at q (row (set_of shape q)))) None) (let e : false ≡ nat_lt (set_of shape q) 0 = grind arith in e)
get-copies_below shape (suc n) row q h =
    get-add_row shape n (row n) (copies_below n row) q (h n (omega arith))
    ∙ ap (either (copy_in (place_at q (row n)))) (get-copies_below shape n row q (λ s l. h s (omega arith)))
    ∙ go (cases_eq (set_of shape q) n)
  where
    go : ((set_of shape q) ≡ n) ⊎ ((set_of shape q) ≢ n) → either (copy_in (place_at q (row n))) (cond (nat_lt (set_of shape q) n) (copy_in (place_at q (row (set_of shape q)))) None) ≡ cond (nat_lt (set_of shape q) (suc n)) (copy_in (place_at q (row (set_of shape q)))) None
    go (inl same) =
        let low : nat_lt (set_of shape q) n ≡ false = grind (arith, same) in
        let high : nat_lt (set_of shape q) (suc n) ≡ true = grind (arith, same) in
        rw (low, high) (or_none _ ∙ ap (λ k. copy_in (place_at q (row k))) (sym same))
    go (inr n') =
        let far : nat_lt (set_of shape q) n ≡ nat_lt (set_of shape q) (suc n) = grind (arith, n') in
        rw far (ap (λ o. either (copy_in o) (cond (nat_lt (set_of shape q) (suc n)) (copy_in (place_at q (row (set_of shape q)))) None)) (not_home shape n (row n) q (h n (omega arith)) n'))

-- rows lie apart
pub rows_apart : (s t ways : ℕ) → s < t → s * ways + ways ≤ t * ways
rows_apart s t ways l = let low : suc s ≤ t = omega arith in omega (arith, mul-le-mul_right ways low, suc-mul s ways)

-- a write of one slot of the array, seen row by row
pub row_elsewhere : (shape : Shape) (slots : List Slot) (s t i : ℕ) (x : Slot) → i < shape.ways → t ≢ s → slots_of_set shape (set slots (s * shape.ways + i) x) t ≡ slots_of_set shape slots t
row_elsewhere shape slots s t i x l n = elim (cases_lt t s) [
  | inl below ↦
      let apart = rows_apart t s shape.ways below in
      sym (drop-take (t * shape.ways) shape.ways (set slots (s * shape.ways + i) x))
      ∙ ap (drop (t * shape.ways)) (take-set-le (t * shape.ways + shape.ways) slots (s * shape.ways + i) x (omega arith))
      ∙ drop-take (t * shape.ways) shape.ways slots
  | inr above ↦
      let apart = rows_apart s t shape.ways (omega arith) in
      ap (take shape.ways) (drop-set-lt (t * shape.ways) slots (s * shape.ways + i) x (omega arith))
]

pub row_here : (shape : Shape) (slots : List Slot) (s i : ℕ) (x : Slot) → i < shape.ways → slots_of_set shape (set slots (s * shape.ways + i) x) s ≡ set (slots_of_set shape slots s) i x
row_here shape slots s i x l = ap (take shape.ways) (drop-set-add (s * shape.ways) slots i x) ∙ take-set-lt shape.ways (drop (s * shape.ways) slots) i x l

pub length-row : (shape : Shape) (slots : List Slot) (s : ℕ) → length slots ≡ shape.sets * shape.ways → s < shape.sets → length (slots_of_set shape slots s) ≡ shape.ways
length-row shape slots s room l =
    let apart = rows_apart s shape.sets shape.ways l in
    simp (length-take, length-drop) (omega (arith, apart))

-- the map at a line is the copy in the line's place
pub get-copies_of : (shape : Shape) (slots : List Slot) (acquiring : FinSet nat_cmp) → IsLaidOut shape slots acquiring → (q : ℕ) → get (copies_of shape slots) q ≡ copy_in (place_of shape slots q)
unfolding copies_of
get-copies_of shape slots acquiring h q =
    get-copies_below shape shape.sets (slots_of_set shape slots) q h.rows
    ∙ ap (λ b. cond b (copy_in (place_of shape slots q)) None) (let low = h.sets_low in let e : nat_lt (set_of shape q) shape.sets ≡ true = grind (arith, low) in e)

-- a place is written where it may stand
pub record IsWrite (shape : Shape) (slots : List Slot) (line i : ℕ) (p : Place) : Type 0 where
  pub within : i < shape.ways
  pub clear : IsClear line (slots_of_set shape slots (set_of shape line)) i
  pub named : p.line ≡ line

abbrev pub after_write : Shape → List Slot → ℕ → ℕ → Place → List Slot
after_write shape slots line i p = set slots (set_of shape line * shape.ways + i) (record { place = p })

place_case : (shape : Shape) (slots : List Slot) (acquiring : FinSet nat_cmp) (line i : ℕ) (p : Place) → IsLaidOut shape slots acquiring → IsWrite shape slots line i p
    → (q : ℕ) → ((set_of shape q) ≡ (set_of shape line)) ⊎ ((set_of shape q) ≢ (set_of shape line)) → place_of shape (after_write shape slots line i p) q ≡ cond (nat_eq q line) (shown p) (place_of shape slots q)
place_case shape slots acquiring line i p h w q (inl same) =
    let low = h.sets_low in
    let here = row_here shape slots (set_of shape line) i (record { place = p }) w.within in
    let long = length-row shape slots (set_of shape line) h.room (omega arith) in
    ap (λ s. place_at q (slots_of_set shape (after_write shape slots line i p) s)) same
    ∙ ap (place_at q) here
    ∙ place_at-set q line (slots_of_set shape slots (set_of shape line)) i p (let within = w.within in omega (arith, long)) w.clear w.named
    ∙ ap (λ s. cond (nat_eq q line) (shown p) (place_at q (slots_of_set shape slots s))) (sym same)
place_case shape slots acquiring line i p h w q (inr n) =
    let differs : nat_eq q line ≡ false = not_same q line (λ e. n (ap (λ k. set_of shape k) e)) in
    ap (place_at q) (row_elsewhere shape slots (set_of shape line) (set_of shape q) i (record { place = p }) w.within n)
    ∙ ap (λ b. cond b (shown p) (place_of shape slots q)) (sym differs)
  where
    not_same : (a b : ℕ) → a ≢ b → nat_eq a b ≡ false
    not_same a b d = grind (arith, d)

pub place_of-write : (shape : Shape) (slots : List Slot) (acquiring : FinSet nat_cmp) (line i : ℕ) (p : Place) → IsLaidOut shape slots acquiring → IsWrite shape slots line i p
    → (q : ℕ) → place_of shape (after_write shape slots line i p) q ≡ cond (nat_eq q line) (shown p) (place_of shape slots q)
place_of-write shape slots acquiring line i p h w q = place_case shape slots acquiring line i p h w q (cases_eq (set_of shape q) (set_of shape line))

copy_in-shown : (p : Place) → copy_in (shown p) ≡ p.copy
copy_in-shown p = go (is_used p) refl
  where
    go : (b : Bool) → is_used p ≡ b → copy_in (cond b (Some p) None) ≡ p.copy
    go true e = refl
    go false e = sym (unused_copy p e)

acquiring_in-shown : (p : Place) → acquiring_in (shown p) ≡ p.acquiring
acquiring_in-shown p = go p.copy p.acquiring
  where
    go : (o : Option Held) (a : Bool) → acquiring_in (cond (is_some o || a) (Some (record p { copy = o; acquiring = a })) None) ≡ a
    go (Some h) a = refl
    go None true = refl
    go None false = refl

rows_case : (shape : Shape) (slots : List Slot) (acquiring : FinSet nat_cmp) (line i : ℕ) (p : Place) → IsLaidOut shape slots acquiring → IsWrite shape slots line i p
    → (s : ℕ) → s < shape.sets → (s ≡ (set_of shape line)) ⊎ (s ≢ (set_of shape line)) → IsSetRow shape s (slots_of_set shape (after_write shape slots line i p) s)
rows_case shape slots acquiring line i p h w s l (inl same) =
    let here = row_here shape slots (set_of shape line) i (record { place = p }) w.within in
    let low = h.sets_low in
    let long = length-row shape slots (set_of shape line) h.room (omega arith) in
    let done = IsRow-set shape (set_of shape line) line (slots_of_set shape slots (set_of shape line)) i p (let within = w.within in omega (arith, long)) w.clear w.named refl (h.rows (set_of shape line) (omega arith)) in
    subst (λ k. IsSetRow shape k (slots_of_set shape (after_write shape slots line i p) k)) (sym same) (subst (IsSetRow shape (set_of shape line)) (sym here) done)
rows_case shape slots acquiring line i p h w s l (inr n) =
    subst (IsSetRow shape s) (sym (row_elsewhere shape slots (set_of shape line) s i (record { place = p }) w.within n)) (h.rows s l)

-- the array is in order again where the Acquire's tracker tells what the place tells
pub IsPlaced-write : (shape : Shape) (slots : List Slot) (acquiring later : FinSet nat_cmp) (line i : ℕ) (p : Place) → IsLaidOut shape slots acquiring → IsWrite shape slots line i p
    → ((q : ℕ) → fset.contains later q ≡ cond (nat_eq q line) p.acquiring (fset.contains acquiring q)) → IsLaidOut shape (after_write shape slots line i p) later
IsPlaced-write shape slots acquiring later line i p h w tells = record {
  sets_low = h.sets_low;
  sets_high = h.sets_high;
  ways_low = h.ways_low;
  ways_high = h.ways_high;
  room = length-set slots (set_of shape line * shape.ways + i) (record { place = p }) ∙ h.room;
  rows = λ s l. rows_case shape slots acquiring line i p h w s l (cases_eq s (set_of shape line));
  tracked = λ q. tells q ∙ go q (nat_eq q line) ∙ ap acquiring_in (sym (place_of-write shape slots acquiring line i p h w q));
}
  where
    go : (q : ℕ) (b : Bool) → cond b p.acquiring (fset.contains acquiring q) ≡ acquiring_in (cond b (shown p) (place_of shape slots q))
    go q true = sym (acquiring_in-shown p)
    go q false = h.tracked q

-- the map has the place's copy there, and what it had elsewhere
pub copies_of-write : (shape : Shape) (slots : List Slot) (acquiring later : FinSet nat_cmp) (line i : ℕ) (p : Place) → IsLaidOut shape slots acquiring → IsWrite shape slots line i p
    → IsLaidOut shape (after_write shape slots line i p) later → copies_of shape (after_write shape slots line i p) ≡ put (copies_of shape slots) line p.copy
copies_of-write shape slots acquiring later line i p h w after = same_copies _ _ (λ q.
    get-copies_of shape (after_write shape slots line i p) later after q
    ∙ ap copy_in (place_of-write shape slots acquiring line i p h w q)
    ∙ go q (nat_eq q line)
    ∙ sym (get-put (copies_of shape slots) line p.copy q))
  where
    go : (q : ℕ) (b : Bool) → copy_in (cond b (shown p) (place_of shape slots q)) ≡ cond b p.copy (get (copies_of shape slots) q)
    go q true = copy_in-shown p
    go q false = sym (get-copies_of shape slots acquiring h q)
