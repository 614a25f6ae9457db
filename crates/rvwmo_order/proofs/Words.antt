-- What is kept of bytes, four in a row together: a word that is put in place of what was there, and its bytes one by one.
use Rattle.std.proofs.Common.{◌≡◌, ℕ, ◌<◌, ◌≤◌, ◌*◌, ◌/◌, ◌%◌, List, [], Bool, true, false, Option, Some, None, refl, cond, sym, ap, ◌∙◌, ◌+◌, ◌&&◌, ◌⊎◌, ⊎_elim, inl, inr, arith, length, set, replicate}
use Rattle.std.specs.Prelude.{nat_eq, nat_le, nat_lt, slice_index_or, unwrap_or}
use Rattle.std.proofs.Math.Nat.{div-add-mod}
use Rattle.std.proofs.lemmas.Bool.{cases_eq, cases_lt, eq-eqb, ne_eqb, lt-ltb, le-ltb, le-leb, lt-leb}
use Rattle.std.proofs.lemmas.Grind.{get_or-set_at}
use Rattle.std.proofs.lemmas.List.{get_or-set_other, get_or-replicate, get_or_past, length-replicate}

-- ---- numbers of words

four : (x : ℕ) → (4 * (x / 4) + x % 4 ≡ x) × (x % 4 < 4)
four x = (div-add-mod x 4, omega arith)

pub same_word : (first x : ℕ) → first ≤ x → x < first / 4 * 4 + 4 → x / 4 ≡ first / 4
same_word first x l m = let p = four first in let q = four x in let e = p.0 in let f = q.0 in let g = p.1 in let h = q.1 in omega (arith, e, f, g, h)

pub same_byte : (x y : ℕ) → x / 4 ≡ y / 4 → x % 4 ≡ y % 4 → x ≡ y
same_byte x y e f = let p = four x in let q = four y in let g = p.0 in let h = q.0 in omega (arith, e, f, g, h)

-- ---- what is kept of a byte

abbrev pub kept : {T : Type 0} → (ℕ → Option (List T)) → T → ℕ → T
kept words d x = slice_index_or (unwrap_or (words (x / 4)) []) (x % 4) d

-- the bytes from one on up to another went past something
abbrev pub passed : {T : Type 0} → (ℕ → T → T) → ℕ → ℕ → ℕ → T → T
passed f first end x t = cond (nat_le first x && nat_lt x end) (f x t) t

passed_outside : {T : Type 0} (f : ℕ → T → T) (first end x : ℕ) (t : T) → (x < first) ⊎ (end ≤ x) → passed f first end x t ≡ t
passed_outside f first end x t (inl l) = ap (λ b. cond (b && nat_lt x end) (f x t) t) (lt-leb first x l)
passed_outside f first end x t (inr l) = ap (λ b. cond (nat_le first x && b) (f x t) t) (le-ltb x end l) ∙ go (nat_le first x)
  where
    go : (b : Bool) → cond (b && false) (f x t) t ≡ t
    go true = refl
    go false = refl

passed_inside : {T : Type 0} (f : ℕ → T → T) (first end x : ℕ) (t : T) → first ≤ x → x < end → passed f first end x t ≡ f x t
passed_inside f first end x t l m = ap (λ b. cond (b && nat_lt x end) (f x t) t) (le-leb first x l) ∙ ap (λ b. cond b (f x t) t) (lt-ltb x end m)

-- one byte more of a word
pub next_byte : {T : Type 0} (f : ℕ → T → T) (first x : ℕ) (old before new : List T) (d value : T) → first ≤ x → x / 4 ≡ first / 4 → 4 ≤ length before → new ≡ set before (x % 4) value → value ≡ f x (slice_index_or before (x % 4) d)
    → ((y : ℕ) → y / 4 ≡ first / 4 → slice_index_or before (y % 4) d ≡ passed f first x y (slice_index_or old (y % 4) d))
    → (y : ℕ) → y / 4 ≡ first / 4 → slice_index_or new (y % 4) d ≡ passed f first (x + 1) y (slice_index_or old (y % 4) d)
next_byte {T = T} f first x old before new d value l w long e v inv y h = ⊎_elim here other (cases_eq y x)
  where
    here : y ≡ x → slice_index_or new (y % 4) d ≡ passed f first (x + 1) y (slice_index_or old (y % 4) d)
    here is =
        let q = (four x).1 in
        let at : slice_index_or new (y % 4) d ≡ value = ap (λ (ts : List T). slice_index_or ts (y % 4) d) e ∙ get_or-set_at before (x % 4) (y % 4) value d (ap (λ n. n % 4) is) (omega (arith, q, long)) in
        let was : slice_index_or before (x % 4) d ≡ slice_index_or old (x % 4) d = inv x w ∙ passed_outside f first x x (slice_index_or old (x % 4) d) (inr (omega arith)) in
        at ∙ (v ∙ (ap (f x) was ∙ (ap (λ n. f n (slice_index_or old (n % 4) d)) (sym is) ∙ sym (passed_inside f first (x + 1) y (slice_index_or old (y % 4) d) (omega (arith, is, l)) (omega (arith, is))))))

    apart : (y ≡ x → ⊥) → y % 4 ≡ x % 4 → ⊥
    apart is e = is (same_byte y x (h ∙ sym w) e)

    other : (y ≡ x → ⊥) → slice_index_or new (y % 4) d ≡ passed f first (x + 1) y (slice_index_or old (y % 4) d)
    other is =
        ap (λ (ts : List T). slice_index_or ts (y % 4) d) e
        ∙ (get_or-set_other before (x % 4) (y % 4) value d (apart is)
        ∙ (inv y h ∙ ap (λ b. cond (nat_le first y && b) (f y (slice_index_or old (y % 4) d)) (slice_index_or old (y % 4) d)) (one_more is)))
      where
        one_more : (y ≡ x → ⊥) → nat_lt y x ≡ nat_lt y (x + 1)
        one_more g = grind arith

-- a word of untouched bytes is like none
fresh : {T : Type 0} (d : T) (o : Option (List T)) (i : ℕ) → slice_index_or (unwrap_or o (replicate 4 d)) i d ≡ slice_index_or (unwrap_or o []) i d
fresh d (Some word) i = refl
fresh d None i = ⊎_elim (λ l. get_or-replicate 4 i d d l) (λ l. get_or_past (replicate 4 d) i d (let n = length-replicate 4 d in omega (arith, l, n))) (cases_lt i 4)

-- a word more
pub next_word : {T : Type 0} (f : ℕ → T → T) (a x behind : ℕ) (old before new : ℕ → Option (List T)) (d : T) (word value : List T) → a ≤ x → x < behind → behind ≤ x / 4 * 4 + 4
    → ((q : ℕ) → new q ≡ cond (nat_eq (x / 4) q) (Some value) (before q)) → word ≡ unwrap_or (before (x / 4)) (replicate 4 d)
    → ((y : ℕ) → y / 4 ≡ x / 4 → slice_index_or value (y % 4) d ≡ passed f x behind y (slice_index_or word (y % 4) d))
    → ((y : ℕ) → kept before d y ≡ passed f a x y (kept old d y))
    → (y : ℕ) → kept new d y ≡ passed f a behind y (kept old d y)
next_word {T = T} f a x behind old before new d word value l m n all e bytes inv y = ⊎_elim here other (cases_eq (x / 4) (y / 4))
  where
    beside : x / 4 ≡ y / 4 → (y < x) ⊎ (x ≤ y) → passed f x behind y (kept before d y) ≡ passed f a behind y (kept old d y)
    beside is (inl k) = passed_outside f x behind y (kept before d y) (inl k) ∙ (inv y ∙ ap (λ b. cond (nat_le a y && b) (f y (kept old d y)) (kept old d y)) (lt-ltb y x k ∙ sym (lt-ltb y behind (omega (arith, k, m)))))
    beside is (inr k) = ap (passed f x behind y) (inv y ∙ passed_outside f a x y (kept old d y) (inr k)) ∙ ap (λ b. cond (b && nat_lt y behind) (f y (kept old d y)) (kept old d y)) (le-leb x y k ∙ sym (le-leb a y (omega (arith, k, l))))

    here : x / 4 ≡ y / 4 → kept new d y ≡ passed f a behind y (kept old d y)
    here is =
        ap (λ (o : Option (List T)). slice_index_or (unwrap_or o []) (y % 4) d) (all (y / 4) ∙ ap (λ b. cond b (Some value) (before (y / 4))) (eq-eqb (x / 4) (y / 4) is))
        ∙ (bytes y (sym is)
        ∙ (ap (passed f x behind y) (ap (λ (ts : List T). slice_index_or ts (y % 4) d) e ∙ (fresh d (before (x / 4)) (y % 4) ∙ ap (λ q. slice_index_or (unwrap_or (before q) []) (y % 4) d) is))
        ∙ beside is (cases_lt y x)))

    outside : (x / 4 ≡ y / 4 → ⊥) → (y < x) ⊎ (behind ≤ y)
    outside is = ⊎_elim (λ k. inl k) (λ k. ⊎_elim (λ j. absurd (is (sym (same_word x y k (omega (arith, j, n)))))) (λ j. inr j) (cases_lt y behind)) (cases_lt y x)

    further : (y < x) ⊎ (behind ≤ y) → nat_lt y x ≡ nat_lt y behind
    further (inl k) = lt-ltb y x k ∙ sym (lt-ltb y behind (omega (arith, k, m)))
    further (inr k) = le-ltb y x (omega (arith, k, m)) ∙ sym (le-ltb y behind k)

    other : (x / 4 ≡ y / 4 → ⊥) → kept new d y ≡ passed f a behind y (kept old d y)
    other is =
        ap (λ (o : Option (List T)). slice_index_or (unwrap_or o []) (y % 4) d) (all (y / 4) ∙ ap (λ b. cond b (Some value) (before (y / 4))) (ne_eqb (x / 4) (y / 4) is))
        ∙ (inv y ∙ ap (λ b. cond (nat_le a y && b) (f y (kept old d y)) (kept old d y)) (further (outside is)))
