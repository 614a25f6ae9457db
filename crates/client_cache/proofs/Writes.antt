-- What a row has after a write of one slot.
use Rattle.std.proofs.Common.{◌≡◌, ◌≢◌, ℕ, zero, suc, ◌<◌, Bool, true, false, cond, nat_eq, List, [], ◌∷◌, length, set, Option, Some, None, refl, sym, ap, ◌∙◌, arith, inl, inr}
use Rattle.std.specs.Prelude.{slice_get}
use Rattle.std.proofs.lemmas.Bool.{cases_eq}
use Rattle.client_cache.specs.declared.shape.Shape.{Shape}
use Rattle.client_cache.specs.declared.slot.Place.{Place}
use Rattle.client_cache.specs.declared.slot.Slot.{Slot}
use Rattle.client_cache.specs.Shape.{set_of}
use Rattle.client_cache.specs.Row.{is_used, holds, place_at, IsClear}
use Rattle.client_cache.specs.Array.{IsSetRow}
use Rattle.client_cache.proofs.Rows.{shown, holds_parts, holds_from, not_held, held_unused, held_shown}

true_false : true ≡ false → ⊥
true_false bad = cc

same_test : (a b : ℕ) → a ≡ b → nat_eq a b ≡ true
same_test a b e = grind (arith, e)

other_test : (a b : ℕ) → a ≢ b → nat_eq a b ≡ false
other_test a b n = grind (arith, n)

none_or_not : (A : Type 0) (b : Bool) (x : A) (o : Option A) → cond b (Some x) o ≡ None → (b ≡ false) × (o ≡ None)
none_or_not A true x o h = absurd (cc)
none_or_not A false x o h = (refl, h)

-- a slot that isn't used, or has another line, does not hold this one
clear_other : (q line : ℕ) (x : Place) → (is_used x ≡ true → x.line ≡ line) → q ≢ line → holds q x ≡ false
clear_other q line x only n = go (is_used x) refl
  where
    go : (b : Bool) → is_used x ≡ b → holds q x ≡ false
    go true e = not_held q x (λ same. n (sym same ∙ only e))
    go false e = held_unused q x e

-- the line's place is what was written, and each other line has what it had
pub place_at-set : (q line : ℕ) (xs : List Slot) (i : ℕ) (p : Place) → i < length xs → IsClear line xs i → p.line ≡ line
    → place_at q (set xs i (record { place = p })) ≡ cond (nat_eq q line) (shown p) (place_at q xs)
place_at-set q line [] i p l clear e = absurd (omega arith)
place_at-set q line (x ∷ xs) zero p l clear e = elim (cases_eq q line) [
  | inl same ↦
      rw (same_test q line same)
      (ap (λ k. cond (holds k p) (Some p) (place_at k xs)) same
      ∙ ap (λ o. cond (holds line p) (Some p) o) clear.0
      ∙ ap (λ b. cond b (Some p) None) (held_shown line p e))
  | inr n ↦
      rw (other_test q line n)
      (ap (λ b. cond b (Some p) (place_at q xs)) (not_held q p (λ is. n (sym is ∙ e)))
      ∙ sym (ap (λ b. cond b (Some x.place) (place_at q xs)) (clear_other q line x.place clear.1 n)))
]
place_at-set q line (x ∷ xs) (suc i) p l clear e =
    ap (λ o. cond (holds q x.place) (Some x.place) o) (place_at-set q line xs i p (omega arith) clear.1 e)
    ∙ (elim (cases_eq q line) [
      | inl same ↦
          rw (same_test q line same)
          (ap (λ b. cond b (Some x.place) (shown p)) (ap (λ k. holds k x.place) same ∙ clear.0))
      | inr n ↦ rw (other_test q line n) refl
    ])

pub IsRow-set : (shape : Shape) (s line : ℕ) (xs : List Slot) (i : ℕ) (p : Place) → i < length xs → IsClear line xs i → p.line ≡ line → set_of shape line ≡ s
    → IsSetRow shape s xs → IsSetRow shape s (set xs i (record { place = p }))
IsRow-set shape s line [] i p l clear e home h = h
IsRow-set shape s line (x ∷ xs) zero p l clear e home h =
    (λ _. ap (λ k. set_of shape k) e ∙ home, λ _. ap (λ k. place_at k xs) e ∙ clear.0, h.2)
IsRow-set shape s line (x ∷ xs) (suc i) p l clear e home h = (
  h.0,
  λ u. place_at-set x.place.line line xs i p (omega arith) clear.1 e
      ∙ ap (λ b. cond b (shown p) (place_at x.place.line xs)) (other_test x.place.line line (λ same. absurd (true_false (sym (holds_from line x.place u same) ∙ clear.0))))
      ∙ h.1 u,
  IsRow-set shape s line xs i p (omega arith) clear.1 e home h.2,
)

-- a row with a slot of the line has a place for it
not_none : (line : ℕ) (xs : List Slot) (i : ℕ) (y : Slot) → slice_get xs i ≡ Some y → holds line y.place ≡ true → place_at line xs ≡ None → ⊥
not_none line [] i y here held none = cc
not_none line (x ∷ xs) zero y here held none =
    let parts = none_or_not Place (holds line x.place) x.place (place_at line xs) none in
    let same : x ≡ y = cc here in
    true_false (sym held ∙ ap (λ (z : Slot). holds line z.place) (sym same) ∙ parts.0)
not_none line (x ∷ xs) (suc i) y here held none =
    let parts = none_or_not Place (holds line x.place) x.place (place_at line xs) none in
    not_none line xs i y here held parts.1

-- where the line has its place, that slot may be written
pub clear_at : (shape : Shape) (s line : ℕ) (xs : List Slot) (i : ℕ) (p : Place) → IsSetRow shape s xs → slice_get xs i ≡ Some (record { place = p }) → holds line p ≡ true → IsClear line xs i
clear_at shape s line [] i p h here held = tt
clear_at shape s line (x ∷ xs) zero p h here held =
    let slot : x ≡ record { place = p } = cc here in
    let same : x.place ≡ p = ap (λ (y : Slot). y.place) slot in
    let parts = holds_parts line p held in (
      ap (λ k. place_at k xs) (sym (ap (λ (y : Place). y.line) same ∙ parts.1)) ∙ h.1 (ap is_used same ∙ parts.0),
      λ _. ap (λ (y : Place). y.line) same ∙ parts.1,
    )
clear_at shape s line (x ∷ xs) (suc i) p h here held = (go (holds line x.place) refl, clear_at shape s line xs i p h.2 here held)
  where
    go : (b : Bool) → holds line x.place ≡ b → b ≡ false
    go true e =
        let parts = holds_parts line x.place e in
        absurd (not_none line xs i (record { place = p }) here held (ap (λ k. place_at k xs) (sym parts.1) ∙ h.1 parts.0))
    go false e = refl

-- where it has none, a free slot may be
pub clear_free : (line : ℕ) (xs : List Slot) (i : ℕ) (x : Slot) → slice_get xs i ≡ Some x → is_used x.place ≡ false → place_at line xs ≡ None → IsClear line xs i
clear_free line [] i p here free none = tt
clear_free line (x ∷ xs) zero y here free none =
    let parts = none_or_not Place (holds line x.place) x.place (place_at line xs) none in
    let same : x ≡ y = cc here in
    (parts.1, λ u. absurd (true_false (sym u ∙ ap (λ (z : Slot). is_used z.place) same ∙ free)))
clear_free line (x ∷ xs) (suc i) y here free none =
    let parts = none_or_not Place (holds line x.place) x.place (place_at line xs) none in
    (parts.0, clear_free line xs i y here free parts.1)
