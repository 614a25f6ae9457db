-- Words that are compared from the left.
use Rattle.std.proofs.Common.{◌≡◌, ℕ, ◌≤◌, Bool, true, false, cond, List, [], ◌∷◌, length, refl, sym, ap, ◌∙◌, true≢false, arith}
use Rattle.std.proofs.lemmas.Bool.{eqb-true, eq-eqb, ne_eqb}
use Rattle.std.specs.Prelude.{◌==◌, ◌&&◌, nat_eq, Option, Some, None}
use Rattle.std.specs.Str.{bytes_eq}
use Rattle.text_fields.specs.Reading.{after}

-- nothing is left
abbrev is_end : Option (List ℕ) → Bool
is_end None = false
is_end (Some []) = true
is_end (Some (b ∷ bytes)) = false

swapped : (a b : ℕ) → nat_eq a b ≡ nat_eq b a
swapped a b = go (nat_eq a b) refl (nat_eq b a) refl
  where
    go : (one : Bool) → one ≡ nat_eq a b → (other : Bool) → other ≡ nat_eq b a → nat_eq a b ≡ nat_eq b a
    go true e other f = sym e ∙ sym (eq-eqb b a (sym (eqb-true a b (sym e))))
    go false e true f = absurd (true≢false (sym (eq-eqb a b (sym (eqb-true b a (sym f)))) ∙ sym e))
    go false e false f = sym e ∙ f

compared : (xs ys : List ℕ) → is_end (after xs ys) ≡ bytes_eq xs ys
compared [] [] = refl
compared [] (y ∷ ys) = refl
compared (x ∷ xs) [] = refl
compared (x ∷ xs) (y ∷ ys) = go (y == x) (nat_eq x y) (swapped y x) (compared xs ys)
  where
    go : (one other : Bool) → one ≡ other → is_end (after xs ys) ≡ bytes_eq xs ys → is_end (cond one (after xs ys) None) ≡ (other && bytes_eq xs ys)
    go true true e h = h
    go false false e h = refl
    go true false e h = absurd cc
    go false true e h = absurd cc

pub all_same : (xs ys rest : List ℕ) → Some rest ≡ after xs ys → length rest ≡ 0 → true ≡ bytes_eq xs ys
all_same xs ys [] is none = ap is_end is ∙ compared xs ys
all_same xs ys (b ∷ rest) is none = absurd (omega arith)

pub more_differs : (xs ys rest : List ℕ) → Some rest ≡ after xs ys → 1 ≤ length rest → false ≡ bytes_eq xs ys
more_differs xs ys [] is some = absurd (omega arith)
more_differs xs ys (b ∷ rest) is some = ap is_end is ∙ compared xs ys

pub none_same : (xs ys : List ℕ) → None ≡ after xs ys → false ≡ bytes_eq xs ys
none_same xs ys is = ap is_end is ∙ compared xs ys
