-- No word is in two rows: of any two rows, the matches differ in a bit that both masks take.
use Rattle.std.proofs.Common.{◌≡◌, ℕ, ◌+◌, ◌≤◌, List, [], ◌∷◌, Bool, true, false, ◌&&◌, cond, refl, sym, ap, ◌∙◌, subst, arith, bit_and}
use Rattle.std.specs.Prelude.{◌==◌, not}
use Rattle.std.specs.List.{count_by, list_all}
use Rattle.std.proofs.lemmas.List.Recursion.{is_count_by}
use Rattle.std.proofs.lemmas.Nat.{and_assoc, and_comm}
use Rattle.std.proofs.lemmas.Bool.{false≢true, eqb-true, eq-eqb, and_parts}
use Rattle.rv32_decode.specs.Rows.{Row, rows, is_in}
use Rattle.rv32_decode.specs.Laws.{RowsAreApart}

abbrev is_apart : Row → Row → Bool
is_apart r s = not (bit_and r.match s.mask == bit_and s.match r.mask)

abbrev are_apart : List Row → Bool
are_apart [] = true
are_apart (r ∷ rs) = list_all (is_apart r) rs && are_apart rs

shared : (w : ℕ) (r s : Row) → is_in w r ≡ true → is_in w s ≡ true → bit_and r.match s.mask ≡ bit_and s.match r.mask
shared w r s a b =
    let f : bit_and w r.mask ≡ r.match = eqb-true (bit_and w r.mask) r.match a in
    let g : bit_and w s.mask ≡ s.match = eqb-true (bit_and w s.mask) s.match b in
    ap (λ n. bit_and n s.mask) (sym f)
    ∙ and_assoc s.mask w r.mask
    ∙ ap (bit_and w) (and_comm r.mask s.mask)
    ∙ sym (and_assoc r.mask w s.mask)
    ∙ ap (λ n. bit_and n r.mask) g

not_both : (w : ℕ) (r s : Row) → is_in w r ≡ true → is_apart r s ≡ true → is_in w s ≡ false
not_both w r s a p = go (is_in w s) refl
  where
    go : (t : Bool) → is_in w s ≡ t → is_in w s ≡ false
    go false e = e
    go true e =
        absurd (false≢true (sym (ap not (eq-eqb (bit_and r.match s.mask) (bit_and s.match r.mask) (shared w r s a e))) ∙ p))

abbrev times : (Row → Bool) → List Row → ℕ
times p [] = 0
times p (r ∷ rs) = cond (p r) (1 + times p rs) (times p rs)

none_after : (w : ℕ) (r : Row) → is_in w r ≡ true → (rs : List Row) → list_all (is_apart r) rs ≡ true → times (is_in w) rs ≡ 0
none_after w r a [] p = refl
none_after w r a (s ∷ rs) p =
    let parts = and_parts (is_apart r s) (list_all (is_apart r) rs) p in
    ap (λ t. cond t (1 + times (is_in w) rs) (times (is_in w) rs)) (not_both w r s a parts.0) ∙ none_after w r a rs parts.1

at_most_one : (w : ℕ) (rs : List Row) → are_apart rs ≡ true → times (is_in w) rs ≤ 1
at_most_one w [] p = omega arith
at_most_one w (r ∷ rs) p = go (is_in w r) refl (at_most_one w rs parts.1)
  where
    parts : (list_all (is_apart r) rs ≡ true) × (are_apart rs ≡ true)
    parts = and_parts (list_all (is_apart r) rs) (are_apart rs) p

    go : (t : Bool) → is_in w r ≡ t → times (is_in w) rs ≤ 1 → times (is_in w) (r ∷ rs) ≤ 1
    go true e h =
        let c : times (is_in w) (r ∷ rs) ≡ 1 + times (is_in w) rs = ap (λ t. cond t (1 + times (is_in w) rs) (times (is_in w) rs)) e in
        let z : times (is_in w) rs ≡ 0 = none_after w r e rs parts.0 in
        omega arith
    go false e h =
        let c : times (is_in w) (r ∷ rs) ≡ times (is_in w) rs = ap (λ t. cond t (1 + times (is_in w) rs) (times (is_in w) rs)) e in
        omega arith

pub rows_are_apart : RowsAreApart
rows_are_apart w =
    let c : times (is_in w) rows ≡ count_by (is_in w) rows = is_count_by (times (is_in w)) (is_in w) refl (λ r rs. refl) rows in
    let m : times (is_in w) rows ≤ 1 = at_most_one w rows refl in
    subst (λ n. n ≤ 1) c m
