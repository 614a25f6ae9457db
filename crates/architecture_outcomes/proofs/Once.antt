-- Each outcome is told once.
use Rattle.std.proofs.Common.{◌≡◌, ◌∙◌, ◌+◌, ◌≤◌, ◌||◌, ℕ, All, Bool, true, false, true≢false, List, [], ◌∷◌, ◌++◌, IsPermutation, ap, arith, cond, refl, subst, sym}
use Rattle.std.specs.Cmp.{Equal-is, on_total}
use Rattle.std.specs.List.{count_by, dedup, list_any}
use Rattle.std.specs.List.Retain.{DiffersFromLast, IsFiltered}
use Rattle.std.specs.List.Sorted.{IsSorted, IsSortedByKey, IsStrictlySortedBy}
use Rattle.std.specs.Ordering.{eq_by_cmp, on}
use Rattle.std.proofs.lemmas.List.Filters.{All-dedup, dedup_is}
use Rattle.std.proofs.lemmas.List.Folds.{Any-from_list_any}
use Rattle.std.proofs.lemmas.List.Kept.{IsStrictlySortedBy-dedup}
use Rattle.std.proofs.lemmas.List.Sorted.{All-permutation}
use Rattle.std.proofs.lemmas.List.Sums.{sum_by-append, sum_by-cons}
use Rattle.architecture_outcomes.specs.declared.outcome.Outcome.{Outcome}
use Rattle.architecture_outcomes.specs.Outcomes.{TellOnce, end_of, tells}
use Rattle.exploration_text.proofs.Once.{once_of_strict, strict_of_once, times_moved}
use Rattle.performed_words.specs.Outcomes.{Outcome as End}
use Rattle.exploration_text.specs.Orders.{outcome_total, same_outcome}
use Rattle.exploration_text.specs.Ranks.{outcome_cmp}

counted : {X : Type 0} (p : X → Bool) (x : X) (xs : List X) → count_by p (x ∷ xs) ≡ cond (p x) 1 0 + count_by p xs
counted p x xs = sum_by-cons (λ y. cond (p y) 1 0) x xs

neither : (a b : Bool) → (a || b) ≡ false → (a ≡ false) × (b ≡ false)
neither true b e = absurd (true≢false e)
neither false b e = (refl, e)

none_counted : {X : Type 0} (p : X → Bool) (xs : List X) → list_any p xs ≡ false → count_by p xs ≡ 0
none_counted p [] none = refl
none_counted p (x ∷ xs) none =
    let parts = neither (p x) (list_any p xs) none in
    let more = counted p x xs in
    let here : cond {A = ℕ} (p x) 1 0 ≡ 0 = ap (λ b. cond {A = ℕ} b 1 0) parts.0 in
    let rest = none_counted p xs parts.1 in
    omega (arith, more, here, rest)

-- two lists that rise strictly and have nothing in common
pub once_apart : (found outcomes : List Outcome) → IsStrictlySortedBy (on end_of outcome_cmp) found → IsStrictlySortedBy (on end_of outcome_cmp) outcomes
    → All (λ o. list_any (tells (end_of o)) found ≡ false) outcomes → TellOnce found outcomes
once_apart found outcomes up also apart outcome = go (list_any (tells outcome) outcomes) refl
  where
    few : count_by (tells outcome) found ≤ 1
    few = once_of_strict outcome_total end_of found up outcome

    others : count_by (tells outcome) outcomes ≤ 1
    others = once_of_strict outcome_total end_of outcomes also outcome

    go : (b : Bool) → list_any (tells outcome) outcomes ≡ b → count_by (tells outcome) found + count_by (tells outcome) outcomes ≤ 1
    go false e = let none = none_counted (tells outcome) outcomes e in omega (arith, few, none)
    go true e =
        let told = Any-from_list_any (tells outcome) outcomes e in
        let one : end_of told.1 ≡ outcome = same_outcome (end_of told.1) outcome ((Equal-is (outcome_cmp (end_of told.1) outcome)).0 told.4) in
        let new : list_any (tells (end_of told.1)) found ≡ false = subst (λ (o : Outcome). list_any (tells (end_of o)) found ≡ false) told.3 (apart told.0 told.1 told.2) in
        let none : count_by (tells outcome) found ≡ 0 = none_counted (tells outcome) found (subst (λ r. list_any (tells r) found ≡ false) one new) in
        omega (arith, none, others)

-- ---- what is left of a list that is sorted, each once

module _ (before sorted left : List Outcome) (kept : IsFiltered (DiffersFromLast (eq_by_cmp (on end_of outcome_cmp))) [] sorted left) where
  left_is : left ≡ dedup (eq_by_cmp (on end_of outcome_cmp)) sorted
  left_is = dedup_is (eq_by_cmp (on end_of outcome_cmp)) sorted left kept

  pub left_of : (P : Outcome → Type 0) → IsPermutation before sorted → All P before → All P left
  left_of P moved all = subst (All P) (sym left_is) (All-dedup (eq_by_cmp (on end_of outcome_cmp)) P sorted (All-permutation P before sorted moved all))

  pub left_strict : IsSorted (on end_of outcome_cmp) sorted → IsStrictlySortedBy (on end_of outcome_cmp) left
  left_strict up = subst (IsStrictlySortedBy (on end_of outcome_cmp)) (sym left_is) (IsStrictlySortedBy-dedup (on_total end_of outcome_total) (λ x y. refl) sorted up)

-- ---- all of them, sorted

pub rises : (beyond joined sorted found : List Outcome) → joined ≡ beyond ++ found → IsPermutation joined sorted → IsSortedByKey end_of outcome_cmp sorted → TellOnce found beyond
    → IsStrictlySortedBy (on end_of outcome_cmp) sorted
rises beyond joined sorted found joined_is moved up once = strict_of_once outcome_total end_of sorted up few
  where
    few : (outcome : End) → count_by (tells outcome) sorted ≤ 1
    few outcome =
        let all : count_by (tells outcome) sorted ≡ count_by (tells outcome) joined = times_moved outcome_total end_of joined sorted moved outcome in
        let parts : count_by (tells outcome) joined ≡ count_by (tells outcome) beyond + count_by (tells outcome) found =
        ap (count_by (tells outcome)) joined_is ∙ sum_by-append (λ x. cond (tells outcome x) 1 0) beyond found in
        let one = once outcome in
        omega (arith, all, parts, one)
