-- A binary search among the machine's outcomes finds just those that are there.
use Rattle.std.proofs.Common.{◌≡◌, ◌∙◌, ◌+◌, ◌≤◌, ℕ, List, [], ◌∷◌, Ok, Err, Less, Equal, Greater, Ordering, ap, arith, false, get_or, is_eq, is_ok, length, refl, sym}
use Rattle.std.specs.Cmp.{IsTotalOrder}
use Rattle.std.specs.List.{list_any}
use Rattle.std.specs.List.Sorted.{IsBinarySearchResult, IsNonDecreasingBy, IsPartitionPoint, IsSearchInRange, IsStrictlySortedBy}
use Rattle.std.specs.Ordering.{on, ordering_index, ordering_reverse}
use Rattle.std.specs.declared.result.Result.{Result}
use Rattle.std.proofs.lemmas.Bool.{cases_lt}
use Rattle.std.proofs.lemmas.Cmp.{alike_right}
use Rattle.std.proofs.lemmas.List.Folds.{list_any_at, list_any_none}
use Rattle.std.proofs.lemmas.List.Sorted.{IsNonDecreasingBy-from_all_adjacent}
use Rattle.std.proofs.lemmas.Map.Keys.{Less-from_sorted}
use Rattle.std.proofs.Math.Logic.{⊎_elim}
use Rattle.architecture_outcomes.specs.declared.outcome.Outcome.{Outcome}
use Rattle.architecture_outcomes.specs.Outcomes.{end_of, tells}
use Rattle.performed_words.specs.Outcomes.{Outcome as End}
use Rattle.exploration_text.specs.Orders.{outcome_total}
use Rattle.exploration_text.specs.Ranks.{outcome_cmp}

-- what stands above stands no lower beside a third
no_lower : {K : Type 0} {R : K → K → Ordering} → IsTotalOrder R → (x y z : K) → R x y ≡ Less → ordering_index (R x z) ≤ ordering_index (R y z)
no_lower {K} {R} total x y z below = go (R x z) (R y z) refl refl
  where
    go : (a b : Ordering) → R x z ≡ a → R y z ≡ b → ordering_index (R x z) ≤ ordering_index (R y z)
    go Less b e f = omega (arith, ap ordering_index e)
    go Equal b e f =
        let above : R y z ≡ Greater = total.antisymm y z ∙ ap ordering_reverse (sym (total.congr x z y e) ∙ below) in
        omega (arith, ap ordering_index e, ap ordering_index above)
    go Greater Less e f = absurd (omega (arith, ap ordering_index e, ap ordering_index (total.trans x y z below f)))
    go Greater Equal e f = absurd (omega (arith, ap ordering_index e, ap ordering_index (sym (alike_right total y z x f) ∙ below)))
    go Greater Greater e f = omega (arith, ap ordering_index e, ap ordering_index f)

rises : (found : List Outcome) (o : End) → IsStrictlySortedBy (on end_of outcome_cmp) found → IsNonDecreasingBy (λ f. ordering_index (outcome_cmp (end_of f) o)) found
rises found o up =
    IsNonDecreasingBy-from_all_adjacent (λ f. ordering_index (outcome_cmp (end_of f) o)) found
    (λ k d inside. no_lower outcome_total (end_of (get_or found k d)) (end_of (get_or found (k + 1) d)) o (Less-from_sorted (on end_of outcome_cmp) found k (k + 1) d up (omega arith) inside))

-- where it answers a place, nothing is there
absent : (found : List Outcome) (o : End) (i : ℕ) → IsPartitionPoint (λ f. outcome_cmp (end_of f) o ≡ Less) (λ f. outcome_cmp (end_of f) o ≡ Greater) found i → list_any (tells o) found ≡ false
absent found o i parts =
    list_any_none (tells o) found
    (λ k d inside. ⊎_elim (λ below. ap is_eq (parts.0 k d (omega arith) below)) (λ above. ap is_eq (parts.1 k d above inside)) (cases_lt k i))

pub searched : (found : List Outcome) (o : End) (r : Result ℕ ℕ) → IsStrictlySortedBy (on end_of outcome_cmp) found → IsSearchInRange r (length found) → IsBinarySearchResult (λ f. outcome_cmp (end_of f) o) found r
    → is_ok r ≡ list_any (tells o) found
searched [] o (Ok i) up inside at = absurd (omega (arith, inside))
searched (f ∷ fs) o (Ok i) up inside at = sym (list_any_at (tells o) (f ∷ fs) i f inside (ap is_eq (at f)))
searched found o (Err i) up inside at = sym (absent found o i (at (rises found o up)))
