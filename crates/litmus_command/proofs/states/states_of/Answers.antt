use Rattle.std.proofs.Common.{Contains, List, ℕ, subst, sym}
use Rattle.std.proofs.lemmas.List.Sorted.{IsPermutation-sym}
use Rattle.litmus_answers.proofs.Sorting.{has_each, has_no_other, rises}
use Rattle.litmus_command.proofs.states.states_of.Goals as goal

pub returns-clause-states : goal.returns-clause-states
returns-clause-states c = record {
  sorted = rises c.in_ok-rows.rows.items _ _ c.dedup.ensures.filtered c.sort_unstable.ensures.sorted;
  each = λ state. (
    λ told. has_each _ _ _ c.dedup.ensures.filtered c.sort_unstable.ensures.permutation state (subst (λ (l : List (List ℕ)). Contains l state) (sym c.in_ok-rows.ensures.found) told),
    λ told. subst (λ (l : List (List ℕ)). Contains l state) c.in_ok-rows.ensures.found (has_no_other _ _ _ c.dedup.ensures.filtered (IsPermutation-sym _ _ c.sort_unstable.ensures.permutation) state told),
  );
}
