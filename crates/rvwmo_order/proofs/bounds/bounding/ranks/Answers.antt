use Rattle.std.proofs.Common.{◌≡◌, ◌+◌, ◌<◌, ◌≤◌, ℕ, List, [], ◌∷◌, ◌++◌, length, get_or, sym, ap, ◌∙◌, ◌⊎◌, inl, inr, arith}
use Rattle.std.proofs.lemmas.Bool.{cases_lt}
use Rattle.std.proofs.lemmas.List.{get_or_append_left, get_or_push}
use Rattle.rvwmo_order.proofs.bounds.bounding.ranks.Goals as goal

-- one more of the numbers that count from 1; to search for this at the loop takes seconds
ranked_next : (old new : List ℕ) (n : ℕ) → length old ≡ n → new ≡ old ++ (n + 1) ∷ [] → ((k : ℕ) → k < n → get_or old k 0 ≡ k + 1) → (k : ℕ) → k < n + 1 → get_or new k 0 ≡ k + 1
ranked_next old new n l e inv k h = rw e (go (cases_lt k n))
  where
    go : (k < n) ⊎ (n ≤ k) → get_or (old ++ (n + 1) ∷ []) k 0 ≡ k + 1
    go (inl m) = get_or_append_left old ((n + 1) ∷ []) 0 k (omega (arith, l, m)) ∙ inv k m
    go (inr m) = let same : k ≡ n = omega (arith, h, m) in get_or_push old (n + 1) 0 k (omega (arith, l, same)) ∙ ap (λ j. j + 1) (sym same)

pub loop-place-preserved : goal.loop-place-preserved
loop-place-preserved c =
    let items = c.in_ok-push.ensures.items in
    record {
      long = omega (arith, c.in_ok-push.ensures.len, c.loop-place.invariant.long);
      ranked = ranked_next c.loop-place.ranks.items c.push.new.self.items c.loop-place.place (omega (arith, c.loop-place.ranks.ok.0, c.loop-place.invariant.long)) items c.loop-place.invariant.ranked;
    }
