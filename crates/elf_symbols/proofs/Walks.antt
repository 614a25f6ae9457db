-- Lists over a range, from a place of it on.
use Rattle.std.proofs.Common.{◌≡◌, ℕ, suc, ◌+◌, ◌-◌, ◌<◌, List, [], ◌∷◌, ◌++◌, Option, Some, None, sym, ap, ◌∙◌, arith}
use Rattle.std.proofs.lemmas.List.{append_assoc}
use Rattle.std.specs.List.{cons_option, filter_map, range_with_len}
use Rattle.elf_symbols.specs.Named.{Named}

-- one number of the range, and the rest
pub range-from : (k n : ℕ) → k < n → range_with_len k (n - k) ≡ k ∷ range_with_len (k + 1) (n - (k + 1))
range-from k n h =
    let e : n - k ≡ suc (n - (k + 1)) = omega arith in
    ap (range_with_len k) e

pub range-end : (k n : ℕ) → n - k ≡ 0 → range_with_len k (n - k) ≡ []
range-end k n h = ap (range_with_len k) h

module _ (f : ℕ → Option Named) (whole list : List Named) (k n : ℕ) (inside : k < n) (before : whole ≡ list ++ filter_map f (range_with_len k (n - k))) where
  step : whole ≡ list ++ cons_option (f k) (filter_map f (range_with_len (k + 1) (n - (k + 1))))
  step = before ∙ ap (λ l. list ++ filter_map f l) (range-from k n inside)

  -- the name that one number gives goes behind those of the numbers before it
  pub names-more : (s : Named) → f k ≡ Some s → whole ≡ (list ++ s ∷ []) ++ filter_map f (range_with_len (k + 1) (n - (k + 1)))
  names-more s h = step ∙ ap (λ o. list ++ cons_option o (filter_map f (range_with_len (k + 1) (n - (k + 1))))) h ∙ sym (append_assoc list (s ∷ []) (filter_map f (range_with_len (k + 1) (n - (k + 1)))))

  pub names-same : f k ≡ None → whole ≡ list ++ filter_map f (range_with_len (k + 1) (n - (k + 1)))
  names-same h = step ∙ ap (λ o. list ++ cons_option o (filter_map f (range_with_len (k + 1) (n - (k + 1))))) h
