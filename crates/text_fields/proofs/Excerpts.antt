-- What an excerpt keeps.
use Rattle.std.proofs.Common.{◌≡◌, ℕ, ◌-◌, List, ◌++◌, length, take, drop, ap, sym, ◌∙◌, arith}
use Rattle.std.proofs.lemmas.List.{drop-replicate, take_min}
use Rattle.std.proofs.lemmas.Grind.{common_steps}
use Rattle.std.specs.Prelude.{min, replicate}

left_over : (n kept : ℕ) → kept ≡ min n 40 → 40 - kept ≡ 40 - n
left_over n kept h = grind (arith, common_steps)

least : (n kept : ℕ) → kept ≡ min n 40 → kept ≡ min 40 n
least n kept h = grind (arith, common_steps)

-- what was copied, and zeros behind it
pub excerpted : (text front : List ℕ) (kept : ℕ) → front ≡ take kept text → kept ≡ min (length text) 40
    → front ++ drop kept (replicate 40 0) ≡ take 40 text ++ replicate (40 - length text) 0
excerpted text front kept e h =
    ap (λ (t : List ℕ). t ++ drop kept (replicate 40 0)) (e ∙ ap (λ n. take n text) (least (length text) kept h) ∙ take_min 40 text)
    ∙ ap (λ (t : List ℕ). take 40 text ++ t) (drop-replicate kept 40 0 ∙ ap (λ n. replicate n 0) (left_over (length text) kept h))
