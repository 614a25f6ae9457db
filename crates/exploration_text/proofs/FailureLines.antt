-- Lines of failures, one put behind the other.
use Rattle.std.proofs.Common.{◌≡◌, ◌≤◌, ◌+◌, ◌-◌, ◌∙◌, ◌++◌, ◌∷◌, [], List, ap, arith, drop, get_or, length, take, ℕ}
use Rattle.std.proofs.lemmas.List.{append_assoc, take_all}
use Rattle.elf_symbols.specs.Named.{Named}
use Rattle.exploration_text.specs.Failures.{failure_line, failure_lines}
use Rattle.explorer.specs.declared.found.FoundFailure.{FoundFailure}

pub one_more : (symbols : List Named) (number : ℕ) (rest : List FoundFailure) (first d : FoundFailure) (old new whole : List ℕ) → 1 ≤ length rest → first ≡ get_or rest 0 d → new ≡ old ++ failure_line symbols number first
    → old ++ failure_lines symbols number rest ≡ whole → new ++ failure_lines symbols (number + 1) (take (length rest - 1) (drop 1 rest)) ≡ whole
one_more symbols number [] first d old new whole some is line told = absurd (omega (arith, some))
one_more symbols number (f ∷ fs) first d old new whole some is line told =
    let behind = failure_lines symbols (number + 1) in
    ap (λ (xs : List ℕ). xs ++ behind (take (length (f ∷ fs) - 1) fs)) (line ∙ ap (λ (x : FoundFailure). old ++ failure_line symbols number x) is)
    ∙ (ap (λ (xs : List FoundFailure). (old ++ failure_line symbols number f) ++ behind xs) (take_all (length (f ∷ fs) - 1) fs (omega arith))
    ∙ (append_assoc old (failure_line symbols number f) (behind fs) ∙ told))
