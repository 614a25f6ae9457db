-- Lines of harts that stop, one put behind the other.
use Rattle.std.proofs.Common.{◌≡◌, ◌≤◌, ◌+◌, ◌-◌, ◌∙◌, ◌++◌, ◌∷◌, [], List, ap, arith, drop, get_or, length, take, ℕ}
use Rattle.std.proofs.lemmas.List.{append_assoc, take_all}
use Rattle.architecture_outcomes.specs.declared.failing.Failing.{Failing}
use Rattle.architecture_outcomes.specs.Text.{stop_line, stop_lines}
use Rattle.elf_symbols.specs.Named.{Named}
use Rattle.machine_types.specs.declared.model.MemoryModel.{MemoryModel}

pub one_more : (model : MemoryModel) (symbols : List Named) (number : ℕ) (rest : List Failing) (first d : Failing) (old new whole : List ℕ) → 1 ≤ length rest → first ≡ get_or rest 0 d → new ≡ old ++ stop_line model symbols number first
    → old ++ stop_lines model symbols number rest ≡ whole → new ++ stop_lines model symbols (number + 1) (take (length rest - 1) (drop 1 rest)) ≡ whole
one_more model symbols number [] first d old new whole some is line told = absurd (omega (arith, some))
one_more model symbols number (f ∷ fs) first d old new whole some is line told =
    let behind = stop_lines model symbols (number + 1) in
    ap (λ (xs : List ℕ). xs ++ behind (take (length (f ∷ fs) - 1) fs)) (line ∙ ap (λ (x : Failing). old ++ stop_line model symbols number x) is)
    ∙ (ap (λ (xs : List Failing). (old ++ stop_line model symbols number f) ++ behind xs) (take_all (length (f ∷ fs) - 1) fs (omega arith))
    ∙ (append_assoc old (stop_line model symbols number f) (behind fs) ∙ told))
