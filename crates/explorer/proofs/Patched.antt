-- Patches over bytes, the last one laid first.
use Rattle.std.proofs.Common.{◌≡◌, ◌∙◌, ◌+◌, ◌-◌, ◌<◌, ◌≤◌, ℕ, List, [], ◌∷◌, ◌++◌, refl, sym, ap, arith, get_or, length, take}
use Rattle.std.specs.Prelude.{slice_set}
use Rattle.std.proofs.lemmas.List.{take_more}
use Rattle.flat_machine.specs.declared.memory.Patch.{Patch}
use Rattle.flat_machine.specs.Memory.{patched}

patched_last : (bytes : List ℕ) (front : List Patch) (last : Patch) → patched bytes (front ++ last ∷ []) ≡ patched (slice_set bytes last.place last.byte) front
patched_last bytes [] last = refl
patched_last bytes (p ∷ ps) last = ap (λ (b : List ℕ). slice_set b p.place p.byte) (patched_last bytes ps last)

pub patched_back : (over new : List ℕ) (ps : List Patch) (i : ℕ) (d : Patch) → 0 < i → i ≤ length ps → new ≡ slice_set over (get_or ps (i - 1) d).place (get_or ps (i - 1) d).byte → patched new (take (i - 1) ps) ≡ patched over (take i ps)
patched_back over new ps i d some inside is =
    let e : i - 1 + 1 ≡ i = omega (arith, some) in
    ap (λ (b : List ℕ). patched b (take (i - 1) ps)) is
    ∙ (sym (patched_last over (take (i - 1) ps) (get_or ps (i - 1) d)) ∙ ap (patched over) (sym (take_more ps (i - 1) d (omega (arith, some, inside))) ∙ ap (λ (n : ℕ). take n ps) e))
