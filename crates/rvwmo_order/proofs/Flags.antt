-- Flags, one for each of x0 to x31: how many there are, and where none is set.
use Rattle.std.proofs.Common.{◌≡◌, ℕ, List, [], ◌∷◌, Bool, true, false, refl, ◌∙◌, ⊎_elim, arith, length, get_or, set, replicate}
use Rattle.std.proofs.lemmas.Bool.{cases_lt}
use Rattle.std.proofs.lemmas.List.{get_or-replicate, get_or_past, length-set, length-replicate}
use Rattle.hart.specs.Uses.{Uses}
use Rattle.memory_model.specs.Dependencies.{held_first, with_flags}

pub length-with_flags : (held : List Bool) (flag : Bool) (written : List ℕ) → length (with_flags held flag written) ≡ length held
length-with_flags held flag [] = refl
length-with_flags held flag (w ∷ rest) = length-with_flags (set held w flag) flag rest ∙ length-set held w flag

pub length-held_first : (u : Uses) → length (held_first u) ≡ 32
length-held_first u = length-with_flags (replicate 32 false) true u.written ∙ length-replicate 32 false

pub no_flag : (r : ℕ) → get_or (replicate 32 false) r false ≡ false
no_flag r = ⊎_elim (λ l. get_or-replicate 32 r false false l) (λ l. get_or_past (replicate 32 false) r false (let k = length-replicate 32 false in omega (arith, k, l))) (cases_lt r 32)
