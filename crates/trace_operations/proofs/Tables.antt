-- Numbers of names: an empty list more, and what a number says of a place.
use Rattle.std.proofs.Common.{◌≡◌, ℕ, zero, suc, ◌+◌, ◌-◌, ◌<◌, ◌≤◌, List, [], ◌∷◌, ◌++◌, Bool, true, false, Option, Some, None, refl, cond, sym, ap, ◌∙◌, ⊎_elim, arith, get_or, length}
use Rattle.std.specs.Prelude.{is_some, slice_index_or}
use Rattle.std.specs.Option.{option_map_or}
use Rattle.std.proofs.lemmas.Bool.{cases_lt, ne_eqb}
use Rattle.std.proofs.lemmas.Option.{slice_get-get_or, slice_get_past}
use Rattle.trace_operations.specs.Indexed.{known, number_at}
use Rattle.trace_operations.specs.declared.places.Numbers.{Numbers}

more : (lists : List Numbers) (l : Numbers) (h place : ℕ) → ((k : ℕ) → slice_index_or l.numbers.items k 0 ≡ 0) → number_at h place (lists ++ l ∷ []) ≡ number_at h place lists
more [] l zero place none = none place
more [] l (suc h) place none = refl
more (y ∷ ys) l zero place none = refl
more (y ∷ ys) l (suc h) place none = more ys l h place none

pub list_more : (lists new : List Numbers) (l : Numbers) (h place : ℕ) → new ≡ lists ++ l ∷ [] → ((k : ℕ) → slice_index_or l.numbers.items k 0 ≡ 0) → number_at h place new ≡ number_at h place lists
list_more lists new l h place e none = ap (number_at h place) e ∙ more lists l h place none

known_number : (n : ℕ) → (n ≡ 0 → ⊥) → known n ≡ Some (n - 1)
known_number n some = ap (λ (b : Bool). cond b None (Some (n - 1))) (ne_eqb n 0 some)

pub known_there : (n : ℕ) → 0 < n → is_some (known n) ≡ true
known_there n some = ap is_some (known_number n (λ e. omega (arith, e, some)))

pub known_missing : (n : ℕ) → n ≤ 0 → is_some (known n) ≡ false
known_missing n none = let z : n ≡ 0 = omega (arith, none) in ap (λ (m : ℕ). is_some (known m)) z

pub known_put : (c : Bool) (position old new : ℕ) → new ≡ cond c (position + 1) old → known new ≡ cond c (Some position) (known old)
known_put true position old new e = ap known e ∙ (known_number (position + 1) (λ z. omega (arith, z)) ∙ ap Some (omega arith))
known_put false position old new e = ap known e

pub number_listed : (lists : List Numbers) (hart place : ℕ) (l : Numbers) → hart < length lists → l ≡ get_or lists hart l → slice_index_or l.numbers.items place 0 ≡ number_at hart place lists
number_listed lists hart place l h e = ap (λ (o : Option Numbers). option_map_or (λ (m : Numbers). slice_index_or m.numbers.items place 0) o 0) (ap Some e ∙ sym (slice_get-get_or lists hart l h))

pub hart_listed : (lists : List Numbers) (hart place : ℕ) → 0 < number_at hart place lists → hart < length lists
hart_listed lists hart place some = ⊎_elim (λ l. l) (λ l. past l) (cases_lt hart (length lists))
  where
    past : length lists ≤ hart → hart < length lists
    past l = let none = ap (λ (o : Option Numbers). option_map_or (λ (m : Numbers). slice_index_or m.numbers.items place 0) o 0) (slice_get_past lists hart l) in absurd (omega (arith, some, none))
