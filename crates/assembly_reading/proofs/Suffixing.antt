-- A word that is split at the first of the bits aq and rl.
use Rattle.std.proofs.Common.{◌≡◌, ℕ, ◌+◌, ◌-◌, ◌<◌, Bool, true, false, cond, List, [], ◌∷◌, ◌++◌, length, get_or, take, drop, refl, sym, ap, ◌∙◌, append_assoc, arith}
use Rattle.std.proofs.lemmas.List.{drop_more, length-drop, take_all, take_more}
use Rattle.assembly_reading.specs.Suffixes.{base, suffix, is_suffix}

base_on : (test : Bool) (b : ℕ) (l : List ℕ) → test ≡ false → cond test [] (b ∷ l) ≡ b ∷ l
base_on true b l e = absurd cc
base_on false b l e = refl

suffix_on : (test : Bool) (l m : List ℕ) → test ≡ false → cond test l m ≡ m
suffix_on true l m e = absurd cc
suffix_on false l m e = refl

-- one byte more, at which no bits begin
pub split_more : (w : List ℕ) (i : ℕ) (test : Bool) → i < length w → test ≡ is_suffix (take (length w - i) (drop i w)) → test ≡ false → base w ≡ take i w ++ base (drop i w) → suffix w ≡ suffix (drop i w) → (base w ≡ take (i + 1) w ++ base (drop (i + 1) w)) × (suffix w ≡ suffix (drop (i + 1) w))
split_more w i test lt is off front behind =
    let b : ℕ = get_or w i 0 in
    let later : List ℕ = drop (i + 1) w in
    let here : drop i w ≡ b ∷ later = drop_more w i 0 lt in
    let whole : take (length w - i) (drop i w) ≡ drop i w = take_all (length w - i) (drop i w) (omega (arith, length-drop i w)) in
    let none : is_suffix (b ∷ later) ≡ false = sym (ap is_suffix (whole ∙ here)) ∙ (sym is ∙ off) in (
      front
          ∙ ap (λ (l : List ℕ). take i w ++ base l) here
          ∙ ap (λ (l : List ℕ). take i w ++ l) (base_on (is_suffix (b ∷ later)) b (base later) none)
          ∙ sym (append_assoc (take i w) (b ∷ []) (base later))
          ∙ ap (λ (l : List ℕ). l ++ base later) (sym (take_more w i 0 lt)),
      behind ∙ ap suffix here ∙ suffix_on (is_suffix (b ∷ later)) (b ∷ later) (suffix later) none,
    )
