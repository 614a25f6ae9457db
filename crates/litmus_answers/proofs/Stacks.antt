-- A list whose last element stands above.
use Rattle.std.proofs.Common.{◌≡◌, Bool, false, List, [], ◌∷◌, ◌++◌, length, reverse, refl, sym, ap, ◌∙◌}
use Rattle.std.proofs.lemmas.List.{reverse-append}
use Rattle.litmus_answers.specs.Holding.{top, below}

pub pushed : (old new : List Bool) (b : Bool) → new ≡ old ++ b ∷ [] → reverse new ≡ b ∷ reverse old
pushed old new b h = ap (λ (l : List Bool). reverse l) h ∙ reverse-append old (b ∷ [])

pub taken_top : (old new : List Bool) (b : Bool) → old ≡ new ++ b ∷ [] → b ≡ top (reverse old)
taken_top old new b h = sym (ap (λ (l : List Bool). top l) (pushed new old b h))

pub taken_below : (old new : List Bool) (b : Bool) → old ≡ new ++ b ∷ [] → reverse new ≡ below (reverse old)
taken_below old new b h = sym (ap (λ (l : List Bool). below l) (pushed new old b h))

pub none_top : (old : List Bool) → length old ≡ 0 → false ≡ top (reverse old)
none_top [] h = refl
none_top (b ∷ old) h = absurd (cc h)

pub none_below : (old new : List Bool) → length old ≡ 0 → old ≡ new ++ [] → reverse new ≡ below (reverse old)
none_below [] [] h k = refl
none_below [] (b ∷ new) h k = absurd (cc k)
none_below (b ∷ old) new h k = absurd (cc h)
