-- What is taken one by one from a list's end stands the other way round in the list that is made of it.
use Rattle.std.proofs.Common.{◌≡◌, ◌∙◌, ap, sym, List, [], ◌∷◌, ◌++◌, map, reverse, Option, Some, option_to_list}
use Rattle.std.proofs.lemmas.List.{append_assoc, map-id, map_push, reverse-append}

module _ {X Y V : Type 0} (f : X → V) (g : Y → V) where
  pub dealt : (from rest : List X) (taken : Option X) (one : X) (made more : List Y) (other : Y) (all : List V) → from ≡ rest ++ option_to_list taken → taken ≡ Some one
      → more ≡ made ++ other ∷ [] → g other ≡ f one → map f from ++ reverse (map g made) ≡ all → map f rest ++ reverse (map g more) ≡ all
  dealt from rest taken one made more other all popped is pushed same was =
      let left : map f from ≡ map f rest ++ f one ∷ [] = ap (map f) (popped ∙ ap (λ t. rest ++ option_to_list t) is) ∙ map_push f rest one in
      let turned : reverse (map g more) ≡ f one ∷ reverse (map g made) =
      ap (λ l. reverse (map g l)) pushed ∙ ap reverse (map_push g made other) ∙ reverse-append (map g made) (g other ∷ []) ∙ ap (λ v. v ∷ reverse (map g made)) same in
      ap (λ l. map f rest ++ l) turned ∙ sym (append_assoc (map f rest) (f one ∷ []) (reverse (map g made))) ∙ ap (λ l. l ++ reverse (map g made)) (sym left) ∙ was

-- the same of the elements themselves
pub dealt_out : {X Y : Type 0} (g : Y → X) (from rest : List X) (taken : Option X) (one : X) (made more : List Y) (other : Y) (all : List X) → from ≡ rest ++ option_to_list taken
    → taken ≡ Some one → more ≡ made ++ other ∷ [] → g other ≡ one → from ++ reverse (map g made) ≡ all → rest ++ reverse (map g more) ≡ all
dealt_out g from rest taken one made more other all popped is pushed same was =
    ap (λ l. l ++ reverse (map g more)) (sym (map-id rest)) ∙ dealt (λ x. x) g from rest taken one made more other all popped is pushed same (ap (λ l. l ++ reverse (map g made)) (map-id from) ∙ was)
