-- An operation that is no SC is in no pair.
use Rattle.std.proofs.Common.{◌≡◌, find, List, [], ◌∷◌, Bool, true, false, Some, None, refl, cond, sym, ap, ◌∙◌, ◌&&◌, not}
use Rattle.std.specs.List.{list_any}
use Rattle.std.proofs.lemmas.Bool.{true≢false}
use Rattle.memory_model.specs.declared.operation.Operation.{Operation}
use Rattle.memory_model.specs.Items.{Item}
use Rattle.memory_model.specs.Dependencies.{between}
use Rattle.memory_model.specs.Legal.{is_atomic}
use Rattle.memory_model.specs.Rules.{is_lr_or_sc, items_of}
use Rattle.memory_model.specs.Operations.{is_sc, is_lr, precedes}
use Rattle.rvwmo_order.specs.Scans.{is_broken_pair}

find_none : (p : Operation → Bool) → ((a : Operation) → p a ≡ false) → (xs : List Operation) → None ≡ find p xs
find_none p f [] = refl
find_none p f (a ∷ rest) = find_none p f rest ∙ ap (λ (c : Bool). cond c (Some a) (find p rest)) (sym (f a))

pub no_pair_without_sc : (harts : List (List Item)) (order : List Operation) (w : Operation) → is_sc w.kind ≡ false → None ≡ find (λ r. is_broken_pair harts order r w) order
no_pair_without_sc harts order w e = find_none (λ r. is_broken_pair harts order r w) (λ a. go (precedes a w) (is_lr a.kind) (is_sc w.kind) (not (list_any (λ (m : Item). is_lr_or_sc m.instr) (between (items_of harts a.hart) a w))) (not (is_atomic order a w)) e) order
  where
    go : (p r c n a : Bool) → c ≡ false → ((p && r && c && n) && a) ≡ false
    go true true true n a e = absurd (true≢false e)
    go true true false n a e = refl
    go true false c n a e = refl
    go false r c n a e = refl
