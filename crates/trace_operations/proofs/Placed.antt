-- The instructions between two operations are a part of their hart's list.
use Rattle.std.proofs.Common.{◌≡◌, ℕ, zero, suc, ◌+◌, ◌-◌, ◌<◌, ◌≤◌, List, [], ◌∷◌, ◌++◌, Bool, true, false, refl, sym, ap, ◌∙◌, ◌&&◌, ⊎_elim, arith, drop, take, length, get_or}
use Rattle.std.specs.Prelude.{filter, nat_lt}
use Rattle.std.proofs.lemmas.List.{append_assoc, at_drop_more}
use Rattle.std.proofs.lemmas.Bool.{and_from, and_right, cases_lt, le-ltb, lt-ltb}
use Rattle.hart.specs.declared.retired.Retired.{Retired}
use Rattle.hart.specs.declared.state.Hart.{Hart}
use Rattle.hart.specs.Run.{at_reset, reset_at}
use Rattle.hart.specs.Image.{Initial}
use Rattle.memory_model.specs.declared.operation.Operation.{Operation}
use Rattle.memory_model.specs.Dependencies.{between}
use Rattle.memory_model.specs.Items.{Item, items_from, items_of_harts}
use Rattle.trace_operations.specs.Placed.{IsPlaced}

abbrev is_inside : ℕ → ℕ → Item → Bool
is_inside low high m = nat_lt low m.place && nat_lt m.place high

excluded : (low high : ℕ) (m : Item) (rest : List Item) → is_inside low high m ≡ false → filter (is_inside low high) (m ∷ rest) ≡ filter (is_inside low high) rest
excluded low high m rest e = rw e refl

included : (low high : ℕ) (m : Item) (rest : List Item) → is_inside low high m ≡ true → filter (is_inside low high) (m ∷ rest) ≡ m ∷ filter (is_inside low high) rest
included low high m rest e = rw e refl

abbrev nothing : List Item
nothing = []

empty : (m n : ℕ) → nothing ≡ take m (drop n nothing)
empty zero zero = refl
empty zero (suc n) = refl
empty (suc m) zero = refl
empty (suc m) (suc n) = refl

-- at a place up to the low end, behind it and below the high end, and from there on
cut_before : (place low high : ℕ) (m : Item) (rest : List Item) → m.place ≡ place → place ≤ low → filter (is_inside low high) rest ≡ take (high - (place + 1) - (low + 1 - (place + 1))) (drop (low + 1 - (place + 1)) rest)
    → filter (is_inside low high) (m ∷ rest) ≡ take (high - place - (low + 1 - place)) (drop (low + 1 - place) (m ∷ rest))
cut_before place low high m rest e l ih =
    let out : is_inside low high m ≡ false = ap (λ (b : Bool). b && nat_lt m.place high) (le-ltb low m.place (omega (arith, e, l))) in
    let count : high - place - (low + 1 - place) ≡ high - (place + 1) - (low + 1 - (place + 1)) = omega (arith, l) in
    let skipped : low + 1 - place ≡ suc (low + 1 - (place + 1)) = omega (arith, l) in
    excluded low high m rest out ∙ (ih ∙ rw (count, skipped) refl)

cut_within : (place low high : ℕ) (m : Item) (rest : List Item) → m.place ≡ place → low < place → place < high → filter (is_inside low high) rest ≡ take (high - (place + 1) - (low + 1 - (place + 1))) (drop (low + 1 - (place + 1)) rest)
    → filter (is_inside low high) (m ∷ rest) ≡ take (high - place - (low + 1 - place)) (drop (low + 1 - place) (m ∷ rest))
cut_within place low high m rest e l k ih =
    let there : is_inside low high m ≡ true = and_from _ _ (lt-ltb low m.place (omega (arith, e, l))) (lt-ltb m.place high (omega (arith, e, k))) in
    let count_next : high - (place + 1) - (low + 1 - (place + 1)) ≡ high - (place + 1) = omega (arith, l) in
    let none_next : low + 1 - (place + 1) ≡ 0 = omega (arith, l) in
    let next : filter (is_inside low high) rest ≡ take (high - (place + 1)) rest = ih ∙ rw (count_next, none_next) refl in
    let count : high - place - (low + 1 - place) ≡ suc (high - (place + 1)) = omega (arith, l, k) in
    let none : low + 1 - place ≡ 0 = omega (arith, l) in
    included low high m rest there ∙ (ap (λ (ys : List Item). m ∷ ys) next ∙ rw (count, none) refl)

cut_behind : (place low high : ℕ) (m : Item) (rest : List Item) → m.place ≡ place → low < place → high ≤ place → filter (is_inside low high) rest ≡ take (high - (place + 1) - (low + 1 - (place + 1))) (drop (low + 1 - (place + 1)) rest)
    → filter (is_inside low high) (m ∷ rest) ≡ take (high - place - (low + 1 - place)) (drop (low + 1 - place) (m ∷ rest))
cut_behind place low high m rest e l k ih =
    let out : is_inside low high m ≡ false = ap (λ (b : Bool). nat_lt low m.place && b) (le-ltb m.place high (omega (arith, e, k))) ∙ and_right (nat_lt low m.place) false refl in
    let none : high - place - (low + 1 - place) ≡ 0 = omega (arith, k) in
    let none_next : high - (place + 1) - (low + 1 - (place + 1)) ≡ 0 = omega (arith, k) in
    excluded low high m rest out ∙ (ih ∙ rw (none, none_next) refl)

cut_from : (place low high : ℕ) (items : List Item) → IsPlaced place items → filter (is_inside low high) items ≡ take (high - place - (low + 1 - place)) (drop (low + 1 - place) items)
cut_from place low high [] h = empty (high - place - (low + 1 - place)) (low + 1 - place)
cut_from place low high (m ∷ rest) h = go (cut_from (place + 1) low high rest h.1)
  where
    go : filter (is_inside low high) rest ≡ take (high - (place + 1) - (low + 1 - (place + 1))) (drop (low + 1 - (place + 1)) rest) → filter (is_inside low high) (m ∷ rest) ≡ take (high - place - (low + 1 - place)) (drop (low + 1 - place) (m ∷ rest))
    go ih = ⊎_elim (λ l. ⊎_elim (λ k. cut_within place low high m rest h.0 l k ih) (λ k. cut_behind place low high m rest h.0 l k ih) (cases_lt place high)) (λ l. cut_before place low high m rest h.0 l ih) (cases_lt low place)

pub between_cut : (items : List Item) (a b : Operation) → IsPlaced 0 items → take (b.place - (a.place + 1)) (drop (a.place + 1) items) ≡ between items a b
between_cut items a b h =
    let count : b.place - 0 - (a.place + 1 - 0) ≡ b.place - (a.place + 1) = omega arith in
    let skipped : a.place + 1 - 0 ≡ a.place + 1 = omega arith in
    let cut : filter (is_inside a.place b.place) items ≡ take (b.place - (a.place + 1)) (drop (a.place + 1) items) = cut_from 0 a.place b.place items h ∙ rw (count, skipped) refl in
    sym cut

-- ---- each hart's instructions

hart_is : (i j : Initial) (id n m entry : ℕ) (reset : Hart) (given es : List Retired) → j ≡ i → reset ≡ reset_at entry id n → entry ≡ j.entry → n ≡ m → given ≡ es → items_from 0 reset given ≡ items_from 0 (at_reset i id m) es
hart_is i j id n m entry reset given es a b c d e = rw (b, c, a, d, e) refl

pub hart_pushed : (i j : Initial) (id n entry : ℕ) (reset : Hart) (given : List Retired) (lists : List (List Retired)) (before pushed : List (List Item)) (items : List Item) → id < length lists
    → j ≡ i → reset ≡ reset_at entry id n → entry ≡ j.entry → n ≡ length lists → given ≡ get_or lists id [] → items ≡ items_from 0 reset given → pushed ≡ before ++ items ∷ []
    → items_of_harts i (length lists) 0 lists ≡ before ++ items_of_harts i (length lists) id (drop id lists)
    → items_of_harts i (length lists) 0 lists ≡ pushed ++ items_of_harts i (length lists) (id + 1) (drop (id + 1) lists)
hart_pushed i j id n entry reset given lists before pushed items h a b c d e f g k =
    let own : items ≡ items_from 0 (at_reset i id (length lists)) (get_or lists id []) = f ∙ hart_is i j id n (length lists) entry reset given (get_or lists id []) a b c d e in
    let step : items_of_harts i (length lists) id (drop id lists) ≡ items ∷ items_of_harts i (length lists) (id + 1) (drop (id + 1) lists) = at_drop_more (items_of_harts i (length lists) id) lists id [] h ∙ ap (λ (x : List Item). x ∷ items_of_harts i (length lists) (id + 1) (drop (id + 1) lists)) (sym own) in
    k ∙ (ap (λ (rest : List (List Item)). before ++ rest) step ∙ (sym (append_assoc before (items ∷ []) (items_of_harts i (length lists) (id + 1) (drop (id + 1) lists))) ∙ ap (λ (front : List (List Item)). front ++ items_of_harts i (length lists) (id + 1) (drop (id + 1) lists)) (sym g)))
