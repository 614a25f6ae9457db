-- The instructions of a hart between two places of its list.
use Rattle.std.proofs.Common.{◌≡◌, ℕ, zero, suc, ◌+◌, ◌<◌, ◌≤◌, List, [], ◌∷◌, ◌++◌, Bool, true, false, Some, refl, sym, ap, ◌∙◌, ◌&&◌, ⊎_elim, arith, subst}
use Rattle.std.specs.Prelude.{filter, nat_lt, slice_get}
use Rattle.std.specs.List.{AllByRecursion as Each}
use Rattle.std.proofs.lemmas.Bool.{and_from, and_right, cases_lt, le-ltb, lt-ltb}
use Rattle.std.proofs.lemmas.List.{append-nil}
use Rattle.std.proofs.lemmas.List.Elements.{filter-append}
use Rattle.std.proofs.lemmas.Option.{none-some, same_Some}
use Rattle.memory_model.specs.Items.{Item}
use Rattle.memory_model.proofs.Lists.{Each-weaker, filter_none, filter_same}
use Rattle.trace_operations.specs.Placed.{IsPlaced}

abbrev pub is_inside : (low high : ℕ) → Item → Bool
is_inside low high m = nat_lt low m.place && nat_lt m.place high

-- those behind the instruction at one place and before that at another
abbrev pub stretch : List Item → (low high : ℕ) → List Item
stretch items low high = filter (is_inside low high) items

-- ---- an instruction parts its list

record Parts (items : List Item) (place mid : ℕ) (m : Item) : Type 0 where
  front : List Item
  back : List Item
  whole : items ≡ front ++ m ∷ back
  at_mid : m.place ≡ mid
  before : Each (λ (x : Item). x.place < mid) front
  behind : Each (λ (x : Item). mid < x.place) back

places_behind : (place : ℕ) (items : List Item) → IsPlaced (place + 1) items → Each (λ (x : Item). place < x.place) items
places_behind place [] h = tt
places_behind place (x ∷ rest) h =
    let e = h.0 in (omega arith, Each-weaker (λ (y : Item). place + 1 < y.place) (λ (y : Item). place < y.place) (λ y l. omega arith) rest (places_behind (place + 1) rest h.1))

parts : (items : List Item) (place k : ℕ) (m : Item) → IsPlaced place items → slice_get items k ≡ Some m → Parts items place (place + k) m
parts [] place k m h e = absurd (none-some m e)
parts (x ∷ rest) place zero m h e =
    let same = same_Some x m e in
    let there : place + zero ≡ place = omega arith in
    record {
      front = [];
      back = rest;
      whole = ap (λ y. y ∷ rest) same;
      at_mid = ap (λ (y : Item). y.place) (sym same) ∙ h.0 ∙ sym there;
      before = tt;
      behind = subst (λ n. Each (λ (y : Item). n < y.place) rest) (sym there) (places_behind place rest h.1);
    }
parts (x ∷ rest) place (suc k) m h e =
    let p = parts rest (place + 1) k m h.1 e in
    let there : place + 1 + k ≡ place + suc k = omega arith in
    let first = h.0 in
    record {
      front = x ∷ p.front;
      back = p.back;
      whole = ap (λ ys. x ∷ ys) p.whole;
      at_mid = p.at_mid ∙ there;
      before = (omega arith, subst (λ n. Each (λ (y : Item). y.place < n) p.front) there p.before);
      behind = subst (λ n. Each (λ (y : Item). n < y.place) p.back) there p.behind;
    }

-- ---- what is inside

inside_mid : (low mid high : ℕ) (m : Item) → m.place ≡ mid → low < mid → mid < high → is_inside low high m ≡ true
inside_mid low mid high m e l k = and_from (nat_lt low m.place) (nat_lt m.place high) (lt-ltb low m.place (omega (arith, e, l))) (lt-ltb m.place high (omega (arith, e, k)))

front_same : (low mid high : ℕ) (x : Item) → mid < high → x.place < mid → is_inside low high x ≡ is_inside low mid x
front_same low mid high x l k = ap (λ b. nat_lt low x.place && b) (lt-ltb x.place high (omega (arith, l, k)) ∙ sym (lt-ltb x.place mid k))

back_same : (low mid high : ℕ) (x : Item) → low < mid → mid < x.place → is_inside low high x ≡ is_inside mid high x
back_same low mid high x l k = ap (λ b. b && nat_lt x.place high) (lt-ltb low x.place (omega (arith, l, k)) ∙ sym (lt-ltb mid x.place k))

outside_high : (low high : ℕ) (x : Item) → high ≤ x.place → is_inside low high x ≡ false
outside_high low high x l = and_right (nat_lt low x.place) (nat_lt x.place high) (le-ltb x.place high l)

outside_low : (low high : ℕ) (x : Item) → x.place ≤ low → is_inside low high x ≡ false
outside_low low high x l = ap (λ b. b && nat_lt x.place high) (le-ltb low x.place l)

drop_head : (low high : ℕ) (m : Item) (rest : List Item) → is_inside low high m ≡ false → stretch (m ∷ rest) low high ≡ stretch rest low high
drop_head low high m rest e = rw e refl

keep_head : (low high : ℕ) (m : Item) (rest : List Item) → is_inside low high m ≡ true → stretch (m ∷ rest) low high ≡ m ∷ stretch rest low high
keep_head low high m rest e = rw e refl

-- up to the instruction in between
stretch_front : (items : List Item) (low mid : ℕ) (m : Item) → (p : Parts items 0 mid m) → stretch items low mid ≡ stretch p.front low mid
stretch_front items low mid m p =
    ap (λ ys. stretch ys low mid) p.whole
    ∙ filter-append (is_inside low mid) p.front (m ∷ p.back)
    ∙ ap (λ ys. stretch p.front low mid ++ ys) (filter_none (is_inside low mid) (m ∷ p.back) (outside_high low mid m (let e = p.at_mid in omega arith), Each-weaker (λ (x : Item). mid < x.place) (λ x. is_inside low mid x ≡ false) (λ x l. outside_high low mid x (omega arith)) p.back p.behind))
    ∙ append-nil (stretch p.front low mid)

-- behind it
stretch_back : (items : List Item) (mid high : ℕ) (m : Item) → (p : Parts items 0 mid m) → stretch items mid high ≡ stretch p.back mid high
stretch_back items mid high m p =
    ap (λ ys. stretch ys mid high) p.whole
    ∙ filter-append (is_inside mid high) p.front (m ∷ p.back)
    ∙ ap (λ ys. ys ++ stretch (m ∷ p.back) mid high) (filter_none (is_inside mid high) p.front (Each-weaker (λ (x : Item). x.place < mid) (λ x. is_inside mid high x ≡ false) (λ x l. outside_low mid high x (omega arith)) p.front p.before))
    ∙ drop_head mid high m p.back (outside_low mid high m (let e = p.at_mid in omega arith))

split_with : (items : List Item) (low mid high : ℕ) (m : Item) → low < mid → mid < high → (p : Parts items 0 mid m) → stretch items low high ≡ stretch items low mid ++ m ∷ stretch items mid high
split_with items low mid high m l k p =
    ap (λ ys. stretch ys low high) p.whole
    ∙ filter-append (is_inside low high) p.front (m ∷ p.back)
    ∙ ap (λ ys. ys ++ stretch (m ∷ p.back) low high) (filter_same (is_inside low high) (is_inside low mid) p.front (Each-weaker (λ (x : Item). x.place < mid) (λ x. is_inside low high x ≡ is_inside low mid x) (λ x h. front_same low mid high x k h) p.front p.before) ∙ sym (stretch_front items low mid m p))
    ∙ ap (λ ys. stretch items low mid ++ ys)
    (keep_head low high m p.back (inside_mid low mid high m p.at_mid l k)
    ∙ ap (λ ys. m ∷ ys) (filter_same (is_inside low high) (is_inside mid high) p.back (Each-weaker (λ (x : Item). mid < x.place) (λ x. is_inside low high x ≡ is_inside mid high x) (λ x h. back_same low mid high x l h) p.back p.behind) ∙ sym (stretch_back items mid high m p)))

parts_at : (items : List Item) (mid : ℕ) (m : Item) → IsPlaced 0 items → slice_get items mid ≡ Some m → Parts items 0 mid m
parts_at items mid m h e = let zero_less : 0 + mid ≡ mid = omega arith in subst (λ n. Parts items 0 n m) zero_less (parts items 0 mid m h e)

-- an instruction between parts a stretch
pub stretch_split : (items : List Item) (low mid high : ℕ) (m : Item) → IsPlaced 0 items → slice_get items mid ≡ Some m → low < mid → mid < high → stretch items low high ≡ stretch items low mid ++ m ∷ stretch items mid high
stretch_split items low mid high m h e l k = split_with items low mid high m l k (parts_at items mid m h e)

-- nothing is between two neighbours
pub stretch_none : (items : List Item) (low : ℕ) → stretch items low (low + 1) ≡ []
stretch_none [] low = refl
stretch_none (x ∷ rest) low = drop_head low (low + 1) x rest (⊎_elim (λ l. outside_high low (low + 1) x (omega (arith, l))) (λ l. outside_low low (low + 1) x l) (cases_lt low x.place)) ∙ stretch_none rest low

-- one instruction more
pub stretch_next : (items : List Item) (low mid : ℕ) (m : Item) → IsPlaced 0 items → slice_get items mid ≡ Some m → low < mid → stretch items low (mid + 1) ≡ stretch items low mid ++ m ∷ []
stretch_next items low mid m h e l = stretch_split items low mid (mid + 1) m h e l (omega arith) ∙ ap (λ ys. stretch items low mid ++ m ∷ ys) (stretch_none items mid)
