-- Each act keeps what is kept of pairs and reservations.
use Rattle.std.proofs.Common.{◌≡◌, ◌≢◌, ℕ, ◌<◌, ◌≤◌, List, [], ◌∷◌, ◌++◌, true, false, Option, Some, None, sym, ap, ◌∙◌, subst, append-nil, arith, length, length-append, ◌+◌, ◌⊎◌, inl, inr}
use Rattle.std.specs.Prelude.{nat_eq, option_and_then}
use Rattle.std.specs.List.{AllByRecursion as Each, list_any}
use Rattle.std.proofs.lemmas.Bool.{false≢true, true≢false, and_left, and_right, and_parts, or_left, eq-eqb, false_from_ne_true}
use Rattle.machine_model.specs.Words.{word_of}
use Rattle.machine_model.proofs.atomicity.Deeds.{Ends, IsNewest, IsReserving, Plain, Takes}
use Rattle.machine_model.proofs.atomicity.Kept.{AreLater, Atomic, Grows, IsClear, IsMarked, IsPair, IsStill, Reserves, clear_more, grown, pair_parts, pairs_now, reserves_more, theirs_later}
use Rattle.machine_model.proofs.Parts.{IsLess}
use Rattle.machine_model.proofs.atomicity.Order.{free_now, harmless}
use Rattle.machine_model.proofs.order.Kept.{IsBelow, IsWaiting, get_new, joined, of_word}
use Rattle.machine_model.proofs.order.Lists.{Each-always}
use Rattle.machine_model.proofs.order.Rules.{precedes_not, touches_word}
use Rattle.machine_model.proofs.order.Split.{gave_at, new_name}
use Rattle.machine_model.proofs.order.Steps.{HartKept, has_is}
use Rattle.machine_model.proofs.order.Values.{members, theirs, waits}
use Rattle.machine_types.specs.declared.model.MemoryModel.{MemoryModel}
use Rattle.memory_model.specs.declared.operation.Operation.{Operation}
use Rattle.memory_model.specs.Items.{Item}
use Rattle.memory_model.specs.Operations.{is_sc, is_lr, precedes, same, stores_to, touches, writes}
use Rattle.memory_model.specs.Rules.{is_lr_or_sc}
use Rattle.memory_model.proofs.Forms.{same-swap}
use Rattle.memory_model.proofs.Lists.{Each-append, Each-both, Each-right, Each-weaker}
use Rattle.memory_model.proofs.Named.{EachOnce, each_not}
use Rattle.store_buffer.specs.Groups.{Groups, has}
use Rattle.trace_recorder.specs.declared.operation.OpId.{OpId}

-- ---- another hart's operations are performed

-- none of them writes this word
abbrev pub SparesWord : ℕ → ℕ → List Operation → Type 0
SparesWord k word out = Each (λ t. (x : ℕ) → word_of x ≡ word → harmless k x t ≡ true) out

foreign_grows : (h k : ℕ) (items : List Item) (performed out : List Operation) → k ≢ h → Each (IsBelow k (length items)) performed → Each (λ a. a.hart ≡ h) out → Grows k items [] performed out
foreign_grows h k items performed out d below own = record {
  below = below;
  later = record { marked = tt; later = tt };
  still = λ r b c. record { still = λ mine reads x t. Each-weaker (λ a. a.hart ≡ h) (λ a. theirs r x a ≡ false) (λ a e. and_right (stores_to x a) _ (precedes_not a r (λ f. absurd (d (sym mine ∙ (f ∙ e)))))) out own };
  late = Each-weaker (λ a. a.hart ≡ h) (λ a. a.hart ≡ k → is_lr a.kind ≡ true → length items ≤ a.place) (λ a e mine. absurd (d (sym mine ∙ e))) out own;
  new_clear = Each-weaker (λ a. a.hart ≡ h) (IsClear k (items ++ []) (performed ++ out)) (λ a e. record { clear = λ mine. absurd (d (sym mine ∙ e)) }) out own;
  new_pairs = Each-weaker (λ a. a.hart ≡ h) (λ w. Each (λ r. IsPair k (items ++ []) (performed ++ out) r w) (performed ++ out))
      (λ w e. Each-always (λ r. IsPair k (items ++ []) (performed ++ out) r w) (λ r. record { atomic = λ mine p. absurd (d (sym mine ∙ ((pair_parts (items ++ []) r w p).hart ∙ e))) }) (performed ++ out)) out own;
}

pub foreign_atomic : (h k : ℕ) (items : List Item) (old next : Option ℕ) (performed out : List Operation) → k ≢ h → Each (IsBelow k (length items)) performed → Each (λ a. a.hart ≡ h) out → IsLess next old → ((word : ℕ) → old ≡ Some word → SparesWord k word out) → Atomic k items old performed → Atomic k items next (performed ++ out)
foreign_atomic h k items old next performed out d below own less spares a =
    let g = foreign_grows h k items performed out d below own in
    subst (λ is. Atomic k is next (performed ++ out)) (append-nil items)
    (grown k items [] old next performed out g (λ word e. let f = less word e in reserves_more k word items [] performed out g.later tt g.still (spares word f) (a.reserves word f)) a)

-- ---- own operations that are of no pair

-- of no pair
abbrev pub IsOutside : Operation → Type 0
IsOutside a = (is_lr a.kind ≡ false) × (is_sc a.kind ≡ false)

abbrev Stays : ℕ → List Item → List Operation → List Operation → Type 0
Stays h items performed out = (r : Operation) → IsBelow h (length items) r → IsClear h items performed r → IsStill h out r

outside_grows : (h : ℕ) (items more : List Item) (performed out : List Operation) → Each (IsBelow h (length items)) performed → AreLater (length items) more → Stays h items performed out → Each IsOutside out → Grows h items more performed out
outside_grows h items more performed out below later still none = record {
  below = below;
  later = later;
  still = still;
  late = Each-weaker IsOutside (λ a. a.hart ≡ h → is_lr a.kind ≡ true → length items ≤ a.place) (λ a e mine r. absurd (false≢true (sym e.0 ∙ r))) out none;
  new_clear = Each-weaker IsOutside (IsClear h (items ++ more) (performed ++ out)) (λ a e. record { clear = λ mine r. absurd (false≢true (sym e.0 ∙ r)) }) out none;
  new_pairs = Each-weaker IsOutside (λ w. Each (λ r. IsPair h (items ++ more) (performed ++ out) r w) (performed ++ out))
      (λ w e. Each-always (λ r. IsPair h (items ++ more) (performed ++ out) r w) (λ r. record { atomic = λ mine p. absurd (false≢true (sym e.1 ∙ (pair_parts (items ++ more) r w p).conditional)) }) (performed ++ out)) out none;
}

own_spares : (h word : ℕ) (out : List Operation) → Each (λ a. a.hart ≡ h) out → SparesWord h word out
own_spares h word out own = Each-weaker (λ a. a.hart ≡ h) (λ a. (x : ℕ) → word_of x ≡ word → harmless h x a ≡ true) (λ a e x f. or_left (nat_eq a.hart h) _ (eq-eqb a.hart h e)) out own

pub outside_atomic : (h : ℕ) (items more : List Item) (old next : Option ℕ) (performed out : List Operation) → Each (IsBelow h (length items)) performed → AreLater (length items) more → Stays h items performed out → Each IsOutside out → Each (λ a. a.hart ≡ h) out → IsLess next old → Each (λ (m : Item). is_lr_or_sc m.instr ≡ false) more
    → Atomic h items old performed → Atomic h (items ++ more) next (performed ++ out)
outside_atomic h items more old next performed out below later still none own less plain a =
    grown h items more old next performed out (outside_grows h items more performed out below later still none) (λ word e. reserves_more h word items more performed out later plain still (own_spares h word out own) (a.reserves word (less word e))) a

-- ---- an instruction retires

later_one : (n : ℕ) (m : Item) → IsMarked m → m.place ≡ n → AreLater n (m ∷ [])
later_one n m marked here = record { marked = (marked, tt); later = (omega (arith, here), tt) }

newest_still : (h : ℕ) (items : List Item) (performed : List Operation) (m : Item) (i : Operation) → IsNewest h (length items) m i → Stays h items performed (i ∷ [])
newest_still h items performed m i new r b c = record { still = λ mine reads x t. let l = b.below mine in let e = new.here in (theirs_later r i x (omega (arith, l, e)), tt) }

nothing_still : (h : ℕ) (items : List Item) (performed : List Operation) → Stays h items performed []
nothing_still h items performed r b c = record { still = λ mine reads x t. tt }

-- what is known of the hart before it
pub record Before (h : ℕ) (items : List Item) (buffer : Groups) (performed : List Operation) (m : Item) : Type 0 where
  pub below : Each (IsBelow h (length items)) performed
  pub places : Each (λ (x : Item). x.place < length items) items
  pub distinct : EachOnce performed
  pub found : Each (λ r. r.hart ≡ h → gave_at items r.place ≡ Some r) performed
  pub marked : IsMarked m
  pub here : m.place ≡ length items
  pub waiting : (word : ℕ) → has word buffer ≡ false → Each (λ u. IsWaiting h u × (of_word word u ≡ false)) (waits items performed)

no_word : (word other : ℕ) → None ≡ Some word → ⊥
no_word word other e = cc

less_none : (old next : Option ℕ) → next ≡ None → IsLess next old
less_none old next e w f = absurd (no_word w w (sym e ∙ f))

less_same : (old next : Option ℕ) → next ≡ old → IsLess next old
less_same old next e w f = sym e ∙ f

-- it performs nothing
pub none_atomic : (h : ℕ) (items : List Item) (buffer : Groups) (old next : Option ℕ) (performed : List Operation) (m : Item) (names : List OpId) → names ≡ [] → Before h items buffer performed m → Plain m old next ⊎ (Ends m old next ⊎ Takes m buffer names next) → Atomic h items old performed → Atomic h (items ++ m ∷ []) next (performed ++ [])
none_atomic h items buffer old next performed m names empty b (inl k) a =
    outside_atomic h items (m ∷ []) old next performed [] b.below (later_one (length items) m b.marked b.here) (nothing_still h items performed) tt tt (less_same old next k.stays) (k.alone, tt) a
none_atomic h items buffer old next performed m names empty b (inr (inl k)) a =
    grown h items (m ∷ []) old next performed [] (outside_grows h items (m ∷ []) performed [] b.below (later_one (length items) m b.marked b.here) (nothing_still h items performed) tt) (λ word e. absurd (no_word word word (sym k.none ∙ e))) a
none_atomic h items buffer old next performed m names empty b (inr (inr k)) a = absurd (k.performs empty)

-- an operation is no pair with itself
self_pair : (h : ℕ) (items : List Item) (performed : List Operation) (i : Operation) → IsPair h items performed i i
self_pair h items performed i = record { atomic = λ mine p. let l = (pair_parts items i i p).before in absurd (omega (arith, l)) }

ends_grows : (h word : ℕ) (items : List Item) (buffer : Groups) (performed : List Operation) (m : Item) (i : Operation) → Before h items buffer performed m → IsNewest h (length items) m i → is_lr i.kind ≡ false → Each IsMarked items → Reserves h word items performed → Grows h items (m ∷ []) performed (i ∷ [])
ends_grows h word items buffer performed m i b new kind marked k =
    let at = new.here in
    record {
      below = b.below;
      later = later_one (length items) m b.marked b.here;
      still = newest_still h items performed m i new;
      late = ((λ mine r. omega (arith, at)), tt);
      new_clear = (record { clear = λ mine r. absurd (false≢true (sym kind ∙ r)) }, tt);
      new_pairs = (Each-append (λ r. IsPair h (items ++ m ∷ []) (performed ++ i ∷ []) r i) performed (i ∷ []) (pairs_now h word items (m ∷ []) performed i marked b.found k new.own (omega (arith, at))) (self_pair h (items ++ m ∷ []) (performed ++ i ∷ []) i, tt), tt);
    }

-- no waiting store of its word
reserving_clear : (h word : ℕ) (items : List Item) (buffer : Groups) (performed : List Operation) (m : Item) (i : Operation) → Before h items buffer performed m → has word buffer ≡ false → IsReserving word i → IsClear h items performed i
reserving_clear h word items buffer performed m i b free k = record {
  clear = λ mine reads x t. Each-weaker (λ u. IsWaiting h u × (of_word word u ≡ false)) (λ u. theirs i x u ≡ false)
      (λ u z. false_from_ne_true (theirs i x u) (λ e.
      let s = and_parts (stores_to x u) (precedes u i) e in
      let touched = and_parts (writes u.kind) (touches x u) s.0 in
      let at : word_of u.address ≡ word = sym (touches_word x u z.0.in_word touched.1) ∙ (touches_word x i k.in_word t ∙ k.word_is) in
      true≢false (sym (eq-eqb (word_of u.address) word at) ∙ z.1)))
      (waits items performed) (b.waiting word free);
}

takes_grows : (h word : ℕ) (items : List Item) (buffer : Groups) (performed : List Operation) (m : Item) (i : Operation) → Before h items buffer performed m → IsNewest h (length items) m i → has word buffer ≡ false → IsReserving word i → Grows h items (m ∷ []) performed (i ∷ [])
takes_grows h word items buffer performed m i b new free k =
    let at = new.here in
    let later = later_one (length items) m b.marked b.here in
    record {
      below = b.below;
      later = later;
      still = newest_still h items performed m i new;
      late = ((λ mine r. omega (arith, at)), tt);
      new_clear = (clear_more h items (m ∷ []) performed (i ∷ []) i later (λ mine. omega (arith, at)) (reserving_clear h word items buffer performed m i b free k), tt);
      new_pairs = (Each-always (λ r. IsPair h (items ++ m ∷ []) (performed ++ i ∷ []) r i) (λ r. record { atomic = λ mine p. absurd (false≢true (sym k.ends_none ∙ (pair_parts (items ++ m ∷ []) r i p).conditional)) }) (performed ++ i ∷ []), tt);
    }

takes_word : (h word : ℕ) (items : List Item) (buffer : Groups) (performed : List Operation) (m : Item) (i : Operation) → Before h items buffer performed m → IsNewest h (length items) m i → has word buffer ≡ false → IsReserving word i → Reserves h word (items ++ m ∷ []) (performed ++ i ∷ [])
takes_word h word items buffer performed m i b new free k =
    let at = new.here in
    let place = b.here in
    record {
      lr = i;
      own = new.own;
      reserves = k.reserves;
      in_word = k.in_word;
      word_is = k.word_is;
      below = subst (λ n. i.place < n) (sym (more items)) (omega (arith, at));
      performs = (Each-right (λ r. list_any (λ s. same s r) (performed ++ i ∷ []) ≡ true) performed (i ∷ []) (members (performed ++ i ∷ []))).0;
      found = ap (option_and_then (λ (x : Item). x.operation)) (get_new items m i.place at) ∙ new.gave;
      last = Each-append (λ (x : Item). i.place < x.place → is_lr_or_sc x.instr ≡ false) items (m ∷ []) (Each-weaker (λ (x : Item). x.place < length items) (λ (x : Item). i.place < x.place → is_lr_or_sc x.instr ≡ false) (λ x l o. absurd (omega (arith, l, o, at))) items b.places)
          ((λ o. absurd (omega (arith, o, at, place))), tt);
      clear = (takes_grows h word items buffer performed m i b new free k).new_clear.0;
      free = λ x t. free_now h performed i x b.distinct (Each-weaker (IsBelow h (length items)) (λ a. same a i ≡ false) (λ a q. same-swap i a (new_name h (length items) i a new.own at q)) performed b.below) (and_left (writes i.kind) _ k.writes_none);
    }
  where
    more : (xs : List Item) → length (xs ++ m ∷ []) ≡ length xs + 1
    more xs = length-append xs (m ∷ [])

-- it performs its operation
pub once_atomic : (h : ℕ) (items : List Item) (buffer : Groups) (old next : Option ℕ) (performed : List Operation) (m : Item) (names : List OpId) (i : Operation) → IsNewest h (length items) m i → Before h items buffer performed m → Plain m old next ⊎ (Ends m old next ⊎ Takes m buffer names next) → Atomic h items old performed
    → Atomic h (items ++ m ∷ []) next (performed ++ i ∷ [])
once_atomic h items buffer old next performed m names i new b (inl k) a =
    outside_atomic h items (m ∷ []) old next performed (i ∷ []) b.below (later_one (length items) m b.marked b.here) (newest_still h items performed m i new) (k.kind i new.gave, tt) (new.own, tt) (less_same old next k.stays) (k.alone, tt) a
once_atomic h items buffer old next performed m names i new b (inr (inl k)) a =
    let q = k.kind i new.gave in
    grown h items (m ∷ []) old next performed (i ∷ []) (ends_grows h q.1 items buffer performed m i b new q.0 a.marked (a.reserves q.1 q.2)) (λ word e. absurd (no_word word word (sym k.none ∙ e))) a
once_atomic h items buffer old next performed m names i new b (inr (inr k)) a =
    let q = k.kind i new.gave in
    grown h items (m ∷ []) old next performed (i ∷ []) (takes_grows h k.word items buffer performed m i b new k.free q) (λ word e. subst (λ w. Reserves h w (items ++ m ∷ []) (performed ++ i ∷ [])) (word_same k.word word (sym k.some ∙ e)) (takes_word h k.word items buffer performed m i b new k.free q)) a
  where
    word_same : (v w : ℕ) → Some v ≡ Some w → v ≡ w
    word_same v w e = cc

-- what waits of a word, where the buffer has none of it
pub none_of_word : (model : MemoryModel) (h : ℕ) (items : List Item) (buffer : Groups) (performed : List Operation) → HartKept model h items buffer performed → (word : ℕ) → has word buffer ≡ false → Each (λ u. IsWaiting h u × (of_word word u ≡ false)) (waits items performed)
none_of_word model h items buffer performed k word free =
    let pend = joined k.sealed ++ k.current in
    subst (Each (λ u. IsWaiting h u × (of_word word u ≡ false))) (sym k.split.waits)
    (Each-both (IsWaiting h) (λ u. of_word word u ≡ false) pend k.kept.waiting (each_not (of_word word) pend (sym (has_is word buffer k.sealed k.current k.buffer_is) ∙ free)))
