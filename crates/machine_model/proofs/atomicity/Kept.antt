-- What is kept of one hart's pairs of LR and SC, and of the LR that its reservation is of.
use Rattle.std.proofs.Common.{◌≡◌, ℕ, zero, suc, ◌<◌, ◌≤◌, List, [], ◌∷◌, ◌++◌, Bool, true, false, Option, Some, None, refl, cond, sym, ap, ◌∙◌, subst, not, ◌&&◌, append-nil, arith, length, length-append}
use Rattle.std.specs.Prelude.{nat_eq, nat_lt}
use Rattle.std.specs.List.{AllByRecursion as Each, cons_option, filter, list_any}
use Rattle.std.proofs.lemmas.Bool.{false≢true, true≢false, and_right, and_parts, eqb-true, ltb-true, ltb-false, le-ltb, lt-ltb, or_parts, not-true}
use Rattle.std.proofs.lemmas.List.Elements.{filter-append, filter_map-append}
use Rattle.hart.specs.declared.retired.Retired.{Retired}
use Rattle.hart.specs.declared.state.Hart.{Hart}
use Rattle.machine_model.specs.Words.{word_of}
use Rattle.machine_model.proofs.atomicity.Order.{IsFree, any_more, atomic_now, free_more, harmless, pair_more}
use Rattle.machine_model.proofs.order.Kept.{IsBelow}
use Rattle.machine_model.proofs.order.Rules.{InWord, precedes_not, touches_word}
use Rattle.machine_model.proofs.order.Split.{absent, filter_absent, gave_at, ops_of}
use Rattle.machine_model.proofs.order.Values.{members, theirs, waits}
use Rattle.memory_model.specs.declared.operation.Operation.{Operation}
use Rattle.memory_model.specs.Dependencies.{between}
use Rattle.memory_model.specs.Items.{Item, item_of, operation_of_access, operation_of_entry}
use Rattle.memory_model.specs.Legal.{is_atomic_at}
use Rattle.memory_model.specs.Operations.{is_sc, is_lr, precedes, same, stores_to, touches}
use Rattle.memory_model.specs.Rules.{is_lr_or_sc, paired}
use Rattle.memory_model.proofs.Lists.{Each-append, Each-both, Each-kept, Each-left, Each-weaker, filter_none}
use Rattle.rv32_decode.specs.Rows.{decoded}
use Rattle.rv32_decode.specs.declared.instruction.Annotations.{Annotations}
use Rattle.rv32_decode.specs.declared.instruction.Instr.{Instr}
use Rattle.rv32_decode.specs.declared.instruction.Instr.TheVariants as instr
use Rattle.rv32_decode.specs.declared.instruction.SystemOp.TheVariants as system
use Rattle.rv32_exec.specs.Meaning.{Access, Private, Loads, Stores, DoesLr, DoesSc, DoesAmo, Fences, Calls, access_of}

-- ---- items

-- an LR or an SC
abbrev pub is_pairing : Access → Bool
is_pairing (DoesLr address) = true
is_pairing (DoesSc address value) = true
is_pairing _ = false

pub pairing_is : (i : Instr) (regs : List ℕ) → is_lr_or_sc (Some i) ≡ is_pairing (access_of i regs)
pairing_is (instr.Load op rd rs1 offset) regs = refl
pairing_is (instr.Store op rs1 rs2 offset) regs = refl
pairing_is (instr.Lr rd rs1 bits) regs = refl
pairing_is (instr.Sc rd rs1 rs2 bits) regs = refl
pairing_is (instr.Amo op rd rs1 rs2 bits) regs = refl
pairing_is (instr.Fence sets) regs = refl
pairing_is instr.FenceTso regs = refl
pairing_is (instr.System system.Ecall) regs = refl
pairing_is (instr.System system.Ebreak) regs = refl
pairing_is (instr.Upper op rd imm) regs = refl
pairing_is (instr.Jal rd offset) regs = refl
pairing_is (instr.Jalr rd rs1 offset) regs = refl
pairing_is (instr.Branch op rs1 rs2 offset) regs = refl
pairing_is (instr.Immediate op rd rs1 imm) regs = refl
pairing_is (instr.Shift op rd rs1 amount) regs = refl
pairing_is (instr.Register op rd rs1 rs2) regs = refl

-- an item's operation has its place, and an LR's item is one
pub record IsMarked (m : Item) : Type 0 where
  pub place : (a : Operation) → m.operation ≡ Some a → a.place ≡ m.place
  pub reserves : (a : Operation) → m.operation ≡ Some a → is_lr a.kind ≡ true → is_lr_or_sc m.instr ≡ true

pub some_is : (a b : Operation) → Some a ≡ Some b → a ≡ b
some_is a b e = cc

pub none_not : (a : Operation) → None ≡ Some a → ⊥
none_not a e = cc

access_gave : (h place : ℕ) (bits : Annotations) (entry : Retired) (access : Access) (a : Operation) → operation_of_access h place bits entry access ≡ Some a → (a.place ≡ place) × (is_lr a.kind ≡ true → is_pairing access ≡ true)
access_gave h place bits entry Private a e = absurd (none_not a e)
access_gave h place bits entry Fences a e = absurd (none_not a e)
access_gave h place bits entry (Calls number argument) a e = absurd (none_not a e)
access_gave h place bits entry (Loads address bytes) a e = let f = some_is _ a e in (ap (λ (o : Operation). o.place) (sym f), λ r. absurd (false≢true (ap (λ (o : Operation). is_lr o.kind) f ∙ r)))
access_gave h place bits entry (Stores address bytes value) a e = let f = some_is _ a e in (ap (λ (o : Operation). o.place) (sym f), λ r. absurd (false≢true (ap (λ (o : Operation). is_lr o.kind) f ∙ r)))
access_gave h place bits entry (DoesAmo address op operand) a e = let f = some_is _ a e in (ap (λ (o : Operation). o.place) (sym f), λ r. absurd (false≢true (ap (λ (o : Operation). is_lr o.kind) f ∙ r)))
access_gave h place bits entry (DoesLr address) a e = let f = some_is _ a e in (ap (λ (o : Operation). o.place) (sym f), λ r. refl)
access_gave h place bits entry (DoesSc address value) a e = (go _ _ refl e, λ r. refl)
  where
    go : (b : Bool) (o : Operation) → o.place ≡ place → cond b (Some o) None ≡ Some a → a.place ≡ place
    go true o p f = ap (λ (x : Operation). x.place) (sym (some_is o a f)) ∙ p
    go false o p f = absurd (none_not a f)

entry_gave : (place : ℕ) (hart : Hart) (entry : Retired) (o : Option Instr) (a : Operation) → operation_of_entry place hart entry o ≡ Some a → (a.place ≡ place) × (is_lr a.kind ≡ true → is_lr_or_sc o ≡ true)
entry_gave place hart entry None a e = absurd (none_not a e)
entry_gave place hart entry (Some i) a e = let g = access_gave hart.id place _ entry (access_of i hart.regs) a e in (g.0, λ r. pairing_is i hart.regs ∙ g.1 r)

pub marked_item : (place : ℕ) (hart : Hart) (entry : Retired) → IsMarked (item_of place hart entry)
marked_item place hart entry = record { place = λ a e. (entry_gave place hart entry (decoded entry.word) a e).0; reserves = λ a e. (entry_gave place hart entry (decoded entry.word) a e).1 }

-- the item of an operation, with what is known of each item
pub found_item : (P : Item → Type 0) (items : List Item) (k : ℕ) (a : Operation) → gave_at items k ≡ Some a → Each P items → (m : Item) × P m × (m.operation ≡ Some a)
found_item P [] k a e h = absurd (none_not a e)
found_item P (m ∷ items) zero a e h = (m, h.0, e)
found_item P (m ∷ items) (suc k) a e h = found_item P items k a e h.1

-- items behind a list's
pub record AreLater (n : ℕ) (more : List Item) : Type 0 where
  pub marked : Each IsMarked more
  pub later : Each (λ (m : Item). n ≤ m.place) more

fresh : (n : ℕ) (more : List Item) → Each IsMarked more → Each (λ (m : Item). n ≤ m.place) more → Each (λ (t : Operation). n ≤ t.place) (ops_of more)
fresh n [] a b = tt
fresh n (m ∷ more) a b = go m.operation refl (fresh n more a.1 b.1)
  where
    go : (o : Option Operation) → m.operation ≡ o → Each (λ (t : Operation). n ≤ t.place) (ops_of more) → Each (λ (t : Operation). n ≤ t.place) (cons_option o (ops_of more))
    go None e ih = ih
    go (Some s) e ih = (subst (λ p. n ≤ p) (sym (a.0.place s e)) b.0, ih)

-- ---- what waits doesn't precede an LR that overlaps it

pub record IsClear (h : ℕ) (items : List Item) (performed : List Operation) (r : Operation) : Type 0 where
  pub clear : r.hart ≡ h → is_lr r.kind ≡ true → (x : ℕ) → touches x r ≡ true → Each (λ t. theirs r x t ≡ false) (waits items performed)

-- nor does what is performed now
pub record IsStill (h : ℕ) (out : List Operation) (r : Operation) : Type 0 where
  pub still : r.hart ≡ h → is_lr r.kind ≡ true → (x : ℕ) → touches x r ≡ true → Each (λ t. theirs r x t ≡ false) out

pub theirs_later : (r t : Operation) (x : ℕ) → r.place ≤ t.place → theirs r x t ≡ false
theirs_later r t x l = and_right (stores_to x t) _ (precedes_not t r (λ e. l))

pub clear_more : (h : ℕ) (items more : List Item) (performed out : List Operation) (r : Operation) → AreLater (length items) more → (r.hart ≡ h → r.place ≤ length items) → IsClear h items performed r → IsClear h (items ++ more) (performed ++ out) r
clear_more h items more performed out r later at k = record {
  clear = λ mine reads x t.
      let P : Operation → Type 0 = λ u. theirs r x u ≡ false in
      let q = absent (performed ++ out) in
      let l = at mine in
      subst (Each P) (sym (ap (filter q) (filter_map-append (λ (m : Item). m.operation) items more) ∙ filter-append q (ops_of items) (ops_of more)))
      (Each-append P (filter q (ops_of items)) (filter q (ops_of more))
      (subst (Each P) (sym (filter_absent performed out (ops_of items))) (Each-kept P (absent out) (waits items performed) (k.clear mine reads x t)))
      (Each-kept P q (ops_of more) (Each-weaker (λ (u : Operation). length items ≤ u.place) P (λ u m. theirs_later r u x (omega (arith, l, m))) (ops_of more) (fresh (length items) more later.marked later.later))));
}

-- ---- pairs

pub record IsPair (h : ℕ) (items : List Item) (performed : List Operation) (r w : Operation) : Type 0 where
  pub atomic : r.hart ≡ h → paired items r w ≡ true → (x : ℕ) → touches x r ≡ true → is_atomic_at performed r w x ≡ true

pub record PairParts (items : List Item) (r w : Operation) : Type 0 where
  pub hart : r.hart ≡ w.hart
  pub before : r.place < w.place
  pub reserves : is_lr r.kind ≡ true
  pub conditional : is_sc w.kind ≡ true
  pub alone : list_any (λ (m : Item). is_lr_or_sc m.instr) (between items r w) ≡ false

pub pair_parts : (items : List Item) (r w : Operation) → paired items r w ≡ true → PairParts items r w
pair_parts items r w e =
    let e1 = and_parts (precedes r w && is_lr r.kind && is_sc w.kind) _ e in
    let e2 = and_parts (precedes r w && is_lr r.kind) (is_sc w.kind) e1.0 in
    let e3 = and_parts (precedes r w) (is_lr r.kind) e2.0 in
    let e4 = and_parts (nat_eq r.hart w.hart) (nat_lt r.place w.place) e3.0 in
    record { hart = eqb-true r.hart w.hart e4.0; before = ltb-true r.place w.place e4.1; reserves = e3.1; conditional = e2.1; alone = not-true _ e1.1 }

between_same : (items more : List Item) (n : ℕ) (r w : Operation) → Each (λ (m : Item). n ≤ m.place) more → w.place < n → between (items ++ more) r w ≡ between items r w
between_same items more n r w later l =
    filter-append (λ (m : Item). nat_lt r.place m.place && nat_lt m.place w.place) items more
    ∙ (ap (λ v. between items r w ++ v) (filter_none (λ (m : Item). nat_lt r.place m.place && nat_lt m.place w.place) more
    (Each-weaker (λ (m : Item). n ≤ m.place) (λ (m : Item). (nat_lt r.place m.place && nat_lt m.place w.place) ≡ false) (λ m a. and_right (nat_lt r.place m.place) _ (le-ltb m.place w.place (omega (arith, a, l)))) more later))
    ∙ append-nil (between items r w))

paired_old : (items more : List Item) (n : ℕ) (r w : Operation) → Each (λ (m : Item). n ≤ m.place) more → w.place < n → paired (items ++ more) r w ≡ true → paired items r w ≡ true
paired_old items more n r w later l e =
    subst (λ ms. (precedes r w && is_lr r.kind && is_sc w.kind && not (list_any (λ (m : Item). is_lr_or_sc m.instr) ms)) ≡ true) (between_same items more n r w later l) e

-- an old pair stays
pair_still : (h : ℕ) (items more : List Item) (performed out : List Operation) (r w : Operation) → AreLater (length items) more → list_any (λ s. same s r) performed ≡ true → IsBelow h (length items) w → IsStill h out r → IsPair h items performed r w → IsPair h (items ++ more) (performed ++ out) r w
pair_still h items more performed out r w later m below still k = record {
  atomic = λ mine p x t.
      let q = pair_parts (items ++ more) r w p in
      pair_more performed out r w x m (still.still mine q.reserves x t) (k.atomic mine (paired_old items more (length items) r w later.later (below.below (sym q.hart ∙ mine)) p) x t);
}

-- ---- the reservation

-- it is of this performed LR; behind it no LR or SC, and no other hart's store to its bytes
pub record Reserves (h word : ℕ) (items : List Item) (performed : List Operation) : Type 0 where
  pub lr : Operation
  pub own : lr.hart ≡ h
  pub reserves : is_lr lr.kind ≡ true
  pub in_word : InWord lr
  pub word_is : word_of lr.address ≡ word
  pub below : lr.place < length items
  pub performs : list_any (λ s. same s lr) performed ≡ true
  pub found : gave_at items lr.place ≡ Some lr
  pub last : Each (λ (m : Item). lr.place < m.place → is_lr_or_sc m.instr ≡ false) items
  pub clear : IsClear h items performed lr
  pub free : (x : ℕ) → touches x lr ≡ true → IsFree h performed lr x

pub record Atomic (h : ℕ) (items : List Item) (reserved : Option ℕ) (performed : List Operation) : Type 0 where
  pub marked : Each IsMarked items
  pub clear : Each (IsClear h items performed) performed
  pub pairs : Each (λ w. Each (λ r. IsPair h items performed r w) performed) performed
  pub reserves : (word : ℕ) → reserved ≡ Some word → Reserves h word items performed

-- ---- growth

-- what is performed now, and the items that are new
pub record Grows (h : ℕ) (items more : List Item) (performed out : List Operation) : Type 0 where
  pub below : Each (IsBelow h (length items)) performed
  pub later : AreLater (length items) more
  pub still : (r : Operation) → IsBelow h (length items) r → IsClear h items performed r → IsStill h out r
  pub late : Each (λ r. r.hart ≡ h → is_lr r.kind ≡ true → length items ≤ r.place) out
  pub new_clear : Each (IsClear h (items ++ more) (performed ++ out)) out
  pub new_pairs : Each (λ w. Each (λ r. IsPair h (items ++ more) (performed ++ out) r w) (performed ++ out)) out

pub grown : (h : ℕ) (items more : List Item) (reserved next : Option ℕ) (performed out : List Operation) → Grows h items more performed out → ((word : ℕ) → next ≡ Some word → Reserves h word (items ++ more) (performed ++ out)) → Atomic h items reserved performed → Atomic h (items ++ more) next (performed ++ out)
grown h items more reserved next performed out g res k = record {
  marked = Each-append IsMarked items more k.marked g.later.marked;
  clear = Each-append (IsClear h longer order) performed out
      (Each-weaker (λ r. IsBelow h (length items) r × IsClear h items performed r) (IsClear h longer order)
      (λ r z. clear_more h items more performed out r g.later (λ mine. let l = z.0.below mine in omega (arith, l)) z.1) performed known) g.new_clear;
  pairs = Each-append (λ w. Each (λ r. IsPair h longer order r w) order) performed out
      (Each-weaker (λ w. IsBelow h (length items) w × Each (λ r. IsPair h items performed r w) performed) (λ w. Each (λ r. IsPair h longer order r w) order)
      (λ w z. Each-append (λ r. IsPair h longer order r w) performed out (old w z.0 z.1) (none w z.0)) performed (Each-both (IsBelow h (length items)) (λ w. Each (λ r. IsPair h items performed r w) performed) performed g.below k.pairs)) g.new_pairs;
  reserves = res;
}
  where
    longer : List Item
    longer = items ++ more

    order : List Operation
    order = performed ++ out

    known : Each (λ r. IsBelow h (length items) r × IsClear h items performed r) performed
    known = Each-both (IsBelow h (length items)) (IsClear h items performed) performed g.below k.clear

    old : (w : Operation) → IsBelow h (length items) w → Each (λ r. IsPair h items performed r w) performed → Each (λ r. IsPair h longer order r w) performed
    old w b q =
        Each-weaker (λ r. ((list_any (λ s. same s r) performed ≡ true) × (IsBelow h (length items) r × IsClear h items performed r)) × IsPair h items performed r w) (λ r. IsPair h longer order r w)
        (λ r z. pair_still h items more performed out r w g.later z.0.0 b (g.still r z.0.1.0 z.0.1.1) z.1) performed
        (Each-both (λ r. (list_any (λ s. same s r) performed ≡ true) × (IsBelow h (length items) r × IsClear h items performed r)) (λ r. IsPair h items performed r w) performed
        (Each-both (λ r. list_any (λ s. same s r) performed ≡ true) (λ r. IsBelow h (length items) r × IsClear h items performed r) performed (members performed) known) q)

    none : (w : Operation) → IsBelow h (length items) w → Each (λ r. IsPair h longer order r w) out
    none w b = Each-weaker (λ r. r.hart ≡ h → is_lr r.kind ≡ true → length items ≤ r.place) (λ r. IsPair h longer order r w)
        (λ r f. record { atomic = λ mine p x t. let q = pair_parts longer r w p in let l = f mine q.reserves in let m = b.below (sym q.hart ∙ mine) in let o = q.before in absurd (omega (arith, l, m, o)) }) out g.late

gave_more : (items more : List Item) (k : ℕ) (a : Operation) → gave_at items k ≡ Some a → gave_at (items ++ more) k ≡ Some a
gave_more [] more k a e = absurd (none_not a e)
gave_more (m ∷ items) more zero a e = e
gave_more (m ∷ items) more (suc k) a e = gave_more items more k a e

-- a reservation stays
pub reserves_more : (h word : ℕ) (items more : List Item) (performed out : List Operation) → AreLater (length items) more → Each (λ (m : Item). is_lr_or_sc m.instr ≡ false) more
    → ((r : Operation) → IsBelow h (length items) r → IsClear h items performed r → IsStill h out r) → Each (λ t. (x : ℕ) → word_of x ≡ word → harmless h x t ≡ true) out → Reserves h word items performed → Reserves h word (items ++ more) (performed ++ out)
reserves_more h word items more performed out later plain still quiet k = record {
  lr = k.lr;
  own = k.own;
  reserves = k.reserves;
  in_word = k.in_word;
  word_is = k.word_is;
  below = let l = k.below in subst (λ n. k.lr.place < n) (sym (length-append items more)) (omega (arith, l));
  performs = any_more (λ s. same s k.lr) performed out k.performs;
  found = gave_more items more k.lr.place k.lr k.found;
  last = Each-append (λ (m : Item). k.lr.place < m.place → is_lr_or_sc m.instr ≡ false) items more k.last (Each-weaker (λ (m : Item). is_lr_or_sc m.instr ≡ false) (λ (m : Item). k.lr.place < m.place → is_lr_or_sc m.instr ≡ false) (λ m e l. e) more plain);
  clear = clear_more h items more performed out k.lr later (λ mine. let l = k.below in omega (arith, l)) k.clear;
  free = λ x t. free_more h performed out k.lr x k.performs ((still k.lr (record { below = λ mine. k.below }) k.clear).still k.own k.reserves x t)
      (Each-weaker (λ u. (y : ℕ) → word_of y ≡ word → harmless h y u ≡ true) (λ u. harmless h x u ≡ true) (λ u f. f x (touches_word x k.lr k.in_word t ∙ k.word_is)) out quiet) (k.free x t);
}

-- ---- the pair that a store conditional ends

quiet_filter : (p f : Item → Bool) (xs : List Item) → list_any f (filter p xs) ≡ false → Each (λ m. p m ≡ true → f m ≡ false) xs
quiet_filter p f [] e = tt
quiet_filter p f (m ∷ xs) e = go (p m) refl e (quiet_filter p f xs)
  where
    go : (b : Bool) → p m ≡ b → list_any f (cond b (m ∷ filter p xs) (filter p xs)) ≡ false → (list_any f (filter p xs) ≡ false → Each (λ m. p m ≡ true → f m ≡ false) xs) → Each (λ m. p m ≡ true → f m ≡ false) (m ∷ xs)
    go true q e ih = let es = or_parts (f m) (list_any f (filter p xs)) e in ((λ z. es.0), ih es.1)
    go false q e ih = ((λ z. absurd (false≢true (sym q ∙ z))), ih e)

pair_is : (h word : ℕ) (items more : List Item) (performed : List Operation) (r w : Operation) → Each IsMarked items → (k : Reserves h word items performed) → gave_at items r.place ≡ Some r → length items ≤ w.place → PairParts (items ++ more) r w → r ≡ k.lr
pair_is h word items more performed r w marked k found at p = go (nat_lt r.place k.lr.place) refl (nat_lt k.lr.place r.place) refl
  where
    tests : Item → Bool
    tests m = nat_lt r.place m.place && nat_lt m.place w.place

    quiet : Each (λ (m : Item). tests m ≡ true → is_lr_or_sc m.instr ≡ false) items
    quiet = Each-left (λ (m : Item). tests m ≡ true → is_lr_or_sc m.instr ≡ false) items more (quiet_filter tests (λ (m : Item). is_lr_or_sc m.instr) (items ++ more) p.alone)

    earlier : r.place < k.lr.place → ⊥
    earlier l =
        let i = found_item (λ (m : Item). IsMarked m × (tests m ≡ true → is_lr_or_sc m.instr ≡ false)) items k.lr.place k.lr k.found (Each-both IsMarked (λ (m : Item). tests m ≡ true → is_lr_or_sc m.instr ≡ false) items marked quiet) in
        let at_lr : k.lr.place ≡ i.0.place = i.1.0.place k.lr i.2 in
        let b = k.below in
        true≢false (sym (i.1.0.reserves k.lr i.2 k.reserves) ∙ i.1.1 (both (nat_lt r.place i.0.place) (nat_lt i.0.place w.place) (lt-ltb r.place i.0.place (omega (arith, l, at_lr))) (lt-ltb i.0.place w.place (omega (arith, b, at, at_lr)))))
      where
        both : (a b : Bool) → a ≡ true → b ≡ true → (a && b) ≡ true
        both a b e f = rw (e, f) refl

    later : k.lr.place < r.place → ⊥
    later l =
        let i = found_item (λ (m : Item). IsMarked m × (k.lr.place < m.place → is_lr_or_sc m.instr ≡ false)) items r.place r found (Each-both IsMarked (λ (m : Item). k.lr.place < m.place → is_lr_or_sc m.instr ≡ false) items marked k.last) in
        let at_r : r.place ≡ i.0.place = i.1.0.place r i.2 in
        true≢false (sym (i.1.0.reserves r i.2 p.reserves) ∙ i.1.1 (omega (arith, l, at_r)))

    go : (b : Bool) → nat_lt r.place k.lr.place ≡ b → (c : Bool) → nat_lt k.lr.place r.place ≡ c → r ≡ k.lr
    go true e c f = absurd (earlier (ltb-true r.place k.lr.place e))
    go false e true f = absurd (later (ltb-true k.lr.place r.place f))
    go false e false f =
        let l = ltb-false r.place k.lr.place e in
        let m = ltb-false k.lr.place r.place f in
        some_is r k.lr (sym found ∙ (ap (gave_at items) (omega (arith, l, m)) ∙ k.found))

-- what the store conditional ends is atomic
pub pairs_now : (h word : ℕ) (items more : List Item) (performed : List Operation) (w : Operation) → Each IsMarked items → Each (λ r. r.hart ≡ h → gave_at items r.place ≡ Some r) performed → Reserves h word items performed → w.hart ≡ h → length items ≤ w.place
    → Each (λ r. IsPair h (items ++ more) (performed ++ w ∷ []) r w) performed
pairs_now h word items more performed w marked found k mine at =
    Each-weaker (λ r. r.hart ≡ h → gave_at items r.place ≡ Some r) (λ r. IsPair h (items ++ more) (performed ++ w ∷ []) r w)
    (λ r f. record {
      atomic = λ own p x t.
          let e : r ≡ k.lr = pair_is h word items more performed r w marked k (f own) at (pair_parts (items ++ more) r w p) in
          let b = k.below in
          subst (λ (q : Operation). is_atomic_at (performed ++ w ∷ []) q w x ≡ true) (sym e)
          (atomic_now performed k.lr w x k.performs (theirs_later k.lr w x (omega (arith, b, at))) (subst (λ j. IsFree j performed k.lr x) (sym mine) (k.free x (subst (λ (q : Operation). touches x q ≡ true) e t))));
    }) performed found
