-- The flags of a sweep tell the registers that are wanted, and its marks what an operation depends on.
use Rattle.std.proofs.Common.{◌≡◌, ℕ, ◌-◌, ◌<◌, ◌≤◌, suc, ◌+◌, List, [], ◌∷◌, ◌++◌, Bool, true, false, Option, Some, None, refl, cond, sym, subst, ap, ◌∙◌, not, ◌&&◌, ◌||◌, arith, drop, take, length, map, replicate}
use Rattle.std.specs.Prelude.{filter, nat_eq, nat_lt, slice_index_or}
use Rattle.std.specs.List.{list_any, range_with_len}
use Rattle.std.proofs.lemmas.Bool.{and_parts, eqb-true, ltb-true, true≢false}
use Rattle.std.proofs.lemmas.List.{append_assoc}
use Rattle.std.proofs.lemmas.List.Folds.{list_any-append}
use Rattle.std.proofs.Math.Seq.{take-append_seam}
use Rattle.std.proofs.lemmas.Map.Views.{any-filter_same}
use Rattle.hart.specs.Uses.{Uses}
use Rattle.machine_types.specs.declared.model.MemoryModel.{MemoryModel}
use Rattle.memory_model.specs.declared.operation.Operation.{Operation}
use Rattle.memory_model.specs.Dependencies.{between, has_control_dependency, has_dependent_address_between, holds, sources, uses_at, uses_in, with_flags}
use Rattle.memory_model.specs.Items.{Item}
use Rattle.memory_model.specs.Operations.{addresses_of, precedes, writes}
use Rattle.rvwmo_order.specs.Rules.{rule_of}
use Rattle.rvwmo_order.specs.Marks.{IsBelow, TellsEach, is_source_among, sources_of, asked_at, asked_before, flagged, flags_before, flags_from, is_swept, is_told}
use Rattle.memory_model.specs.Order.{same_source, source}
use Rattle.memory_model.specs.Rules.{passes_on}
use Rattle.trace_operations.specs.Placed.{GivesOwn, IsPlaced}
use Rattle.rvwmo_order.proofs.Passing.{rule_12_swept}
use Rattle.rvwmo_order.specs.Sweeps.{addressing, is_returned, passing, gives_wanted, is_written, marks_of, nothing, steering, wanted_before, wanted_from}
use Rattle.rvwmo_order.specs.declared.rule.Rule.{Rule}
use Rattle.rvwmo_order.specs.declared.rule.Rule.TheVariants.{OverlappingStore, SameByteLoads, AtomicSource, Fence, Acquire, Release, Annotations, Pair, Address, Data, Control, DependentStore, DependentAddress}
use Rattle.rvwmo_order.proofs.Flags.{length-with_flags, no_flag}
use Rattle.rvwmo_order.proofs.Sweeps.{address_swept, any_same, control_swept, data_swept, dependent_address_swept, flag_at, mark_or}

-- ---- tests of lists

any_either : (p q : ℕ → Bool) (xs : List ℕ) → list_any (λ x. p x || q x) xs ≡ (list_any p xs || list_any q xs)
any_either p q [] = refl
any_either p q (x ∷ rest) = ap (λ (b : Bool). (p x || q x) || b) (any_either p q rest) ∙ go (p x) (q x) (list_any p rest) (list_any q rest)
  where
    go : (a b c d : Bool) → ((a || b) || (c || d)) ≡ ((a || c) || (b || d))
    go true b c d = refl
    go false true true d = refl
    go false true false d = refl
    go false false c d = refl

any_both : (b : Bool) (p : ℕ → Bool) (xs : List ℕ) → list_any (λ x. b && p x) xs ≡ (b && list_any p xs)
any_both true p xs = refl
any_both false p [] = refl
any_both false p (x ∷ rest) = any_both false p rest

any_none : (xs : List ℕ) → false ≡ list_any (λ x. false) xs
any_none [] = refl
any_none (x ∷ rest) = any_none rest

any_turned : (p : ℕ → ℕ → Bool) (xs ys : List ℕ) → list_any (λ x. list_any (p x) ys) xs ≡ list_any (λ y. list_any (λ x. p x y) xs) ys
any_turned p [] ys = any_none ys
any_turned p (x ∷ rest) ys = ap (λ (b : Bool). list_any (p x) ys || b) (any_turned p rest ys) ∙ sym (any_either (p x) (λ y. list_any (λ x. p x y) rest) ys)

same_below : (x y : ℕ) → (nat_lt x 32 && nat_eq y x) ≡ (nat_lt y 32 && nat_eq x y)
same_below x y = grind (arith, eqb-true, ltb-true)

-- a register of the first list is in the second where one of the second is in the first
in_turned : (xs ys : List ℕ) → list_any (is_written ys) xs ≡ list_any (is_written xs) ys
in_turned xs ys =
    any_same (is_written ys) (λ x. list_any (λ y. nat_lt x 32 && nat_eq y x) ys) (λ x. sym (any_both (nat_lt x 32) (λ y. nat_eq y x) ys)) xs
    ∙ (any_turned (λ x y. nat_lt x 32 && nat_eq y x) xs ys
    ∙ any_same (λ y. list_any (λ x. nat_lt x 32 && nat_eq y x) xs) (is_written xs) (λ y. any_same (λ x. nat_lt x 32 && nat_eq y x) (λ x. nat_lt y 32 && nat_eq x y) (λ x. same_below x y) xs ∙ any_both (nat_lt y 32) (λ x. nat_eq x y) xs) ys)

-- ---- flags

-- the flags are those of the registers of a list
abbrev Flags : List Bool → List ℕ → Type 0
Flags flags wanted = (r : ℕ) → slice_index_or flags r false ≡ is_written wanted r

flags_first : (wanted : List ℕ) → Flags (with_flags (replicate 32 false) true wanted) wanted
flags_first wanted r = flag_at (replicate 32 false) true wanted r refl ∙ (ap (cond (is_written wanted r) true) (no_flag r) ∙ go (is_written wanted r))
  where
    go : (b : Bool) → cond b true false ≡ b
    go true = refl
    go false = refl

flags_more : (flags : List Bool) (wanted more : List ℕ) → length flags ≡ 32 → Flags flags wanted → Flags (with_flags flags true more) (more ++ wanted)
flags_more flags wanted more h f r = flag_at flags true more r h ∙ (ap (cond (is_written more r) true) (f r) ∙ (go (nat_lt r 32) (list_any (λ w. nat_eq w r) more) (list_any (λ w. nat_eq w r) wanted) ∙ sym (ap (λ (b : Bool). nat_lt r 32 && b) (list_any-append (λ w. nat_eq w r) more wanted))))
  where
    go : (l x y : Bool) → cond (l && x) true (l && y) ≡ (l && (x || y))
    go true true y = refl
    go true false y = refl
    go false x y = refl

flags_behind : (flags : List Bool) (wanted more : List ℕ) → length flags ≡ 32 → Flags flags wanted → Flags (with_flags flags true more) (wanted ++ more)
flags_behind flags wanted more h f r = flag_at flags true more r h ∙ (ap (cond (is_written more r) true) (f r) ∙ (go (nat_lt r 32) (list_any (λ w. nat_eq w r) more) (list_any (λ w. nat_eq w r) wanted) ∙ sym (ap (λ (b : Bool). nat_lt r 32 && b) (list_any-append (λ w. nat_eq w r) wanted more))))
  where
    go : (l x y : Bool) → cond (l && x) true (l && y) ≡ (l && (y || x))
    go true true true = refl
    go true true false = refl
    go true false true = refl
    go true false false = refl
    go false x y = refl

flags_less : (flags : List Bool) (wanted written : List ℕ) → length flags ≡ 32 → Flags flags wanted → Flags (with_flags flags false written) (filter (λ r. not (is_written written r)) wanted)
flags_less flags wanted written h f r =
    flag_at flags false written r h ∙ (ap (cond (is_written written r) false) (f r) ∙ (go (is_written written r) (nat_lt r 32) (list_any (λ w. nat_eq w r) wanted)
    ∙ sym (ap (λ (b : Bool). nat_lt r 32 && b) (any-filter_same (λ w. nat_eq w r) (λ w. not (is_written written w)) (not (is_written written r)) (λ w e. ap (λ (x : ℕ). not (is_written written x)) (eqb-true w r e)) wanted))))
  where
    go : (b l x : Bool) → cond b false (l && x) ≡ (l && (not b && x))
    go true true x = refl
    go true false x = refl
    go false l x = refl

gives_flagged : (flags : List Bool) (wanted : List ℕ) (u : Uses) → Flags flags wanted → holds flags u.written ≡ gives_wanted u wanted
gives_flagged flags wanted u f = any_same (λ r. slice_index_or flags r false) (is_written wanted) f u.written ∙ in_turned u.written wanted

length-flags_before : (flags : List Bool) (u : Uses) → length (flags_before flags u) ≡ length flags
length-flags_before flags u = go (holds flags u.written)
  where
    go : (b : Bool) → length (cond b (with_flags (with_flags flags false u.written) true (sources u)) flags) ≡ length flags
    go true = length-with_flags (with_flags flags false u.written) true (sources u) ∙ length-with_flags flags false u.written
    go false = refl

flags_told_before : (flags : List Bool) (wanted : List ℕ) (u : Uses) → length flags ≡ 32 → Flags flags wanted → Flags (flags_before flags u) (wanted_before u wanted)
flags_told_before flags wanted u h f = go (holds flags u.written) (gives_wanted u wanted) (gives_flagged flags wanted u f)
  where
    go : (b c : Bool) → b ≡ c → Flags (cond b (with_flags (with_flags flags false u.written) true (sources u)) flags) (cond c (filter (λ r. not (is_written u.written r)) wanted ++ sources u) wanted)
    go true true e = flags_behind (with_flags flags false u.written) (filter (λ r. not (is_written u.written r)) wanted) (sources u) (length-with_flags flags false u.written ∙ h) (flags_less flags wanted u.written h f)
    go false false e = f
    go true false e = absurd (true≢false e)
    go false true e = absurd (true≢false (sym e))

-- ---- a list of instructions

length-flags_from : (rule : Rule) (stores : List (Option Operation)) (last : List Bool) (ms : List Item) → length (flags_from rule stores last ms) ≡ length last
length-flags_from rule stores last [] = refl
length-flags_from rule stores last (m ∷ rest) = length-with_flags (flags_before (flags_from rule stores last rest) (uses_in m.instr)) true (asked_before rule stores m) ∙ (length-flags_before (flags_from rule stores last rest) (uses_in m.instr) ∙ length-flags_from rule stores last rest)

flags_told : (rule : Rule) (stores : List (Option Operation)) (asks : Item → List ℕ) (last : List Bool) (wanted : List ℕ) (ms : List Item) → ((m : Item) → asked_before rule stores m ≡ asks m) → length last ≡ 32 → Flags last wanted → Flags (flags_from rule stores last ms) (wanted_from asks wanted ms)
flags_told rule stores asks last wanted [] e h f = f
flags_told rule stores asks last wanted (m ∷ rest) e h f =
    let flags = flags_from rule stores last rest in
    let long : length flags ≡ 32 = length-flags_from rule stores last rest ∙ h in
    rw (sym (e m)) (flags_more (flags_before flags (uses_in m.instr)) (wanted_before (uses_in m.instr) (wanted_from asks wanted rest)) (asked_before rule stores m) (length-flags_before flags (uses_in m.instr) ∙ long)
    (flags_told_before flags (wanted_from asks wanted rest) (uses_in m.instr) long (flags_told rule stores asks last wanted rest e h f)))

marks_told : (rule : Rule) (stores : List (Option Operation)) (asks : Item → List ℕ) (last : List Bool) (wanted : List ℕ) (ms : List Item) → ((m : Item) → asked_before rule stores m ≡ asks m) → length last ≡ 32 → Flags last wanted → flagged rule stores last ms ≡ marks_of asks wanted ms
marks_told rule stores asks last wanted [] e h f = refl
marks_told rule stores asks last wanted (m ∷ rest) e h f =
    ap (λ (b : Bool). b ∷ flagged rule stores last rest) (gives_flagged (flags_from rule stores last rest) (wanted_from asks wanted rest) (uses_in m.instr) (flags_told rule stores asks last wanted rest e h f))
    ∙ ap (λ (bs : List Bool). gives_wanted (uses_in m.instr) (wanted_from asks wanted rest) ∷ bs) (marks_told rule stores asks last wanted rest e h f)

-- the mark of an operation's instruction in the stretch before b
mark_told : (rule : Rule) (stores : List (Option Operation)) (asks : Item → List ℕ) (items : List Item) (a b : Operation) (low : ℕ) → ((m : Item) → asked_before rule stores m ≡ asks m) → IsPlaced 0 items → precedes a b ≡ true → low ≤ a.place
    → slice_index_or (flagged rule stores (with_flags (replicate 32 false) true (asked_at rule (uses_at items b))) (take (b.place - low) (drop low items))) (a.place - low) false
    ≡ (precedes a b && gives_wanted (uses_at items a) (wanted_from asks (asked_at rule (uses_at items b)) (between items a b)))
mark_told rule stores asks items a b low e p k h =
    let own = asked_at rule (uses_at items b) in
    let first = with_flags (replicate 32 false) true own in
    let before : a.place < b.place = ltb-true a.place b.place (and_parts (nat_eq a.hart b.hart) (nat_lt a.place b.place) k).1 in
    ap (λ (marks : List Bool). slice_index_or marks (a.place - low) false) (marks_told rule stores asks first own (take (b.place - low) (drop low items)) e (length-with_flags (replicate 32 false) true own) (flags_first own))
    ∙ (mark_or asks own items low a b p h before
    ∙ ap (λ (c : Bool). c && gives_wanted (uses_at items a) (wanted_from asks own (between items a b))) (sym k))

-- a list that was written back
pub written_back : (count : ℕ) (marks behind found : List Bool) → count ≡ length marks → marks ≡ found → take count (marks ++ behind) ≡ found
written_back count marks behind found e f = rw e (take-append_seam marks behind ∙ f)

-- ---- what the marks tell of the rules

-- the source of one byte more
pub one_more : (f : ℕ → Option Operation) (all before pushed : List (Option Operation)) (x end : ℕ) (store : Option Operation) → x < end → store ≡ f x → pushed ≡ before ++ store ∷ [] → all ≡ before ++ map f (range_with_len x (end - x)) → all ≡ pushed ++ map f (range_with_len (x + 1) (end - (x + 1)))
one_more f all before pushed x end store l e p h =
    let count : end - x ≡ suc (end - (x + 1)) = omega arith in
    let next : map f (range_with_len x (end - x)) ≡ f x ∷ map f (range_with_len (x + 1) (end - (x + 1))) = rw count refl in
    h ∙ (ap (λ (ys : List (Option Operation)). before ++ ys) next ∙ rw (p, e) (sym (append_assoc before (f x ∷ []) (map f (range_with_len (x + 1) (end - (x + 1)))))))

any_mapped : (p : Option Operation → Bool) (f : ℕ → Option Operation) (xs : List ℕ) → list_any p (map f xs) ≡ list_any (λ x. p (f x)) xs
any_mapped p f [] = refl
any_mapped p f (x ∷ rest) = ap (λ (b : Bool). p (f x) || b) (any_mapped p f rest)

-- by b's sources a store is one whose value b returns
among_returned : (order : List Operation) (b : Operation) (o : Option Operation) → is_source_among (sources_of DependentStore order b) o ≡ is_returned order b o
among_returned order b None = refl
among_returned order b (Some s) = ap (λ (c : Bool). writes s.kind && c) (any_mapped (λ store. same_source store (Some s)) (λ x. source order b x) (addresses_of b))

asked_passing : (order : List Operation) (b : Operation) (m : Item) → asked_before DependentStore (sources_of DependentStore order b) m ≡ passing order b m
asked_passing order b m = ap (λ (c : Bool). cond c ((uses_in m.instr).address ++ (uses_in m.instr).stored) []) (among_returned order b m.operation)

-- of two operations of one hart the rule asks by what the marks of b's list say
asked_told : (rule : Rule) (model : MemoryModel) (items : List Item) (order : List Operation) (a b : Operation) (low : ℕ) → IsPlaced 0 items → GivesOwn b.hart items → is_swept rule b ≡ true → is_told rule ≡ true → precedes a b ≡ true → low ≤ a.place
    → slice_index_or (flagged rule (sources_of rule order b) (with_flags (replicate 32 false) true (asked_at rule (uses_at items b))) (take (b.place - low) (drop low items))) (a.place - low) false ≡ (rule_of rule).asks model items order a b
asked_told Address model items order a b low p own s t k h = mark_told Address [] nothing items a b low (λ m. refl) p k h ∙ sym (address_swept items a b)
asked_told Data model items order a b low p own s t k h = mark_told Data [] nothing items a b low (λ m. refl) p k h ∙ sym (data_swept items a b)
asked_told Control model items order a b low p own s t k h = mark_told Control [] steering items a b low (λ m. refl) p k h ∙ (sym (control_swept items a b) ∙ ap (λ (w : Bool). w && has_control_dependency items a b) (sym s))
asked_told DependentAddress model items order a b low p own s t k h = mark_told DependentAddress [] addressing items a b low (λ m. refl) p k h ∙ (sym (dependent_address_swept items a b) ∙ ap (λ (w : Bool). w && has_dependent_address_between items a b) (sym s))
asked_told OverlappingStore model items order a b low p own s t k h = absurd (true≢false (sym t))
asked_told SameByteLoads model items order a b low p own s t k h = absurd (true≢false (sym t))
asked_told AtomicSource model items order a b low p own s t k h = absurd (true≢false (sym t))
asked_told Fence model items order a b low p own s t k h = absurd (true≢false (sym t))
asked_told Acquire model items order a b low p own s t k h = absurd (true≢false (sym t))
asked_told Release model items order a b low p own s t k h = absurd (true≢false (sym t))
asked_told Annotations model items order a b low p own s t k h = absurd (true≢false (sym t))
asked_told Pair model items order a b low p own s t k h = absurd (true≢false (sym t))
asked_told DependentStore model items order a b low p own s t k h =
    let same : b.hart ≡ a.hart = sym (eqb-true a.hart b.hart (and_parts (nat_eq a.hart b.hart) (nat_lt a.place b.place) k).0) in
    mark_told DependentStore (sources_of DependentStore order b) (passing order b) items a b low (asked_passing order b) p k h
    ∙ (ap (λ (c : Bool). c && gives_wanted (uses_at items a) (wanted_from (passing order b) [] (between items a b))) (k ∙ sym s)
    ∙ sym (rule_12_swept items order a b p (subst (λ (n : ℕ). GivesOwn n items) same own) k))

pub tells_each : (rule : Rule) (items : List Item) (order : List Operation) (b : Operation) (low : ℕ) (marks : List Bool) (stretch : List Item) (first : List Bool) (stores : List (Option Operation)) (among : List Operation) → IsPlaced 0 items → GivesOwn b.hart items → is_swept rule b ≡ true → IsBelow low b among
    → stretch ≡ take (b.place - low) (drop low items) → first ≡ with_flags (replicate 32 false) true (asked_at rule (uses_at items b)) → stores ≡ sources_of rule order b → marks ≡ flagged rule stores first stretch → TellsEach rule items order b low marks among
tells_each rule items order b low marks stretch first stores among p own s below cut at from e = λ k d l before. record {
  within = below k d l before;
  told = λ model t. rw (e, from, at, cut) (asked_told rule model items order (slice_index_or among k d) b low p own s t before (below k d l before));
}

-- where the rule says nothing of b there is no mark
unasked : (rule : Rule) (model : MemoryModel) (items : List Item) (order : List Operation) (a b : Operation) → is_swept rule b ≡ false → is_told rule ≡ true → false ≡ (rule_of rule).asks model items order a b
unasked Address model items order a b s t = absurd (true≢false s)
unasked Data model items order a b s t = absurd (true≢false s)
unasked Control model items order a b s t = ap (λ (w : Bool). w && has_control_dependency items a b) (sym s)
unasked DependentAddress model items order a b s t = ap (λ (w : Bool). w && has_dependent_address_between items a b) (sym s)
unasked OverlappingStore model items order a b s t = absurd (true≢false (sym t))
unasked SameByteLoads model items order a b s t = absurd (true≢false (sym t))
unasked AtomicSource model items order a b s t = absurd (true≢false (sym t))
unasked Fence model items order a b s t = absurd (true≢false (sym t))
unasked Acquire model items order a b s t = absurd (true≢false (sym t))
unasked Release model items order a b s t = absurd (true≢false (sym t))
unasked Annotations model items order a b s t = absurd (true≢false (sym t))
unasked Pair model items order a b s t = absurd (true≢false (sym t))
unasked DependentStore model items order a b s t = ap (λ (r : Bool). r && list_any (λ (m : Item). passes_on items order a b m.operation) (between items a b)) (sym s)

no_marks : (marks : List Bool) (k : ℕ) → marks ≡ [] → slice_index_or marks k false ≡ false
no_marks marks k e = rw e refl

pub tells_none : (rule : Rule) (items : List Item) (order : List Operation) (b : Operation) (marks : List Bool) (among : List Operation) → is_swept rule b ≡ false → marks ≡ [] → TellsEach rule items order b 0 marks among
tells_none rule items order b marks among s e = λ k d l before. record {
  within = omega arith;
  told = λ model t. let a = slice_index_or among k d in no_marks marks (a.place - 0) e ∙ unasked rule model items order a b s t;
}
