-- What a walk has passed weighs at least as much as each operation that a rule of fences, annotations or pairs asks for.
use Rattle.std.proofs.Common.{◌≡◌, ℕ, ◌<◌, ◌≤◌, max, List, [], ◌∷◌, ◌++◌, Bool, true, false, Option, Some, None, ◌⊎◌, inl, inr, refl, cond, sym, subst, ap, ◌∙◌, not, ◌&&◌, ◌||◌, ⊎_elim, arith, take}
use Rattle.std.specs.Prelude.{slice_get}
use Rattle.std.specs.List.{list_any}
use Rattle.std.specs.Option.{option_map_or}
use Rattle.std.proofs.lemmas.Bool.{and_from, and_parts, or_parts, true≢false}
use Rattle.rv32_decode.specs.declared.instruction.Instr.{Instr}
use Rattle.rv32_decode.specs.declared.instruction.Instr.TheVariants as instr
use Rattle.machine_types.specs.declared.model.MemoryModel.{MemoryModel}
use Rattle.memory_model.specs.declared.operation.Kind.{Kind}
use Rattle.memory_model.specs.declared.operation.Kind.TheVariants.{Load, Store, Lr, Sc, Amo}
use Rattle.memory_model.specs.declared.operation.Operation.{Operation}
use Rattle.memory_model.specs.Dependencies.{between}
use Rattle.memory_model.specs.Items.{Item}
use Rattle.memory_model.specs.Operations.{has_acquire, has_rcsc, is_sc, is_lr, precedes, reads, writes}
use Rattle.memory_model.specs.Rules.{fences, has_read, has_write, is_in_set, is_lr_or_sc, paired}
use Rattle.rvwmo_order.specs.Passed.{fenced_after, fenced_before, fenced_by, none_passed, noted, passed_after, passed_behind, raised}
use Rattle.trace_operations.specs.Placed.{IsPlaced}
use Rattle.rvwmo_order.specs.declared.bounds.passed.Passed.{Passed}
use Rattle.rvwmo_order.proofs.Parted.{parted}

-- ---- weights that rise

raised_kept : (test : Bool) (own weight : ℕ) → weight ≤ raised test own weight
raised_kept true own weight = omega arith
raised_kept false own weight = omega arith

raised_own : (test : Bool) (own weight : ℕ) → test ≡ true → own ≤ raised test own weight
raised_own true own weight e = omega arith
raised_own false own weight e = absurd (true≢false (sym e))

-- an operation of this weight is among those passed
record Seen (model : MemoryModel) (a : Operation) (n : ℕ) (s : Passed) : Type 0 where
  all : n ≤ s.all
  reading : reads a.kind ≡ true → n ≤ s.reads
  writing : writes a.kind ≡ true → n ≤ s.writes
  acquiring : has_acquire model a ≡ true → n ≤ s.acquires
  annotating : has_rcsc model a ≡ true → n ≤ s.annotated

seen_first : (model : MemoryModel) (a : Operation) (n : ℕ) (s : Passed) → Seen model a n (noted model a n s)
seen_first model a n s = record {
  all = omega arith;
  reading = raised_own (reads a.kind) n s.reads;
  writing = raised_own (writes a.kind) n s.writes;
  acquiring = raised_own (has_acquire model a) n s.acquires;
  annotating = raised_own (has_rcsc model a) n s.annotated;
}

seen_noted : (model : MemoryModel) (a b : Operation) (n own : ℕ) (s : Passed) → Seen model a n s → Seen model a n (noted model b own s)
seen_noted model a b n own s h = record {
  all = let l = h.all in omega (arith, l);
  reading = λ e. let l = h.reading e in let k = raised_kept (reads b.kind) own s.reads in omega (arith, l, k);
  writing = λ e. let l = h.writing e in let k = raised_kept (writes b.kind) own s.writes in omega (arith, l, k);
  acquiring = λ e. let l = h.acquiring e in let k = raised_kept (has_acquire model b) own s.acquires in omega (arith, l, k);
  annotating = λ e. let l = h.annotating e in let k = raised_kept (has_rcsc model b) own s.annotated in omega (arith, l, k);
}

seen_fenced : (model : MemoryModel) (a : Operation) (n : ℕ) (i : Option Instr) (s : Passed) → Seen model a n s → Seen model a n (fenced_after i s)
seen_fenced model a n i s h = record { all = h.all; reading = h.reading; writing = h.writing; acquiring = h.acquiring; annotating = h.annotating }

seen_after : (model : MemoryModel) (a : Operation) (n own : ℕ) (place : ℕ) (i : Option Instr) (o : Option Operation) (s : Passed) → Seen model a n s → Seen model a n (passed_after model own (record { place = place; instr = i; operation = o }) s)
seen_after model a n own place i None s h = seen_fenced model a n i s h
seen_after model a n own place i (Some b) s h = seen_noted model a b n own (fenced_after i s) (seen_fenced model a n i s h)

seen_behind : (model : MemoryModel) (own : Item → ℕ) (a : Operation) (n : ℕ) (s : Passed) (ms : List Item) → Seen model a n s → Seen model a n (passed_behind model own s ms)
seen_behind model own a n s [] h = h
seen_behind model own a n s (m ∷ rest) h = seen_behind model own a n (passed_after model (own m) m s) rest (seen_after model a n (own m) m.place m.instr m.operation s h)

-- ---- fences

-- the weights that fences gave are never lower
record Grown (s t : Passed) : Type 0 where
  reads : s.fenced_reads ≤ t.fenced_reads
  writes : s.fenced_writes ≤ t.fenced_writes

grown_after : (model : MemoryModel) (own place : ℕ) (i : Option Instr) (o : Option Operation) (s : Passed) → Grown (fenced_after i s) (passed_after model own (record { place = place; instr = i; operation = o }) s)
grown_after model own place i None s = record { reads = omega arith; writes = omega arith }
grown_after model own place i (Some b) s = record { reads = omega arith; writes = omega arith }

grown_behind : (model : MemoryModel) (own : Item → ℕ) (s : Passed) (ms : List Item) → Grown s (passed_behind model own s ms)
grown_behind model own s [] = record { reads = omega arith; writes = omega arith }
grown_behind model own s (m ∷ rest) =
    let first = grown_after model (own m) m.place m.instr m.operation s in
    let ih = grown_behind model own (passed_after model (own m) m s) rest in
    record { reads = let l = first.reads in let k = ih.reads in omega (arith, l, k); writes = let l = first.writes in let k = ih.writes in omega (arith, l, k) }

grown_before : (kind : Kind) (n : ℕ) (s t : Passed) → Grown s t → n ≤ fenced_before kind s → n ≤ fenced_before kind t
grown_before kind n s t g h = go (reads kind) (writes kind) h
  where
    go : (r w : Bool) → n ≤ max (cond r s.fenced_reads 0) (cond w s.fenced_writes 0) → n ≤ max (cond r t.fenced_reads 0) (cond w t.fenced_writes 0)
    go true true h = let l = g.reads in let k = g.writes in omega (arith, l, k, h)
    go true false h = let l = g.reads in omega (arith, l, h)
    go false true h = let k = g.writes in omega (arith, k, h)
    go false false h = omega (arith, h)

-- an operation is in a set as a load or as a store
in_set_as : (set : ℕ) (kind : Kind) → is_in_set set kind ≡ true → ((reads kind ≡ true) × (is_in_set set Load ≡ true)) ⊎ ((writes kind ≡ true) × (is_in_set set Store ≡ true))
in_set_as set kind e = go (has_read set) (has_write set) (reads kind) (writes kind) e
  where
    go : (h g r w : Bool) → ((r && h) || (w && g)) ≡ true → ((r ≡ true) × (((true && h) || (false && g)) ≡ true)) ⊎ ((w ≡ true) × (((false && h) || (true && g)) ≡ true))
    go true g true w e = inl (refl, refl)
    go true true false true e = inr (refl, refl)
    go true true false false e = absurd (true≢false (sym e))
    go true false false true e = absurd (true≢false (sym e))
    go true false false false e = absurd (true≢false (sym e))
    go false true true true e = inr (refl, refl)
    go false true true false e = absurd (true≢false (sym e))
    go false true false true e = inr (refl, refl)
    go false true false false e = absurd (true≢false (sym e))
    go false false true true e = absurd (true≢false (sym e))
    go false false true false e = absurd (true≢false (sym e))
    go false false false true e = absurd (true≢false (sym e))
    go false false false false e = absurd (true≢false (sym e))

-- an instruction orders an operation, as a load or as a store, before later ones of a kind
abbrev Before : Option Instr → Kind → Kind → Type 0
Before i a later = ((reads a ≡ true) × (fences i Load later ≡ true)) ⊎ ((writes a ≡ true) × (fences i Store later ≡ true))

-- and those are of this one's kind
abbrev Parts : Option Instr → Kind → Kind → Type 0
Parts i a b = ((reads b ≡ true) × Before i a Load) ⊎ ((writes b ≡ true) × Before i a Store)

reads_or_writes : (kind : Kind) → (reads kind ≡ true) ⊎ (writes kind ≡ true)
reads_or_writes Load = inl refl
reads_or_writes Store = inr refl
reads_or_writes Lr = inl refl
reads_or_writes Sc = inr refl
reads_or_writes Amo = inl refl

set_before : (before after : ℕ) (later a : Kind) (i : Option Instr) → ((k : Kind) → fences i k later ≡ (is_in_set before k && is_in_set after later)) → is_in_set before a ≡ true → is_in_set after later ≡ true → Before i a later
set_before before after later a i f e g =
    ⊎_elim
    (λ (p : (reads a ≡ true) × (is_in_set before Load ≡ true)). inl (p.0, f Load ∙ and_from _ _ p.1 g))
    (λ (p : (writes a ≡ true) × (is_in_set before Store ≡ true)). inr (p.0, f Store ∙ and_from _ _ p.1 g))
    (in_set_as before a e)

parts : (i : Option Instr) (a b : Kind) → fences i a b ≡ true → Parts i a b
parts (Some (instr.Fence sets)) a b e =
    let p = and_parts (is_in_set sets.before a) (is_in_set sets.after b) e in
    ⊎_elim
    (λ (q : (reads b ≡ true) × (is_in_set sets.after Load ≡ true)). inl (q.0, set_before sets.before sets.after Load a (Some (instr.Fence sets)) (λ k. refl) p.0 q.1))
    (λ (q : (writes b ≡ true) × (is_in_set sets.after Store ≡ true)). inr (q.0, set_before sets.before sets.after Store a (Some (instr.Fence sets)) (λ k. refl) p.0 q.1))
    (in_set_as sets.after b p.1)
parts (Some instr.FenceTso) a b e = go (reads a) refl e
  where
    go : (r : Bool) → reads a ≡ r → (r || (writes a && writes b)) ≡ true → Parts (Some instr.FenceTso) a b
    go true h e = ⊎_elim (λ (k : reads b ≡ true). inl (k, inl (h, refl))) (λ (k : writes b ≡ true). inr (k, inl (h, refl))) (reads_or_writes b)
    go false h e = let p = and_parts (writes a) (writes b) e in inr (p.1, inr (p.0, refl))
parts i a b e = absurd (true≢false (sym e))

weighs_before : (model : MemoryModel) (a : Operation) (n : ℕ) (s : Passed) (i : Option Instr) (later : Kind) → Seen model a n s → Before i a.kind later → n ≤ fenced_by i later s
weighs_before model a n s i later h b =
    ⊎_elim
    (λ (p : (reads a.kind ≡ true) × (fences i Load later ≡ true)). let l = h.reading p.0 in left (fences i Load later) (fences i Store later) p.1 l)
    (λ (p : (writes a.kind ≡ true) × (fences i Store later ≡ true)). let l = h.writing p.0 in right (fences i Load later) (fences i Store later) p.1 l)
    b
  where
    left : (x y : Bool) → x ≡ true → n ≤ s.reads → n ≤ max (cond x s.reads 0) (cond y s.writes 0)
    left true y e l = omega (arith, l)
    left false y e l = absurd (true≢false (sym e))

    right : (x y : Bool) → y ≡ true → n ≤ s.writes → n ≤ max (cond x s.reads 0) (cond y s.writes 0)
    right x true e l = omega (arith, l)
    right x false e l = absurd (true≢false (sym e))

fenced_now : (model : MemoryModel) (a : Operation) (n : ℕ) (s : Passed) (i : Option Instr) (kind : Kind) → Seen model a n s → fences i a.kind kind ≡ true → n ≤ fenced_before kind (fenced_after i s)
fenced_now model a n s i kind h e =
    ⊎_elim
    (λ (p : (reads kind ≡ true) × Before i a.kind Load). let l = weighs_before model a n s i Load h p.1 in left (reads kind) (writes kind) p.0 l)
    (λ (p : (writes kind ≡ true) × Before i a.kind Store). let l = weighs_before model a n s i Store h p.1 in right (reads kind) (writes kind) p.0 l)
    (parts i a.kind kind e)
  where
    left : (x y : Bool) → x ≡ true → n ≤ fenced_by i Load s → n ≤ max (cond x (max s.fenced_reads (fenced_by i Load s)) 0) (cond y (max s.fenced_writes (fenced_by i Store s)) 0)
    left true y e l = omega (arith, l)
    left false y e l = absurd (true≢false (sym e))

    right : (x y : Bool) → y ≡ true → n ≤ fenced_by i Store s → n ≤ max (cond x (max s.fenced_reads (fenced_by i Load s)) 0) (cond y (max s.fenced_writes (fenced_by i Store s)) 0)
    right x true e l = omega (arith, l)
    right x false e l = absurd (true≢false (sym e))

fenced_behind : (model : MemoryModel) (own : Item → ℕ) (a : Operation) (n : ℕ) (s : Passed) (kind : Kind) (ms : List Item) → Seen model a n s → list_any (λ (m : Item). fences m.instr a.kind kind) ms ≡ true → n ≤ fenced_before kind (passed_behind model own s ms)
fenced_behind model own a n s kind [] h e = absurd (true≢false (sym e))
fenced_behind model own a n s kind (m ∷ rest) h e = go (fences m.instr a.kind kind) refl e (fenced_behind model own a n next kind rest (seen_after model a n (own m) m.place m.instr m.operation s h))
  where
    next : Passed
    next = passed_after model (own m) m s

    go : (b : Bool) → fences m.instr a.kind kind ≡ b → (b || list_any (λ (m : Item). fences m.instr a.kind kind) rest) ≡ true → (list_any (λ (m : Item). fences m.instr a.kind kind) rest ≡ true → n ≤ fenced_before kind (passed_behind model own next rest)) → n ≤ fenced_before kind (passed_behind model own next rest)
    go true k g ih = grown_before kind n next (passed_behind model own next rest) (grown_behind model own next rest) (grown_before kind n (fenced_after m.instr s) next (grown_after model (own m) m.place m.instr m.operation s) (fenced_now model a n s m.instr kind h k))
    go false k g ih = ih g

-- ---- pairs

reserved_after : (model : MemoryModel) (n own place : ℕ) (i : Option Instr) (o : Option Operation) (s : Passed) → is_lr_or_sc i ≡ false → n ≤ s.reserved → n ≤ (passed_after model own (record { place = place; instr = i; operation = o }) s).reserved
reserved_after model n own place i None s e l = go (is_lr_or_sc i) e
  where
    go : (b : Bool) → b ≡ false → n ≤ cond b 0 s.reserved
    go true e = absurd (true≢false e)
    go false e = l
reserved_after model n own place i (Some b) s e l = go (is_lr_or_sc i) e
  where
    go : (c : Bool) → c ≡ false → n ≤ raised (is_lr b.kind) own (cond c 0 s.reserved)
    go true e = absurd (true≢false e)
    go false e = let k = raised_kept (is_lr b.kind) own s.reserved in omega (arith, l, k)

reserved_behind : (model : MemoryModel) (own : Item → ℕ) (n : ℕ) (s : Passed) (ms : List Item) → list_any (λ (m : Item). is_lr_or_sc m.instr) ms ≡ false → n ≤ s.reserved → n ≤ (passed_behind model own s ms).reserved
reserved_behind model own n s [] e l = l
reserved_behind model own n s (m ∷ rest) e l =
    let p = or_parts (is_lr_or_sc m.instr) (list_any (λ (m : Item). is_lr_or_sc m.instr) rest) e in
    reserved_behind model own n (passed_after model (own m) m s) rest p.1 (reserved_after model n (own m) m.place m.instr m.operation s p.0 l)

-- ---- two operations of a hart's list

abbrev pub passed_at : MemoryModel → (Item → ℕ) → List Item → ℕ → Passed
passed_at model own items place = passed_behind model own none_passed (take place items)

pub passed_append : (model : MemoryModel) (own : Item → ℕ) (s : Passed) (xs ys : List Item) → passed_behind model own s (xs ++ ys) ≡ passed_behind model own (passed_behind model own s xs) ys
passed_append model own s [] ys = refl
passed_append model own s (x ∷ rest) ys = passed_append model own (passed_after model (own x) x s) rest ys

abbrev first_passed : MemoryModel → ℕ → Operation → Option Instr → Passed → Passed
first_passed model own a i s = noted model a own (fenced_after i s)

first_is : (model : MemoryModel) (own : ℕ) (a : Operation) (m : Item) (s : Passed) → m.operation ≡ Some a → passed_after model own m s ≡ first_passed model own a m.instr s
first_is model own a m s e = ap (λ (o : Option Operation). option_map_or (λ (x : Operation). noted model x own (fenced_after m.instr s)) o (fenced_after m.instr s)) e

passed_both : (model : MemoryModel) (own : Item → ℕ) (items : List Item) (a b : Operation) (m : Item) → IsPlaced 0 items → slice_get items a.place ≡ Some m → m.operation ≡ Some a → a.place < b.place
    → passed_at model own items b.place ≡ passed_behind model own (first_passed model (own m) a m.instr (passed_at model own items a.place)) (between items a b)
passed_both model own items a b m p e o l =
    ap (passed_behind model own none_passed) (parted items a b m p e l)
    ∙ (passed_append model own none_passed (take a.place items) (m ∷ between items a b)
    ∙ ap (λ (s : Passed). passed_behind model own s (between items a b)) (first_is model (own m) a m (passed_at model own items a.place) o))

-- the first is among those passed at the second one's place
seen : (model : MemoryModel) (own : Item → ℕ) (items : List Item) (a b : Operation) (m : Item) → IsPlaced 0 items → slice_get items a.place ≡ Some m → m.operation ≡ Some a → a.place < b.place → Seen model a (own m) (passed_at model own items b.place)
seen model own items a b m p e o l =
    subst (Seen model a (own m)) (sym (passed_both model own items a b m p e o l))
    (seen_behind model own a (own m) (first_passed model (own m) a m.instr (passed_at model own items a.place)) (between items a b) (seen_first model a (own m) (fenced_after m.instr (passed_at model own items a.place))))

pub acquire_passed : (model : MemoryModel) (own : Item → ℕ) (items : List Item) (a b : Operation) (m : Item) → IsPlaced 0 items → slice_get items a.place ≡ Some m → m.operation ≡ Some a → a.place < b.place → has_acquire model a ≡ true → own m ≤ (passed_at model own items b.place).acquires
acquire_passed model own items a b m p e o l h = (seen model own items a b m p e o l).acquiring h

pub all_passed : (model : MemoryModel) (own : Item → ℕ) (items : List Item) (a b : Operation) (m : Item) → IsPlaced 0 items → slice_get items a.place ≡ Some m → m.operation ≡ Some a → a.place < b.place → own m ≤ (passed_at model own items b.place).all
all_passed model own items a b m p e o l = (seen model own items a b m p e o l).all

pub annotated_passed : (model : MemoryModel) (own : Item → ℕ) (items : List Item) (a b : Operation) (m : Item) → IsPlaced 0 items → slice_get items a.place ≡ Some m → m.operation ≡ Some a → a.place < b.place → has_rcsc model a ≡ true → own m ≤ (passed_at model own items b.place).annotated
annotated_passed model own items a b m p e o l h = (seen model own items a b m p e o l).annotating h

pub fence_passed : (model : MemoryModel) (own : Item → ℕ) (items : List Item) (a b : Operation) (m : Item) → IsPlaced 0 items → slice_get items a.place ≡ Some m → m.operation ≡ Some a → a.place < b.place → list_any (λ (m : Item). fences m.instr a.kind b.kind) (between items a b) ≡ true → own m ≤ fenced_before b.kind (passed_at model own items b.place)
fence_passed model own items a b m p e o l h =
    let first : Passed = first_passed model (own m) a m.instr (passed_at model own items a.place) in
    let at_most = fenced_behind model own a (own m) first b.kind (between items a b) (seen_first model a (own m) (fenced_after m.instr (passed_at model own items a.place))) h in
    let there = ap (fenced_before b.kind) (passed_both model own items a b m p e o l) in
    omega (arith, at_most, there)

pair_parts : (p r c n : Bool) → (p && r && c && not n) ≡ true → (r ≡ true) × (n ≡ false)
pair_parts true true true true e = absurd (true≢false (sym e))
pair_parts true true true false e = (refl, refl)
pair_parts true true false n e = absurd (true≢false (sym e))
pair_parts true false c n e = absurd (true≢false (sym e))
pair_parts false r c n e = absurd (true≢false (sym e))

pub pair_passed : (model : MemoryModel) (own : Item → ℕ) (items : List Item) (a b : Operation) (m : Item) → IsPlaced 0 items → slice_get items a.place ≡ Some m → m.operation ≡ Some a → a.place < b.place → paired items a b ≡ true → own m ≤ (passed_at model own items b.place).reserved
pair_passed model own items a b m p e o l h =
    let q = pair_parts (precedes a b) (is_lr a.kind) (is_sc b.kind) (list_any (λ (m : Item). is_lr_or_sc m.instr) (between items a b)) h in
    let before : Passed = fenced_after m.instr (passed_at model own items a.place) in
    let at_most = reserved_behind model own (own m) (first_passed model (own m) a m.instr (passed_at model own items a.place)) (between items a b) q.1 (raised_own (is_lr a.kind) (own m) before.reserved q.0) in
    let there = ap (λ (s : Passed). s.reserved) (passed_both model own items a b m p e o l) in
    omega (arith, at_most, there)
