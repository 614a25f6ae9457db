-- What a retiring instruction read: the last waiting store's byte, else the last performed one's, where each copy holds what was performed.
use Rattle.std.proofs.Common.{◌≡◌, ℕ, ◌+◌, ◌-◌, ◌%◌, ◌<◌, ◌≤◌, List, [], ◌∷◌, ◌++◌, Bool, true, false, Option, Some, None, refl, cond, sym, ap, ◌∙◌, subst, not, ◌&&◌, arith, inl, inr}
use Rattle.std.specs.Prelude.{nat_le, nat_lt, is_some, unwrap_or, slice_index}
use Rattle.std.specs.List.{AllByRecursion as Each, filter, list_any, last_or}
use Rattle.std.proofs.lemmas.Bool.{false≢true, true≢false, and_parts, or_parts, eqb-false, leb-true, ltb-true, false_from_ne_true}
use Rattle.client_cache.specs.Cache.{copy_at}
use Rattle.client_cache.specs.Held.{bytes_in}
use Rattle.client_cache.specs.declared.held.Held.{Held}
use Rattle.client_cache.specs.declared.held.Held.TheVariants.{Trunk}
use Rattle.hart.specs.declared.retired.Retired.{Retired}
use Rattle.hart.specs.Run.{number_of as answered_number, number_read}
use Rattle.machine_model.specs.declared.act.Deed.{Deed}
use Rattle.machine_model.specs.declared.act.Deed.TheVariants as deed
use Rattle.machine_model.specs.Steps.{Fetched, waits_for_stores, write_waits}
use Rattle.machine_model.specs.Views.{Node}
use Rattle.machine_model.specs.Words.{word_of, word_in, read_from}
use Rattle.machine_model.proofs.order.Bytes.{byte_of, read_byte, place_at, mark_at, last_is, from_buffer, from_both, buffer_small, both_small, covered_at}
use Rattle.machine_model.proofs.order.Deeds.{FitsDeed, Facts, ReadsBoth, ReadsTrunk}
use Rattle.machine_model.proofs.order.Kept.{joined, of_word, IsWaiting}
use Rattle.machine_model.proofs.order.Rules.{touches_word}
use Rattle.machine_model.proofs.order.Steps.{HartKept, waiting_of, stores_joined, has_is, empty_waits}
use Rattle.machine_model.proofs.order.Values.{ReadsLast}
use Rattle.machine_types.specs.declared.model.MemoryModel.{MemoryModel}
use Rattle.machine_types.specs.declared.model.MemoryModel.TheVariants.{Rvwmo, Ztso}
use Rattle.memory_model.specs.declared.operation.Kind.TheVariants.{Sc}
use Rattle.memory_model.specs.declared.operation.Operation.{Operation}
use Rattle.memory_model.specs.Items.{Item, annotations_of, operation_of_access, succeeded}
use Rattle.memory_model.specs.Operations.{writes, touches, stores_to, byte_of_number}
use Rattle.memory_model.specs.Order.{byte_from, last_write}
use Rattle.memory_model.proofs.Lists.{filter_none}
use Rattle.rv32_decode.specs.declared.instruction.AmoOp.{AmoOp}
use Rattle.rv32_decode.specs.declared.instruction.Annotations.{Annotations}
use Rattle.rv32_decode.specs.declared.instruction.Instr.{Instr}
use Rattle.rv32_exec.specs.Meaning.{Access, Private, Loads, Stores, DoesLr, DoesSc, DoesAmo, Fences, Calls}
use Rattle.store_buffer.specs.ByteMask.{each_place, is_marked, laid_over}
use Rattle.store_buffer.specs.Groups.{buffered_byte, groups_of, has, has_sealed, is_empty}
use Rattle.store_buffer.specs.Stores.{last_byte}
use Rattle.store_buffer.proofs.StoreLaws.{forward_is_last}
use Rattle.tl_types.specs.Line.{line_of}

-- each copy's words are those of what was performed
abbrev pub HoldsLast : (ℕ → ℕ) → Node → Type 0
HoldsLast memory n = (address k : ℕ) (held : Held) → k < 4 → copy_at n.cache (line_of n.cache.shape.size address) ≡ Some held → slice_index (word_in (bytes_in held) (word_of address)) k ≡ memory (word_of address + k)

-- what the buffer has of a byte
buffered_is : (model : MemoryModel) (h : ℕ) (items : List Item) (n : Node) (performed : List Operation) (k : HartKept model h items n.buffer performed) (word j : ℕ) → word % 4 ≡ 0 → j < 4
    → buffered_byte word j (groups_of n.buffer) ≡ byte_of (word + j) (last_or None (filter (stores_to (word + j)) (joined k.sealed ++ k.current)))
buffered_is model h items n performed k word j aligned l =
    ap (λ b. buffered_byte word j (groups_of b)) k.buffer_is
    ∙ (forward_is_last word j (waiting_of k.sealed k.current) l
    ∙ (ap (last_byte word j) (stores_joined k.sealed k.current) ∙ last_is h word j (joined k.sealed ++ k.current) k.kept.waiting aligned l))

-- a load's byte
load_byte : (model : MemoryModel) (h : ℕ) (items : List Item) (n : Node) (performed : List Operation) (memory : ℕ → ℕ) → ((x : ℕ) → memory x < 256) → HoldsLast memory n → (k : HartKept model h items n.buffer performed) (address bytes v x : ℕ) (e : Retired) → e.loaded ≡ Some v → address % 4 + bytes ≤ 4 → ReadsBoth n address bytes e → address ≤ x → x < address + bytes
    → byte_of_number address v x ≡ byte_from memory x (last_or None (filter (stores_to x) (joined k.sealed ++ k.current)))
load_byte model h items n performed memory small holds k address bytes v x e loaded fit both l m = go both
  where
    some_is : (a b : ℕ) → Some a ≡ Some b → a ≡ b
    some_is a b e = cc

    bound : x - word_of address < 4
    bound = omega (arith, fit, l, m)

    there : word_of address + (x - word_of address) ≡ x
    there = omega (arith, l)

    aligned : word_of address % 4 ≡ 0
    aligned = omega arith

    is_last : (j : ℕ) → j < 4 → buffered_byte (word_of address) j (groups_of n.buffer) ≡ byte_of (word_of address + j) (last_or None (filter (stores_to (word_of address + j)) (joined k.sealed ++ k.current)))
    is_last j b = buffered_is model h items n performed k (word_of address) j aligned b

    at_x : (P : ℕ → Type 0) → P (word_of address + (x - word_of address)) → P x
    at_x P p = subst P there p

    go : ReadsBoth n address bytes e → byte_of_number address v x ≡ byte_from memory x (last_or None (filter (stores_to x) (joined k.sealed ++ k.current)))
    go (inl c) =
        let f : ℕ → ℕ = λ j. unwrap_or (buffered_byte (word_of address) j (groups_of n.buffer)) 0 in
        let covered = covered_at (each_place (λ j. is_some (buffered_byte (word_of address) j (groups_of n.buffer)))) (address % 4) bytes (x - word_of address) c.0 (omega (arith, l)) (omega (arith, l, m)) bound in
        ap (λ w. byte_of_number address w x) (some_is v (read_from (each_place (λ j. unwrap_or (buffered_byte (word_of address) j (groups_of n.buffer)) 0)) address bytes) (sym loaded ∙ c.1))
        ∙ (read_byte f (λ j b. buffer_small (word_of address + j) (buffered_byte (word_of address) j (groups_of n.buffer)) (last_or None (filter (stores_to (word_of address + j)) (joined k.sealed ++ k.current))) (is_last j b)) address bytes x fit l m
        ∙ at_x (λ y. f (x - word_of address) ≡ byte_from memory y (last_or None (filter (stores_to y) (joined k.sealed ++ k.current))))
        (from_buffer memory (word_of address + (x - word_of address)) (buffered_byte (word_of address) (x - word_of address) (groups_of n.buffer)) (last_or None (filter (stores_to (word_of address + (x - word_of address))) (joined k.sealed ++ k.current))) (is_last (x - word_of address) bound)
        (sym (mark_at (λ j. is_some (buffered_byte (word_of address) j (groups_of n.buffer))) (x - word_of address) bound) ∙ covered)))
    go (inr c) =
        let lower = word_in (bytes_in c.0) (word_of address) in
        let mask = each_place (λ j. is_some (buffered_byte (word_of address) j (groups_of n.buffer))) in
        let upper = each_place (λ j. unwrap_or (buffered_byte (word_of address) j (groups_of n.buffer)) 0) in
        let f : ℕ → ℕ = λ j. cond (is_marked mask j) (slice_index upper j) (slice_index lower j) in
        let is_both : (j : ℕ) → j < 4 → f j ≡ byte_from memory (word_of address + j) (last_or None (filter (stores_to (word_of address + j)) (joined k.sealed ++ k.current))) =
        λ j b. ap (λ t. cond t (slice_index upper j) (slice_index lower j)) (mark_at (λ i. is_some (buffered_byte (word_of address) i (groups_of n.buffer))) j b)
        ∙ (ap (λ t. cond (is_some (buffered_byte (word_of address) j (groups_of n.buffer))) t (slice_index lower j)) (place_at (λ i. unwrap_or (buffered_byte (word_of address) i (groups_of n.buffer)) 0) j b)
        ∙ from_both memory (word_of address + j) (slice_index lower j) (buffered_byte (word_of address) j (groups_of n.buffer)) (last_or None (filter (stores_to (word_of address + j)) (joined k.sealed ++ k.current))) (is_last j b) (holds address j c.0 b c.1)) in
        ap (λ w. byte_of_number address w x) (some_is v (read_from (laid_over mask upper lower) address bytes) (sym loaded ∙ c.2))
        ∙ (read_byte f (λ j b. subst (λ w. w < 256) (sym (is_both j b)) (both_small memory small (word_of address + j) (last_or None (filter (stores_to (word_of address + j)) (joined k.sealed ++ k.current))))) address bytes x fit l m
        ∙ at_x (λ y. f (x - word_of address) ≡ byte_from memory y (last_or None (filter (stores_to y) (joined k.sealed ++ k.current)))) (is_both (x - word_of address) bound))

-- ---- LR and AMOs

-- no store to the word waits
none_stores : (h word x : ℕ) (g : List Operation) → word_of x ≡ word → Each (IsWaiting h) g → list_any (of_word word) g ≡ false → Each (λ a. stores_to x a ≡ false) g
none_stores h word x [] at own e = tt
none_stores h word x (a ∷ g) at own e =
    let es = or_parts (of_word word a) (list_any (of_word word) g) e in
    (false_from_ne_true (stores_to x a) (λ t. eqb-false (word_of a.address) word es.0 (sym (touches_word x a own.0.in_word (and_parts (writes a.kind) (touches x a) t).1) ∙ at)), none_stores h word x g at own.1 es.1)

trunk_byte : (model : MemoryModel) (h : ℕ) (items : List Item) (n : Node) (performed : List Operation) (memory : ℕ → ℕ) → ((x : ℕ) → memory x < 256) → HoldsLast memory n → (k : HartKept model h items n.buffer performed) (address old x : ℕ) → address % 4 ≡ 0 → list_any (of_word address) (joined k.sealed ++ k.current) ≡ false → ReadsTrunk n address old → address ≤ x → x < address + 4
    → byte_of_number address old x ≡ byte_from memory x (last_or None (filter (stores_to x) (joined k.sealed ++ k.current)))
trunk_byte model h items n performed memory small holds k address old x aligned none r l m =
    let held = Trunk r.0 r.1 in
    let own_word : word_of address ≡ address = omega (arith, aligned) in
    let f : ℕ → ℕ = λ j. slice_index (word_in r.1 address) j in
    let is_held : (j : ℕ) → j < 4 → f j ≡ memory (address + j) = λ j b. subst (λ w. slice_index (word_in r.1 w) j ≡ memory (w + j)) own_word (holds address j held b r.2) in
    let is_f : (j : ℕ) → read_from (word_in r.1 address) address 4 ≡ read_from (each_place f) address 4 = λ j. refl in
    ap (λ w. byte_of_number address w x) (r.3 ∙ is_f 0)
    ∙ (read_byte f (λ j b. subst (λ w. w < 256) (sym (is_held j b)) (small (address + j))) address 4 x (omega (arith, aligned)) l m
    ∙ (is_held (x - word_of address) (omega (arith, aligned, l, m))
    ∙ (ap memory (omega (arith, aligned, l))
    ∙ ap (λ xs. byte_from memory x (last_or None xs)) (sym (filter_none (stores_to x) (joined k.sealed ++ k.current) (none_stores h address x (joined k.sealed ++ k.current) (omega (arith, aligned, l, m)) k.kept.waiting none))))))

lr_alone : (model : MemoryModel) (h : ℕ) (items : List Item) (n : Node) (performed : List Operation) (i : Instr) (address : ℕ) (k : HartKept model h items n.buffer performed) → waits_for_stores n.buffer i address ≡ false → list_any (of_word address) (joined k.sealed ++ k.current) ≡ false
lr_alone model h items n performed i address k e = sym (has_is address n.buffer k.sealed k.current k.buffer_is) ∙ (or_parts ((annotations_of i).release && not (is_empty n.buffer)) (has address n.buffer) e).1

write_alone : (model : MemoryModel) (h : ℕ) (items : List Item) (n : Node) (performed : List Operation) (i : Instr) (address : ℕ) (k : HartKept model h items n.buffer performed) → write_waits model n.buffer i address ≡ false → list_any (of_word address) (joined k.sealed ++ k.current) ≡ false
write_alone Rvwmo h items n performed i address k e = lr_alone Rvwmo h items n performed i address k (or_parts (waits_for_stores n.buffer i address) (has_sealed n.buffer) e).0
write_alone Ztso h items n performed i address k e = ap (list_any (of_word address)) (empty_waits n.buffer k.sealed k.current k.buffer_is (turn (is_empty n.buffer) e))
  where
    turn : (b : Bool) → not b ≡ false → b ≡ true
    turn true e = refl
    turn false e = absurd (true≢false e)

-- ---- all accesses

read_is : (e : Retired) (v : ℕ) → e.sc_ok ≡ None → e.loaded ≡ Some v → number_read e ≡ v
read_is e v a b = ap (λ o. answered_number o e.loaded) a ∙ ap (λ o. answered_number None o) b

touched : (x address bytes : ℕ) → (nat_le address x && nat_lt x (address + bytes)) ≡ true → (address ≤ x) × (x < address + bytes)
touched x address bytes t = let p = and_parts (nat_le address x) (nat_lt x (address + bytes)) t in (leb-true address x p.0, ltb-true x (address + bytes) p.1)

loaded_of : (e : Retired) → (o : Option ℕ) → e.loaded ≡ o → (model : MemoryModel) (n : Node) (address bytes : ℕ) → ReadsBoth n address bytes e → (v : ℕ) × (e.loaded ≡ Some v)
loaded_of e o f model n address bytes (inl c) = (_, c.1)
loaded_of e o f model n address bytes (inr c) = (_, c.2)

load_found : (model : MemoryModel) (n : Node) (f : Fetched) (address bytes : ℕ) (e : Retired) (d : Deed) → FitsDeed model n f (Loads address bytes) e d → (e.sc_ok ≡ None) × ReadsBoth n address bytes e
load_found model n f address bytes e deed.Load x = x
load_found model n f address bytes e _ x = absurd x

record Found (n : Node) (address : ℕ) (e : Retired) (model : MemoryModel) (waits : Bool) : Type 0 where
  free : waits ≡ false
  no_sc : e.sc_ok ≡ None
  old : ℕ
  loaded : e.loaded ≡ Some old
  trunk : ReadsTrunk n address old

lr_found : (model : MemoryModel) (n : Node) (f : Fetched) (address : ℕ) (e : Retired) (d : Deed) → FitsDeed model n f (DoesLr address) e d → Found n address e model (waits_for_stores n.buffer f.instr address)
lr_found model n f address e (deed.Lr word) x = record { free = x.1; no_sc = x.2; old = x.3; loaded = x.4; trunk = x.5 }
lr_found model n f address e _ x = absurd x

amo_found : (model : MemoryModel) (n : Node) (f : Fetched) (address : ℕ) (op : AmoOp) (operand : ℕ) (e : Retired) (d : Deed) → FitsDeed model n f (DoesAmo address op operand) e d → Found n address e model (write_waits model n.buffer f.instr address)
amo_found model n f address op operand e (deed.Amo word v) x = record { free = x.1; no_sc = x.2; old = x.3; loaded = x.4; trunk = x.6 }
amo_found model n f address op operand e _ x = absurd x

same_operation : (r a : Operation) → Some r ≡ Some a → r ≡ a
same_operation r a e = cc

reads_by : (image : ℕ → ℕ) (performed waiting : List Operation) (r a : Operation) → Some r ≡ Some a → ReadsLast image performed waiting r → ReadsLast image performed waiting a
reads_by image performed waiting r a e k = subst (ReadsLast image performed waiting) (same_operation r a e) k

none_gives : (image : ℕ → ℕ) (performed waiting : List Operation) (a : Operation) → None ≡ Some a → ReadsLast image performed waiting a
none_gives image performed waiting a e = absurd (not_so e)
  where
    not_so : None ≡ Some a → ⊥
    not_so e = cc

pub value_of : (model : MemoryModel) (image : ℕ → ℕ) (h place : ℕ) (n : Node) (f : Fetched) (e : Retired) (x : Access) (d : Deed) (items : List Item) (performed : List Operation) (bits : Annotations) → ((y : ℕ) → image y < 256) → HoldsLast (last_write image performed) n → Facts f.instr x → FitsDeed model n f x e d
    → (k : HartKept model h items n.buffer performed) (a : Operation) → operation_of_access h place bits e x ≡ Some a → ReadsLast image performed (joined k.sealed ++ k.current) a
value_of model image h place n f e (Loads address bytes) d items performed bits small holds y fits k a g =
    let found = load_found model n f address bytes e d fits in
    let got = loaded_of e e.loaded refl model n address bytes found.1 in
    reads_by image performed (joined k.sealed ++ k.current) _ a g (λ r x t. let q = touched x address bytes t in
    ap (λ v. byte_of_number address v x) (read_is e got.0 found.0 got.1) ∙ load_byte model h items n performed (last_write image performed) (λ z. both_small image small z (last_or None (filter (stores_to z) performed))) holds k address bytes got.0 x e got.1 y.1 found.1 q.0 q.1)
value_of model image h place n f e (Stores address bytes value) d items performed bits small holds y fits k a g = reads_by image performed (joined k.sealed ++ k.current) _ a g (λ r x t. absurd (false≢true r))
value_of model image h place n f e (DoesLr address) d items performed bits small holds y fits k a g =
    let found = lr_found model n f address e d fits in
    reads_by image performed (joined k.sealed ++ k.current) _ a g (λ r x t. let q = touched x address 4 t in
    ap (λ v. byte_of_number address v x) (read_is e found.old found.no_sc found.loaded) ∙ trunk_byte model h items n performed (last_write image performed) (λ z. both_small image small z (last_or None (filter (stores_to z) performed))) holds k address found.old x y.1 (lr_alone model h items n performed f.instr address k found.free) found.trunk q.0 q.1)
value_of model image h place n f e (DoesSc address value) d items performed bits small holds y fits k a g = tried (succeeded e.sc_ok) g
  where
    tried : (b : Bool) → cond b (Some (record { hart = h; place = place; kind = Sc; address = address; size = 4; read = 0; written = value; aq = bits.acquire; rl = bits.release })) None ≡ Some a → ReadsLast image performed (joined k.sealed ++ k.current) a
    tried true g = reads_by image performed (joined k.sealed ++ k.current) _ a g (λ r x t. absurd (false≢true r))
    tried false g = none_gives image performed (joined k.sealed ++ k.current) a g
value_of model image h place n f e (DoesAmo address op operand) d items performed bits small holds y fits k a g =
    let found = amo_found model n f address op operand e d fits in
    reads_by image performed (joined k.sealed ++ k.current) _ a g (λ r x t. let q = touched x address 4 t in
    ap (λ v. byte_of_number address v x) (read_is e found.old found.no_sc found.loaded) ∙ trunk_byte model h items n performed (last_write image performed) (λ z. both_small image small z (last_or None (filter (stores_to z) performed))) holds k address found.old x y.1 (write_alone model h items n performed f.instr address k found.free) found.trunk q.0 q.1)
value_of model image h place n f e Private d items performed bits small holds y fits k a g = none_gives image performed (joined k.sealed ++ k.current) a g
value_of model image h place n f e Fences d items performed bits small holds y fits k a g = none_gives image performed (joined k.sealed ++ k.current) a g
value_of model image h place n f e (Calls number argument) d items performed bits small holds y fits k a g = none_gives image performed (joined k.sealed ++ k.current) a g
