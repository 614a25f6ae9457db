-- What a step does to the last performed write of each byte.
use Rattle.std.proofs.Common.{◌≡◌, ◌≢◌, ℕ, ◌+◌, ◌%◌, ◌<◌, List, [], ◌∷◌, ◌++◌, Bool, true, false, Option, Some, None, refl, cond, sym, ap, ◌∙◌, subst, ◌&&◌, ◌⊎◌, inl, inr, arith, length}
use Rattle.std.specs.Prelude.{nat_le, nat_lt, option_and_then, unwrap_or}
use Rattle.std.specs.List.{AllByRecursion as Each, filter, last_or}
use Rattle.std.proofs.lemmas.Bool.{and_parts, eqb-true, eq-eqb, false_from_ne_true}
use Rattle.std.proofs.lemmas.List.Elements.{filter-append}
use Rattle.elf_loader.specs.Image.{byte_at as image_byte}
use Rattle.hart.specs.declared.retired.Retired.{Retired}
use Rattle.hart.specs.Run.{at_reset, is_step, number_of as answered_number, number_read}
use Rattle.machine_model.specs.declared.act.Deed.{Deed}
use Rattle.machine_model.specs.declared.act.Deed.TheVariants as deed
use Rattle.machine_model.specs.Changing.{does, drained, next_place, retired}
use Rattle.machine_model.specs.Steps.{Fetched}
use Rattle.machine_model.specs.Views.{Node, State, node_at}
use Rattle.machine_model.specs.Words.{word_of}
use Rattle.machine_model.proofs.runs.Runs.{AllStand}
use Rattle.machine_model.proofs.order.Acts.{retired_step, retired_gave, retired_trace}
use Rattle.machine_model.proofs.order.Bytes.{byte_of, last_is}
use Rattle.machine_model.proofs.order.Deeds.{FitsDeed}
use Rattle.machine_model.proofs.order.Kept.{IsWaiting, of_word, get_new}
use Rattle.machine_model.proofs.order.Lists.{filter-filter, last_or-append, byte_from-later}
use Rattle.machine_model.proofs.order.Moves.{OrderKept, done_more, oldest_group, oldest_is, oldest_waiting, drained_out, drained_done, drained_moves}
use Rattle.machine_model.proofs.order.Rules.{touches_word}
use Rattle.machine_model.proofs.order.Split.{gave_at}
use Rattle.machine_model.proofs.order.Steps.{Performs, names_by, stores_of}
use Rattle.machine_model.proofs.order.Traces.{items_at, items_here, done, new_item, IsLonger, length-items_from}
use Rattle.machine_model.proofs.order.Values.{names_cases, nothing_named, one_named}
use Rattle.machine_types.specs.declared.model.MemoryModel.{MemoryModel}
use Rattle.memory_model.specs.declared.operation.Kind.TheVariants as kind
use Rattle.memory_model.specs.declared.operation.Operation.{Operation}
use Rattle.memory_model.specs.Items.{Item, annotations_of, operation_of_access, succeeded}
use Rattle.memory_model.specs.Operations.{byte_of_number as number_byte, stores_to, touches, writes, written_at}
use Rattle.memory_model.specs.Order.{byte_from}
use Rattle.memory_model.specs.Traces.{image_of, last_performed}
use Rattle.memory_model.proofs.Lists.{Each-weaker, filter_same, filter_none}
use Rattle.rv32_exec.specs.Amo.{combined}
use Rattle.rv32_decode.specs.Rows.{decoded}
use Rattle.rv32_decode.specs.declared.instruction.Annotations.{Annotations}
use Rattle.rv32_decode.specs.declared.instruction.Instr.{Instr}
use Rattle.rv32_exec.specs.Meaning.{Access, Private, Loads, Stores, DoesLr, DoesSc, DoesAmo, Fences, Calls, access_of}
use Rattle.store_buffer.specs.Entry.{marked_byte, entry_of}
use Rattle.store_buffer.specs.Groups.{oldest}
use Rattle.store_buffer.proofs.StoreLaws.{byte_is_last}
use Rattle.trace_recorder.specs.History.{History, entries_of}
use Rattle.trace_recorder.specs.declared.operation.OpId.{OpId}

-- behind more performed operations, a byte is that of the last of them that stores to it
pub last_more : (old new : History) (out : List Operation) (x : ℕ) → new.image ≡ old.image → done new ≡ done old ++ out → last_performed new x ≡ byte_from (last_performed old) x (last_or None (filter (stores_to x) out))
last_more old new out x i d =
    ap (λ im. byte_from (image_byte im) x (last_or None (filter (stores_to x) (done new)))) i
    ∙ (ap (λ xs. byte_from (image_of old) x (last_or None (filter (stores_to x) xs))) d
    ∙ (ap (λ xs. byte_from (image_of old) x (last_or None xs)) (filter-append (stores_to x) (done old) out)
    ∙ (ap (byte_from (image_of old) x) (last_or-append None (filter (stores_to x) (done old)) (filter (stores_to x) out))
    ∙ (byte_from-later (image_of old) x (last_or None (filter (stores_to x) (done old))) (filter (stores_to x) out) ∙ here (last_or None (filter (stores_to x) out))))))
  where
    here : (o : Option Operation) → byte_from (λ y. byte_from (image_of old) y (last_or None (filter (stores_to x) (done old)))) x o ≡ byte_from (last_performed old) x o
    here None = refl
    here (Some s) = refl

-- a byte that may be there, over what was
byte_over : (memory : ℕ → ℕ) (x : ℕ) (o : Option Operation) → byte_from memory x o ≡ unwrap_or (byte_of x o) (memory x)
byte_over memory x None = refl
byte_over memory x (Some s) = refl

and_known : (a b : Bool) → (b ≡ true → a ≡ true) → (a && b) ≡ b
and_known true b f = refl
and_known false true f = f refl
and_known false false f = refl

-- ---- drains

-- in its word a drain performs the entry's bytes
pub drained_last : (h word k : ℕ) (s : State) → h < length s.views.nodes → h < s.views.config.harts → OrderKept s → word % 4 ≡ 0 → k < 4
    → last_performed (drained h word s).trace (word + k) ≡ unwrap_or (marked_byte k (entry_of word (oldest (node_at s h).buffer))) (last_performed s.trace (word + k))
drained_last h word k s l m o aligned n =
    let q = o.each h m in
    let x = word + k in
    let g = oldest_group q.sealed q.current in
    let own = oldest_waiting s.views.config.model h (items_at s.trace h) (node_at s h).buffer (done s.trace) q in
    let same : filter (stores_to x) (drained_out word q) ≡ filter (stores_to x) g =
    filter-filter (of_word word) (stores_to x) g
    ∙ filter_same (λ a. of_word word a && stores_to x a) (stores_to x) g (Each-weaker (IsWaiting h) (λ a. (of_word word a && stores_to x a) ≡ stores_to x a)
    (λ a w. and_known (of_word word a) (stores_to x a) (λ t. let e = touches_word x a w.in_word (and_parts (writes a.kind) (touches x a) t).1 in eq-eqb (word_of a.address) word (omega (arith, e, aligned, n)))) g own) in
    let entry : marked_byte k (entry_of word (oldest (node_at s h).buffer)) ≡ byte_of x (last_or None (filter (stores_to x) g)) =
    ap (λ b. marked_byte k (entry_of word (oldest b))) q.buffer_is ∙ (ap (λ es. marked_byte k (entry_of word es)) (oldest_is q.sealed q.current) ∙ (byte_is_last word k (stores_of g) n ∙ last_is h word k g own aligned n)) in
    last_more s.trace (drained h word s).trace (drained_out word q) x (drained_moves h word s l).image (drained_done h word s l m o)
    ∙ (ap (λ xs. byte_from (last_performed s.trace) x (last_or None xs)) same
    ∙ (byte_over (last_performed s.trace) x (last_or None (filter (stores_to x) g)) ∙ ap (λ b. unwrap_or b (last_performed s.trace x)) (sym entry)))

-- elsewhere it changes nothing
pub drained_elsewhere : (h word x : ℕ) (s : State) → h < length s.views.nodes → h < s.views.config.harts → OrderKept s → word_of x ≢ word → last_performed (drained h word s).trace x ≡ last_performed s.trace x
drained_elsewhere h word x s l m o other =
    let q = o.each h m in
    let g = oldest_group q.sealed q.current in
    let own = oldest_waiting s.views.config.model h (items_at s.trace h) (node_at s h).buffer (done s.trace) q in
    let none : filter (stores_to x) (drained_out word q) ≡ [] =
    filter-filter (of_word word) (stores_to x) g
    ∙ filter_none (λ a. of_word word a && stores_to x a) g (Each-weaker (IsWaiting h) (λ a. (of_word word a && stores_to x a) ≡ false)
    (λ a w. false_from_ne_true (of_word word a && stores_to x a) (λ t. let p = and_parts (of_word word a) (stores_to x a) t in other (touches_word x a w.in_word (and_parts (writes a.kind) (touches x a) p.1).1 ∙ eqb-true (word_of a.address) word p.0))) g own) in
    last_more s.trace (drained h word s).trace (drained_out word q) x (drained_moves h word s l).image (drained_done h word s l m o)
    ∙ ap (λ xs. byte_from (last_performed s.trace) x (last_or None xs)) none

-- ---- instructions

-- the byte at x that a deed performs
abbrev pub bytes_by : Deed → ℕ → Option ℕ
bytes_by (deed.Sc word value) x = cond (nat_le word x && nat_lt x (word + 4)) (Some (number_byte word value x)) None
bytes_by (deed.Amo word value) x = cond (nat_le word x && nat_lt x (word + 4)) (Some (number_byte word value x)) None
bytes_by _ x = None

-- the byte at x that an operation wrote
abbrev bytes_if : Operation → ℕ → Option ℕ
bytes_if i x = cond (stores_to x i) (Some (written_at i x)) None

one_last : (i : Operation) (x : ℕ) → byte_of x (last_or None (filter (stores_to x) (i ∷ []))) ≡ bytes_if i x
one_last i x = go (stores_to x i)
  where
    go : (b : Bool) → byte_of x (last_or None (cond b (i ∷ []) [])) ≡ cond b (Some (written_at i x)) None
    go true = refl
    go false = refl

same_operation : (r i : Operation) → Some r ≡ Some i → r ≡ i
same_operation r i e = cc

bytes_given : (r i : Operation) (x : ℕ) (o : Option ℕ) → Some r ≡ Some i → bytes_if r x ≡ o → bytes_if i x ≡ o
bytes_given r i x o e f = subst (λ j. bytes_if j x ≡ o) (same_operation r i e) f

number_same : (word address value v x : ℕ) → word ≡ address → v ≡ value → cond (nat_le address x && nat_lt x (address + 4)) (Some (number_byte address value x)) None ≡ cond (nat_le word x && nat_lt x (word + 4)) (Some (number_byte word v x)) None
number_same word address value v x e f = rw (e, f) refl

none_not : (i : Operation) → None ≡ Some i → ⊥
none_not i e = cc

no_names : (n : OpId) → [] ≡ n ∷ [] → ⊥
no_names n e = cc

-- an operation that is performed as it retires writes what its deed says
performed_bytes : (model : MemoryModel) (h place : ℕ) (n : Node) (f : Fetched) (e : Retired) (a : Access) (d : Deed) (bits : Annotations) (i : Operation) (x : ℕ) → FitsDeed model n f a e d → operation_of_access h place bits e a ≡ Some i → (names_by h place d ≡ record { hart = h; place = place } ∷ []) → bytes_if i x ≡ bytes_by d x
performed_bytes model h place n f e (Loads address bytes) deed.Load bits i x fits g named = bytes_given _ i x None g refl
performed_bytes model h place n f e (DoesLr address) (deed.Lr word) bits i x fits g named = bytes_given _ i x None g refl
performed_bytes model h place n f e (DoesSc address value) (deed.Sc word v) bits i x fits g named =
    bytes_given (record { hart = h; place = place; kind = kind.Sc; address = address; size = 4; read = 0; written = value; aq = bits.acquire; rl = bits.release }) i x _
    (sym (ap (λ o. cond (succeeded o) (Some (record { hart = h; place = place; kind = kind.Sc; address = address; size = 4; read = 0; written = value; aq = bits.acquire; rl = bits.release })) None) fits.2) ∙ g) (number_same word address value v x fits.0 fits.1)
performed_bytes model h place n f e (DoesAmo address op operand) (deed.Amo word v) bits i x fits g named =
    bytes_given _ i x _ g (number_same word address (combined op (number_read e) operand) v x fits.0 (fits.5 ∙ ap (λ r. combined op r operand) (sym (ap (λ o. answered_number o e.loaded) fits.2 ∙ ap (answered_number None) fits.4))))
performed_bytes model h place n f e Private deed.Private bits i x fits g named = absurd (none_not i g)
performed_bytes model h place n f e (Calls number argument) deed.Private bits i x fits g named = absurd (none_not i g)
performed_bytes model h place n f e (Calls number argument) (deed.Output k) bits i x fits g named = absurd (none_not i g)
performed_bytes model h place n f e Fences deed.Private bits i x fits g named = absurd (none_not i g)
performed_bytes model h place n f e Fences deed.Seal bits i x fits g named = absurd (none_not i g)
performed_bytes model h place n f e (Stores address bytes value) (deed.Store s) bits i x fits g named = absurd (no_names _ named)
performed_bytes model h place n f e (DoesSc address value) deed.Fail bits i x fits g named = absurd (no_names _ named)
performed_bytes model h place n f e _ _ bits i x fits g named = absurd fits

-- what is performed by a deed that performs nothing
nothing_by : (h place : ℕ) (d : Deed) (x : ℕ) → names_by h place d ≡ [] → bytes_by d x ≡ None
nothing_by h place deed.Load x e = refl
nothing_by h place (deed.Lr word) x e = refl
nothing_by h place (deed.Sc word value) x e = absurd (no_names _ (sym e))
nothing_by h place (deed.Amo word value) x e = absurd (no_names _ (sym e))
nothing_by h place _ x e = refl

-- an instruction that retires performs the bytes of its deed
pub retired_last : (h : ℕ) (entry : Retired) (i : Instr) (d : Deed) (s : State) (x : ℕ) → (l : h < s.views.config.harts) → (st : AllStand s) → (step : is_step s.trace.image (node_at s h).hart entry ≡ true) → (dec : decoded entry.word ≡ Some i)
    → (f : Fetched) → (fi : f.instr ≡ i) → (fp : f.place ≡ next_place s h) → (fits : FitsDeed s.views.config.model (node_at s h) f (access_of i (node_at s h).hart.regs) entry d) → OrderKept s
    → last_performed (retired h entry i (does s.views.config.model h d s)).trace x ≡ unwrap_or (bytes_by d x) (last_performed s.trace x)
retired_last h entry i d s x l st step dec f fi fp fits o =
    let t = retired h entry i (does s.views.config.model h d s) in
    let change = retired_step h entry i d s l st step dec f fi fp fits o in
    let p = change.performs in
    last_more s.trace t.trace p.out x (retired_trace h entry i d s l st).image (done_more h (names_by h (next_place s h) d) s t change.changes p o.resolved)
    ∙ (byte_over (last_performed s.trace) x (last_or None (filter (stores_to x) p.out)) ∙ ap (λ b. unwrap_or b (last_performed s.trace x)) (by_names (names_cases h (next_place s h) d) p))
  where
    longer : IsLonger h entry s.trace (retired h entry i (does s.views.config.model h d s)).trace
    longer = retired_trace h entry i d s l st

    lt : h < length s.trace.entries
    lt = subst (λ y. h < y) (sym st.entries) l

    is_place : length (items_at s.trace h) ≡ next_place s h
    is_place = length-items_from 0 (at_reset s.trace.image h (length s.trace.entries)) (entries_of s.trace h)

    by_names : (names_by h (next_place s h) d ≡ []) ⊎ (names_by h (next_place s h) d ≡ record { hart = h; place = next_place s h } ∷ []) → (p : Performs s.views.config.model h (items_at (retired h entry i (does s.views.config.model h d s)).trace h) (node_at (retired h entry i (does s.views.config.model h d s)) h).buffer (done s.trace) (names_by h (next_place s h) d)) → byte_of x (last_or None (filter (stores_to x) p.out)) ≡ bytes_by d x
    by_names (inl e) p = ap (λ out. byte_of x (last_or None (filter (stores_to x) out))) (nothing_named p.out (p.named ∙ e)) ∙ sym (nothing_by h (next_place s h) d x e)
    by_names (inr e) p =
        let one = one_named p.out (record { hart = h; place = next_place s h }) (p.named ∙ e) in
        let found = subst (Each (λ a. gave_at (items_at s.trace h ++ new_item h entry s.trace ∷ []) a.place ≡ Some a)) one.1 (subst (λ is. Each (λ a. gave_at is a.place ≡ Some a) p.out) (items_here h entry s.trace (retired h entry i (does s.views.config.model h d s)).trace longer lt) p.found) in
        let gave : (new_item h entry s.trace).operation ≡ Some one.0 = sym (ap (option_and_then (λ (q : Item). q.operation)) (get_new (items_at s.trace h) (new_item h entry s.trace) one.0.place (ap (λ (n : OpId). n.place) one.2 ∙ sym is_place))) ∙ found.0 in
        ap (λ out. byte_of x (last_or None (filter (stores_to x) out))) one.1
        ∙ (one_last one.0 x ∙ performed_bytes s.views.config.model h (length (items_at s.trace h)) (node_at s h) f entry (access_of i (node_at s h).hart.regs) d (annotations_of f.instr) one.0 x fits (sym (retired_gave h entry i s l st dec f fi) ∙ gave)
        (ap (λ n. names_by h n d) is_place ∙ (e ∙ ap (λ n. record { hart = h; place = n } ∷ []) (sym is_place))))
