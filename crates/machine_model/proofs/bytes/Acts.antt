-- Each act keeps that the lines' last writes have the bytes that were performed last.
use Rattle.std.proofs.Common.{◌≡◌, ◌≢◌, ℕ, zero, suc, ◌+◌, ◌/◌, ◌%◌, ◌^◌, ◌<◌, List, [], ◌∷◌, Bool, true, false, Some, None, refl, cond, sym, ap, ◌∙◌, subst, ◌&&◌, arith, length}
use Rattle.std.specs.Prelude.{nat_le, nat_lt, slice_index, unwrap_or}
use Rattle.std.specs.List.{filter, last_or}
use Rattle.std.proofs.lemmas.Bool.{and_parts, false_from_ne_true, le-leb, leb-true, lt-ltb, ltb-true}
use Rattle.elf_loader.specs.Image.{byte_at as image_byte}
use Rattle.hart.specs.declared.retired.Retired.{Retired}
use Rattle.hart.specs.Run.{is_step}
use Rattle.machine_model.specs.declared.act.Act.{Act}
use Rattle.machine_model.specs.declared.act.Act.TheVariants as act
use Rattle.machine_model.specs.declared.act.Deed.{Deed}
use Rattle.machine_model.specs.declared.act.Deed.TheVariants as deed
use Rattle.machine_types.specs.declared.config.Config.{Config}
use Rattle.machine_model.specs.Changing.{acted, does, drained, next_place, retired, went_alone}
use Rattle.machine_model.specs.Events.{is_piece}
use Rattle.machine_model.specs.Steps.{Fetched}
use Rattle.machine_model.specs.Views.{Node, State, line_size, node_at}
use Rattle.machine_model.specs.Words.{bytes_of_word, word_of}
use Rattle.machine_model.proofs.bytes.Lines.{IsOf, IsWritten, same_bytes, wrote}
use Rattle.machine_model.proofs.coherence.LinePlaces.{IsPiece, piece}
use Rattle.machine_model.proofs.order.Acts.{alone_grown, retired_known, retired_step, retired_trace}
use Rattle.machine_model.proofs.order.Buffers.{KeepsBuffers, quiet_keeps}
use Rattle.machine_model.proofs.order.Bytes.{place_at as byte_in}
use Rattle.machine_model.proofs.order.Deeds.{Facts, FitsDeed}
use Rattle.machine_model.proofs.order.Events.{IsFit}
use Rattle.machine_model.proofs.order.Last.{bytes_by, drained_elsewhere, drained_last, retired_last}
use Rattle.machine_model.proofs.order.Moves.{OrderKept, done_same, drained_moves, oldest_group, oldest_is}
use Rattle.machine_model.proofs.order.Steps.{stores_of}
use Rattle.machine_model.proofs.order.Traces.{done, operations_on}
use Rattle.machine_model.proofs.runs.Runs.{AllStand}
use Rattle.machine_model.proofs.coherence.WorldEvents.{IsAligned}
use Rattle.machine_model.proofs.coherence.WorldSteps.{last_after, last_by, wrote_word}
use Rattle.machine_types.specs.declared.model.MemoryModel.{MemoryModel}
use Rattle.memory_model.specs.Operations.{byte_of_number as number_byte, stores_to}
use Rattle.memory_model.specs.Order.{byte_from}
use Rattle.memory_model.specs.Traces.{instructions, last_performed, operations_at}
use Rattle.rv32_decode.specs.Rows.{decoded}
use Rattle.rv32_decode.specs.declared.instruction.Instr.{Instr}
use Rattle.rv32_exec.specs.Meaning.{Access, DoesSc, DoesAmo, access_of}
use Rattle.store_buffer.specs.ByteMask.{is_marked, marks_of_access}
use Rattle.store_buffer.specs.Entry.{blank_entry, entry_of, joined}
use Rattle.store_buffer.specs.Groups.{oldest}
use Rattle.store_buffer.specs.Stores.{entries_of, is_to_word, merged}
use Rattle.store_buffer.specs.declared.entry.Entry.{Entry}
use Rattle.store_buffer.specs.declared.entry.Store.{Store}
use Rattle.store_buffer.proofs.StoreLaws.{entry_is_filter}
use Rattle.tl_types.specs.Line.{length_of}
use Rattle.tl_types.specs.declared.line.LineData.{LineData}
use Rattle.tl_types.specs.declared.line.LineSize.{LineSize}
use Rattle.trace_recorder.specs.History.{History}

-- each line of memory, by its last write, has the bytes that were performed last
abbrev pub Agrees : State → (ℕ → LineData) → Type 0
Agrees s last = (q : ℕ) → is_piece s.trace.image q (length_of (line_size s)) ≡ true → IsOf (line_size s) (last_performed s.trace) q (last q)

agrees_by : (s t : State) (last next : ℕ → LineData) → t.trace.image ≡ s.trace.image → t.views.config ≡ s.views.config
    → ((q : ℕ) → q % length_of (line_size s) ≡ 0 → IsOf (line_size s) (last_performed s.trace) q (last q) → IsOf (line_size s) (last_performed t.trace) q (next q)) → Agrees s last → Agrees t next
agrees_by s t last next image config f a q on =
    let size = line_size s in
    let there : is_piece s.trace.image q (length_of size) ≡ true = subst (λ im. is_piece im q (length_of size) ≡ true) image (subst (λ (c : Config). is_piece t.trace.image q (length_of c.line) ≡ true) config on) in
    let p : IsPiece s.trace.image q (length_of size) = piece s.trace.image q (length_of size) there in
    subst (λ (c : Config). IsOf c.line (last_performed t.trace) q (next q)) (sym config) (f q p.aligned (a q there))

-- ---- nothing is performed that writes

same_last : (old new : History) (x : ℕ) → new.image ≡ old.image → done new ≡ done old → last_performed new x ≡ last_performed old x
same_last old new x i d =
    ap (λ im. byte_from (image_byte im) x (last_or None (filter (stores_to x) (done new)))) i
    ∙ ap (λ xs. byte_from (image_byte old.image) x (last_or None (filter (stores_to x) xs))) d

agrees_same : (s t : State) (last : ℕ → LineData) → t.trace.image ≡ s.trace.image → t.views.config ≡ s.views.config → done t.trace ≡ done s.trace → Agrees s last → Agrees t last
agrees_same s t last image config d = agrees_by s t last last image config (λ q aligned o. same_bytes (line_size s) (last_performed s.trace) (last_performed t.trace) q (last q) (λ x. same_last s.trace t.trace x image d) o)

pub agrees_still : (s t : State) (last : ℕ → LineData) → KeepsBuffers s t → Agrees s last → Agrees t last
agrees_still s t last k = agrees_same s t last k.image k.config (done_same s.trace t.trace k.image k.entries k.performed)

alone_agrees : (h count : ℕ) (s : State) (last : ℕ → LineData) → h < s.views.config.harts → AllStand s → OrderKept s → Agrees s last → Agrees (went_alone h count s) last
alone_agrees h count s last l st o =
    let t = went_alone h count s in
    let g = alone_grown h count s l st o in
    agrees_same s t last g.image refl (ap (operations_at (instructions t.trace)) g.performed_is ∙ operations_on s.trace t.trace g.extends s.trace.performed o.resolved)

-- ---- drains

merged_room : (e : Entry) (stores : List Store) → length e.mask ≡ 4 → length e.bytes ≡ 4 → (length (merged e stores).mask ≡ 4) × (length (merged e stores).bytes ≡ 4)
merged_room e [] m b = (m, b)
merged_room e (s ∷ stores) m b = merged_room (joined s e) stores refl refl

entry_room : (word : ℕ) (stores : List Store) → (length (entry_of word (entries_of stores)).mask ≡ 4) × (length (entry_of word (entries_of stores)).bytes ≡ 4)
entry_room word stores = subst (λ (e : Entry). (length e.mask ≡ 4) × (length e.bytes ≡ 4)) (sym (entry_is_filter word stores)) (merged_room (blank_entry word) (filter (is_to_word word) stores) refl refl)

marked_or : (b : Bool) (byte v : ℕ) → unwrap_or (cond b (Some byte) None) v ≡ cond b byte v
marked_or true byte v = refl
marked_or false byte v = refl

abbrev drained_entry : ℕ → ℕ → State → Entry
drained_entry h word s = entry_of word (oldest (node_at s h).buffer)

drained_writes : (h word : ℕ) (s : State) → h < length s.views.nodes → h < s.views.config.harts → OrderKept s → word % 4 ≡ 0
    → IsWritten (last_performed s.trace) (last_performed (drained h word s).trace) word (drained_entry h word s).mask (drained_entry h word s).bytes
drained_writes h word s l m o aligned =
    let e = drained_entry h word s in
    let q = o.each h m in
    let room = subst (λ (es : List Entry). (length (entry_of word es).mask ≡ 4) × (length (entry_of word es).bytes ≡ 4)) (sym (ap oldest q.buffer_is ∙ oldest_is q.sealed q.current)) (entry_room word (stores_of (oldest_group q.sealed q.current))) in
    record {
      aligned = aligned;
      marks_room = room.0;
      bytes_room = room.1;
      here = λ k n. drained_last h word k s l m o aligned n ∙ marked_or (is_marked e.mask k) (slice_index e.bytes k) (last_performed s.trace (word + k));
      there = λ x other. drained_elsewhere h word x s l m o other;
    }

drained_agrees : (h word : ℕ) (s : State) (last : ℕ → LineData) → h < length s.views.nodes → h < s.views.config.harts → OrderKept s → word % 4 ≡ 0 → Agrees s last → Agrees (drained h word s) (last_after s h (act.Drain word) last)
drained_agrees h word s last l m o aligned =
    let e = drained_entry h word s in
    let t = drained h word s in
    let mv = drained_moves h word s l in
    agrees_by s t last (wrote_word (line_size s) last word e.mask e.bytes) mv.image mv.config
    (λ q on is. wrote (line_size s) (last_performed s.trace) (last_performed t.trace) word e.mask e.bytes (drained_writes h word s l m o aligned) last q on is)

-- ---- instructions

-- a deed's word is aligned
abbrev pub IsAlignedDeed : Deed → Type 0
IsAlignedDeed (deed.Sc word value) = word % 4 ≡ 0
IsAlignedDeed (deed.Amo word value) = word % 4 ≡ 0
IsAlignedDeed _ = Unit {0}

pub deed_aligned : (model : MemoryModel) (n : Node) (f : Fetched) (e : Retired) (a : Access) (d : Deed) → Facts f.instr a → FitsDeed model n f a e d → IsAlignedDeed d
deed_aligned model n f e (DoesSc address value) (deed.Sc word v) x fits = ap (λ w. w % 4) fits.0 ∙ x.1
deed_aligned model n f e (DoesAmo address op operand) (deed.Amo word v) x fits = ap (λ w. w % 4) fits.0 ∙ x.1
deed_aligned model n f e a deed.Private x fits = tt
deed_aligned model n f e a (deed.Output k) x fits = tt
deed_aligned model n f e a deed.Load x fits = tt
deed_aligned model n f e a (deed.Store s) x fits = tt
deed_aligned model n f e a deed.Seal x fits = tt
deed_aligned model n f e a (deed.Lr word) x fits = tt
deed_aligned model n f e a deed.Fail x fits = tt
deed_aligned model n f e _ _ x fits = absurd fits

-- a number's bytes in its word
module _ (memory later : ℕ → ℕ) (word value : ℕ) (aligned : word % 4 ≡ 0) (f : (x : ℕ) → later x ≡ unwrap_or (cond (nat_le word x && nat_lt x (word + 4)) (Some (number_byte word value x)) None) (memory x)) where
  by_test : (x : ℕ) (b : Bool) → (nat_le word x && nat_lt x (word + 4)) ≡ b → later x ≡ cond b (number_byte word value x) (memory x)
  by_test x b e = f x ∙ (ap (λ t. unwrap_or (cond t (Some (number_byte word value x)) None) (memory x)) e ∙ marked_or b (number_byte word value x) (memory x))

  inside : (k : ℕ) → k < 4 → (nat_le word (word + k) && nat_lt (word + k) (word + 4)) ≡ true
  inside k l = rw (le-leb word (word + k) (omega arith), lt-ltb (word + k) (word + 4) (omega (arith, l))) refl

  outside : (x : ℕ) → word_of x ≢ word → (nat_le word x && nat_lt x (word + 4)) ≡ false
  outside x other = false_from_ne_true _ (λ e. let p = and_parts (nat_le word x) (nat_lt x (word + 4)) e in let low = leb-true word x p.0 in let high = ltb-true x (word + 4) p.1 in other (omega (arith, aligned, low, high)))

  all_marked : (k : ℕ) → k < 4 → is_marked (marks_of_access 0 4) k ≡ true
  all_marked zero l = refl
  all_marked (suc zero) l = refl
  all_marked (suc (suc zero)) l = refl
  all_marked (suc (suc (suc zero))) l = refl
  all_marked (suc (suc (suc (suc k)))) l = absurd (omega (arith, l))

  number_writes : IsWritten memory later word (marks_of_access 0 4) (bytes_of_word value)
  number_writes = record {
    aligned = aligned;
    marks_room = refl;
    bytes_room = refl;
    here = λ k l. by_test (word + k) true (inside k l)
        ∙ (ap (λ p. value / 256 ^ p % 256) (omega arith)
        ∙ sym (ap (λ b. cond b (slice_index (bytes_of_word value) k) (memory (word + k))) (all_marked k l) ∙ byte_in (λ p. value / 256 ^ p % 256) k l));
    there = λ x other. by_test x false (outside x other);
  }

deed_wrote : (size : LineSize) (memory later : ℕ → ℕ) (last : ℕ → LineData) (d : Deed) → IsAlignedDeed d → ((x : ℕ) → later x ≡ unwrap_or (bytes_by d x) (memory x)) → (q : ℕ) → q % length_of size ≡ 0 → IsOf size memory q (last q) → IsOf size later q (last_by size d last q)
deed_wrote size memory later last (deed.Sc word value) aligned f q on is = wrote size memory later word (marks_of_access 0 4) (bytes_of_word value) (number_writes memory later word value aligned f) last q on is
deed_wrote size memory later last (deed.Amo word value) aligned f q on is = wrote size memory later word (marks_of_access 0 4) (bytes_of_word value) (number_writes memory later word value aligned f) last q on is
deed_wrote size memory later last deed.Private aligned f q on is = same_bytes size memory later q (last q) f is
deed_wrote size memory later last (deed.Output k) aligned f q on is = same_bytes size memory later q (last q) f is
deed_wrote size memory later last deed.Load aligned f q on is = same_bytes size memory later q (last q) f is
deed_wrote size memory later last (deed.Store s) aligned f q on is = same_bytes size memory later q (last q) f is
deed_wrote size memory later last deed.Seal aligned f q on is = same_bytes size memory later q (last q) f is
deed_wrote size memory later last (deed.Lr word) aligned f q on is = same_bytes size memory later q (last q) f is
deed_wrote size memory later last deed.Fail aligned f q on is = same_bytes size memory later q (last q) f is

retired_agrees : (h : ℕ) (entry : Retired) (i : Instr) (d : Deed) (s : State) (last : ℕ → LineData) → h < s.views.config.harts → AllStand s → is_step s.trace.image (node_at s h).hart entry ≡ true → decoded entry.word ≡ Some i
    → (f : Fetched) → f.instr ≡ i → f.place ≡ next_place s h → FitsDeed s.views.config.model (node_at s h) f (access_of i (node_at s h).hart.regs) entry d → OrderKept s → Agrees s last → Agrees (retired h entry i (does s.views.config.model h d s)) (last_by (line_size s) d last)
retired_agrees h entry i d s last l st step dec f fi fp fits o =
    let t = retired h entry i (does s.views.config.model h d s) in
    let aligned = deed_aligned s.views.config.model (node_at s h) f entry (access_of i (node_at s h).hart.regs) d (retired_known h entry i s step dec f fi) fits in
    agrees_by s t last (last_by (line_size s) d last) (retired_trace h entry i d s l st).image (retired_step h entry i d s l st step dec f fi fp fits o).changes.config
    (deed_wrote (line_size s) (last_performed s.trace) (last_performed t.trace) last d aligned (λ x. retired_last h entry i d s x l st step dec f fi fp fits o))

-- ---- any act

pub acted_agrees : (h : ℕ) (a : Act) (s : State) (last : ℕ → LineData) → h < s.views.config.harts → AllStand s → IsFit s h a → IsAligned a → OrderKept s → Agrees s last → Agrees (acted h a s) (last_after s h a last)
acted_agrees h (act.Retire e i d) s last l st p w o = retired_agrees h e i d s last l st p.0 p.1 p.2 p.3 p.4 p.5 o
acted_agrees h (act.Drain word) s last l st p w o = drained_agrees h word s last (subst (λ n. h < n) (sym st.nodes) l) l o w
acted_agrees h (act.Local count) s last l st p w o = alone_agrees h count s last l st o
acted_agrees h a s last l st p w o = agrees_still s _ last (quiet_keeps h a s tt)
