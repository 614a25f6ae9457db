-- Each event keeps what is kept of the harts' waiting stores.
use Rattle.std.proofs.Common.{◌≡◌, ◌≢◌, ℕ, zero, suc, ◌<◌, List, [], ◌∷◌, ◌++◌, Bool, true, false, Option, Some, None, refl, cond, sym, ap, ◌∙◌, subst, ◌&&◌, append-nil, length, slice_index_or, slice_set}
use Rattle.std.specs.Prelude.{is_none}
use Rattle.std.proofs.lemmas.Bool.{false≢true, and_parts}
use Rattle.std.proofs.lemmas.List.{length-set, get_or-set_same}
use Rattle.elf_loader.specs.Image.{Initial, word_at}
use Rattle.hart.specs.declared.retired.Retired.{Retired}
use Rattle.hart.specs.declared.state.Hart.{Hart}
use Rattle.hart.specs.declared.status.Status.{Status}
use Rattle.hart.specs.declared.status.Status.TheVariants.{Running, Stopped, Exited}
use Rattle.hart.specs.Local.{private_row, next_entry, can_go_alone, is_done_alone, is_private}
use Rattle.hart.specs.Run as run
use Rattle.hart.specs.Run.{after, after_instr, at_reset, can_fetch, is_step, is_running, next_stop, reached}
use Rattle.hart.proofs.Endings.{reached-append, step_does}
use Rattle.machine_model.specs.declared.act.Deed.{Deed}
use Rattle.machine_model.specs.Changing.{does, next_place, retired, with_halt, with_entries, went_alone}
use Rattle.machine_model.specs.Steps.{Fetched}
use Rattle.machine_model.specs.Views.{Node, State, node_at, with_node, with_trace, opening_node}
use Rattle.machine_model.proofs.runs.Runs.{AllStand}
use Rattle.machine_model.proofs.order.Buffers.{Moves, node_keeps, does_moves}
use Rattle.machine_model.proofs.order.Deeds.{FitsDeed, Facts, NoFence, facts}
use Rattle.machine_model.proofs.order.Moves.{OrderKept, Changes, Step, step_kept, performs_same}
use Rattle.machine_model.proofs.order.Split.{ops_of, ops_same}
use Rattle.machine_model.proofs.order.Steps.{HartKept, Performs, IsNew, buffer_by, names_by, deed_keeps, keeps_plain, performs_none}
use Rattle.machine_model.proofs.order.Traces.{items_at, done, Extends, IsLonger, new_item, items_here, items_there, extends_longer, length-items_from, id-reached}
use Rattle.machine_types.specs.declared.model.MemoryModel.{MemoryModel}
use Rattle.memory_model.specs.declared.operation.Operation.{Operation}
use Rattle.memory_model.specs.Items.{annotations_of, operation_of_entry, operation_of_access}
use Rattle.rv32_decode.specs.Rows.{decoded}
use Rattle.rv32_decode.specs.declared.instruction.Instr.{Instr}
use Rattle.rv32_exec.specs.Meaning.{Access, Private, Loads, Stores, DoesLr, DoesSc, DoesAmo, Fences, Calls, access_of, effect_of, stop_of}
use Rattle.rv32_exec.specs.Registers.{after_write}
use Rattle.store_buffer.specs.Groups.{Groups}
use Rattle.trace_recorder.specs.History.{History, entries_of, with_entry}

-- ---- halts and traces

pub image-with_halt : (h : ℕ) (status : Status) (t : History) → (with_halt h status t).image ≡ t.image
image-with_halt h Running t = refl
image-with_halt h (Stopped code) t = refl
image-with_halt h (Exited code) t = refl

entries-with_halt : (h : ℕ) (status : Status) (t : History) → (with_halt h status t).entries ≡ t.entries
entries-with_halt h Running t = refl
entries-with_halt h (Stopped code) t = refl
entries-with_halt h (Exited code) t = refl

performed-with_halt : (h : ℕ) (status : Status) (t : History) → (with_halt h status t).performed ≡ t.performed
performed-with_halt h Running t = refl
performed-with_halt h (Stopped code) t = refl
performed-with_halt h (Exited code) t = refl

pub node-with_trace : (u : State) (t : History) (k : ℕ) → t.image ≡ u.trace.image → node_at (with_trace t u) k ≡ node_at u k
node-with_trace u t k e = ap (λ (i : Initial). slice_index_or u.views.nodes k (opening_node i u.views.config 0)) e

-- ---- the hart that a list leads to

here_regs : (s : State) (h : ℕ) → h < s.views.config.harts → AllStand s → (reached (at_reset s.trace.image h (length s.trace.entries)) (entries_of s.trace h)).regs ≡ (node_at s h).hart.regs
here_regs s h l a =
    ap (λ n. (reached (at_reset s.trace.image h n) (entries_of s.trace h)).regs) a.entries ∙ sym (ap (λ (x : Hart). x.regs) (a.each h l).here)

here_pc : (s : State) (h : ℕ) → h < s.views.config.harts → AllStand s → (reached (at_reset s.trace.image h (length s.trace.entries)) (entries_of s.trace h)).pc ≡ (node_at s h).hart.pc
here_pc s h l a =
    ap (λ n. (reached (at_reset s.trace.image h n) (entries_of s.trace h)).pc) a.entries ∙ sym (ap (λ (x : Hart). x.pc) (a.each h l).here)

none_is : {X : Type 0} (o : Option X) → is_none o ≡ true → o ≡ None
none_is None e = refl
none_is (Some x) e = absurd (false≢true e)

-- ---- an instruction retires

-- what a retiring instruction gives, at a place of the list of the hart h with these registers
gives_there : (h place : ℕ) (r : Hart) (entry : Retired) (i : Instr) (regs : List ℕ) → r.id ≡ h → r.regs ≡ regs → decoded entry.word ≡ Some i → operation_of_entry place r entry (decoded entry.word) ≡ operation_of_access h place (annotations_of i) entry (access_of i regs)
gives_there h place r entry i regs e f d =
    ap (operation_of_entry place r entry) d ∙ (ap (λ k. operation_of_access k place (annotations_of i) entry (access_of i r.regs)) e ∙ ap (λ x. operation_of_access h place (annotations_of i) entry (access_of i x)) f)

-- the trace after it
retired_longer : (h : ℕ) (entry : Retired) (status : Status) (old new : History) → new.image ≡ old.image → new.entries ≡ old.entries → IsLonger h entry old (with_halt h status (with_entry h entry new))
retired_longer h entry status old new i e = record {
  image = image-with_halt h status (with_entry h entry new) ∙ i;
  entries = entries-with_halt h status (with_entry h entry new) ∙ ap (λ es. slice_set es h (slice_index_or es h [] ++ entry ∷ [])) e;
}

-- what is known of its access
pub retired_known : (h : ℕ) (entry : Retired) (i : Instr) (s : State) → is_step s.trace.image (node_at s h).hart entry ≡ true → decoded entry.word ≡ Some i → (f : Fetched) → f.instr ≡ i → Facts f.instr (access_of i (node_at s h).hart.regs)
retired_known h entry i s step dec f fi =
    subst (λ j. Facts j (access_of i (node_at s h).hart.regs)) (sym fi) (facts i (node_at s h).hart.pc (node_at s h).hart.regs (length s.trace.image.bytes)
    (none_is (stop_of i (node_at s h).hart.pc (node_at s h).hart.regs (length s.trace.image.bytes)) (and_parts (is_none (stop_of i (node_at s h).hart.pc (node_at s h).hart.regs (length s.trace.image.bytes))) _
    (subst (λ q. run.can_do (length s.trace.image.bytes) (node_at s h).hart entry q ≡ true) dec (step_does s.trace.image (node_at s h).hart entry step))).0))

-- what it gives
pub retired_gave : (h : ℕ) (entry : Retired) (i : Instr) (s : State) → h < s.views.config.harts → AllStand s → decoded entry.word ≡ Some i → (f : Fetched) → f.instr ≡ i → (new_item h entry s.trace).operation ≡ operation_of_access h (length (items_at s.trace h)) (annotations_of f.instr) entry (access_of i (node_at s h).hart.regs)
retired_gave h entry i s l a dec f fi =
    gives_there h (length (entries_of s.trace h)) (reached (at_reset s.trace.image h (length s.trace.entries)) (entries_of s.trace h)) entry i (node_at s h).hart.regs
    (id-reached (at_reset s.trace.image h (length s.trace.entries)) (entries_of s.trace h)) (here_regs s h l a) dec
    ∙ (ap (λ p. operation_of_access h p (annotations_of i) entry (access_of i (node_at s h).hart.regs)) (sym (length-items_from 0 (at_reset s.trace.image h (length s.trace.entries)) (entries_of s.trace h)))
    ∙ ap (λ j. operation_of_access h (length (items_at s.trace h)) (annotations_of j) entry (access_of i (node_at s h).hart.regs)) (sym fi))

-- the trace behind it
pub retired_trace : (h : ℕ) (entry : Retired) (i : Instr) (d : Deed) (s : State) → h < s.views.config.harts → AllStand s → IsLonger h entry s.trace (retired h entry i (does s.views.config.model h d s)).trace
retired_trace h entry i d s l a =
    let mv = does_moves s.views.config.model h d s (subst (λ x. h < x) (sym a.nodes) l) in retired_longer h entry _ s.trace (does s.views.config.model h d s).trace mv.image mv.entries

pub retired_step : (h : ℕ) (entry : Retired) (i : Instr) (d : Deed) (s : State) → h < s.views.config.harts → AllStand s → is_step s.trace.image (node_at s h).hart entry ≡ true → decoded entry.word ≡ Some i
    → (f : Fetched) → f.instr ≡ i → f.place ≡ next_place s h → FitsDeed s.views.config.model (node_at s h) f (access_of i (node_at s h).hart.regs) entry d
    → OrderKept s → Step h (names_by h (next_place s h) d) s (retired h entry i (does s.views.config.model h d s))
retired_step h entry i d s l a step dec f fi fp fits o =
    let model = s.views.config.model in
    let n = node_at s h in
    let start = at_reset s.trace.image h (length s.trace.entries) in
    let items = items_at s.trace h in
    let m = new_item h entry s.trace in
    let t = retired h entry i (does s.views.config.model h d s) in
    record {
      changes = changes;
      performs = performs_same model h (items ++ m ∷ []) (items_at t.trace h) (buffer_by model d n.buffer) (node_at t h).buffer (done s.trace) (names_by h (next_place s h) d) (items_here h entry s.trace t.trace longer l') here
          (subst (λ p. Performs model h (items ++ m ∷ []) (buffer_by model d n.buffer) (done s.trace) (names_by h p d)) (length-items_from 0 start (entries_of s.trace h)) kept);
    }
  where
    ln : h < length s.views.nodes
    ln = subst (λ x. h < x) (sym a.nodes) l

    l' : h < length s.trace.entries
    l' = subst (λ x. h < x) (sym a.entries) l

    mv : Moves h (buffer_by s.views.config.model d (node_at s h).buffer) (names_by h (next_place s h) d) s (does s.views.config.model h d s)
    mv = does_moves s.views.config.model h d s ln

    longer : IsLonger h entry s.trace (retired h entry i (does s.views.config.model h d s)).trace
    longer = retired_longer h entry _ s.trace (does s.views.config.model h d s).trace mv.image mv.entries

    buffers : (k : ℕ) → (node_at (retired h entry i (does s.views.config.model h d s)) k).buffer ≡ (node_at (does s.views.config.model h d s) k).buffer
    buffers k =
        let u = with_node h (record (node_at (does s.views.config.model h d s) h) { hart = after_instr (node_at (does s.views.config.model h d s) h).hart entry (Some i) }) (does s.views.config.model h d s) in
        ap (λ (x : Node). x.buffer) (node-with_trace u (retired h entry i (does s.views.config.model h d s)).trace k (image-with_halt h _ (with_entry h entry (does s.views.config.model h d s).trace)))
        ∙ (node_keeps h (record (node_at (does s.views.config.model h d s) h) { hart = after_instr (node_at (does s.views.config.model h d s) h).hart entry (Some i) }) (does s.views.config.model h d s) refl).buffers k

    here : (node_at (retired h entry i (does s.views.config.model h d s)) h).buffer ≡ buffer_by s.views.config.model d (node_at s h).buffer
    here = buffers h ∙ mv.here

    changes : Changes h (names_by h (next_place s h) d) s (retired h entry i (does s.views.config.model h d s))
    changes = record {
      config = mv.config;
      performed = performed-with_halt h _ (with_entry h entry (does s.views.config.model h d s).trace) ∙ mv.performed;
      extends = extends_longer h entry s.trace (retired h entry i (does s.views.config.model h d s)).trace longer l';
      items = items_there h entry s.trace (retired h entry i (does s.views.config.model h d s)).trace longer;
      buffers = λ k x. buffers k ∙ mv.there k x;
    }

    new : IsNew h (items_at s.trace h) (new_item h entry s.trace) f.instr
    new = record { place_is = sym (length-items_from 0 (at_reset s.trace.image h (length s.trace.entries)) (entries_of s.trace h)); instr_is = dec ∙ ap Some (sym fi) }

    kept : Performs s.views.config.model h (items_at s.trace h ++ new_item h entry s.trace ∷ []) (buffer_by s.views.config.model d (node_at s h).buffer) (done s.trace) (names_by h (length (items_at s.trace h)) d)
    kept =
        deed_keeps s.views.config.model h (node_at s h) f entry (access_of i (node_at s h).hart.regs) d (items_at s.trace h) (done s.trace) (new_item h entry s.trace) new
        (fp ∙ sym (length-items_from 0 (at_reset s.trace.image h (length s.trace.entries)) (entries_of s.trace h))) (retired_gave h entry i s l a dec f fi) (retired_known h entry i s step dec f fi) fits (o.each h l)

pub retired_kept : (h : ℕ) (entry : Retired) (i : Instr) (d : Deed) (s : State) → h < s.views.config.harts → AllStand s → is_step s.trace.image (node_at s h).hart entry ≡ true → decoded entry.word ≡ Some i
    → (f : Fetched) → f.instr ≡ i → f.place ≡ next_place s h → FitsDeed s.views.config.model (node_at s h) f (access_of i (node_at s h).hart.regs) entry d
    → OrderKept s → OrderKept (retired h entry i (does s.views.config.model h d s))
retired_kept h entry i d s l a step dec f fi fp fits o = step_kept h (names_by h (next_place s h) d) s (retired h entry i (does s.views.config.model h d s)) (retired_step h entry i d s l a step dec f fi fp fits o) o

-- ---- private instructions retire

-- registers and pc of the hart that a list leads to
pub record LeadsTo (h : ℕ) (hart : Hart) (t : History) : Type 0 where
  pub regs : (reached (at_reset t.image h (length t.entries)) (entries_of t h)).regs ≡ hart.regs
  pub pc : (reached (at_reset t.image h (length t.entries)) (entries_of t h)).pc ≡ hart.pc

-- a trace whose list of the hart h has grown
pub record Grown (model : MemoryModel) (h : ℕ) (buffer : Groups) (performed : List Operation) (old new : History) : Type 0 where
  pub image : new.image ≡ old.image
  pub performed_is : new.performed ≡ old.performed
  pub extends : Extends old new
  pub operations : ops_of (items_at new h) ≡ ops_of (items_at old h)
  pub there : (k : ℕ) → k ≢ h → items_at new k ≡ items_at old k
  pub here : HartKept model h (items_at new h) buffer performed

private_plain : (i : Instr) (pc : ℕ) (regs : List ℕ) (a : Access) → access_of i regs ≡ a → is_private a ≡ true → stop_of i pc regs 0 ≡ None → NoFence i × (a ≡ Private)
private_plain i pc regs Private e p s = (subst (Facts i) e (facts i pc regs 0 s), refl)
private_plain i pc regs (Loads address bytes) e p s = absurd (false≢true p)
private_plain i pc regs (Stores address bytes value) e p s = absurd (false≢true p)
private_plain i pc regs (DoesLr address) e p s = absurd (false≢true p)
private_plain i pc regs (DoesSc address value) e p s = absurd (false≢true p)
private_plain i pc regs (DoesAmo address op operand) e p s = absurd (false≢true p)
private_plain i pc regs Fences e p s = absurd (false≢true p)
private_plain i pc regs (Calls number argument) e p s = absurd (false≢true p)

-- the hart after an instruction, by registers and pc
after_same : (i : Instr) (r hart : Hart) (entry : Retired) → r.regs ≡ hart.regs → r.pc ≡ hart.pc → ((after_instr r entry (Some i)).regs ≡ (after_instr hart entry (Some i)).regs) × ((after_instr r entry (Some i)).pc ≡ (after_instr hart entry (Some i)).pc)
after_same i r hart entry e f = (
  ap (λ x. after_write x (effect_of i r.pc x (run.number_read entry)).written) e ∙ ap (λ p. after_write hart.regs (effect_of i p hart.regs (run.number_read entry)).written) f,
  ap (λ x. (effect_of i r.pc x (run.number_read entry)).next) e ∙ ap (λ p. (effect_of i p hart.regs (run.number_read entry)).next) f,
)

alone_gave : (h : ℕ) (hart : Hart) (t : History) (i : Instr) → LeadsTo h hart t → decoded (word_at t.image hart.pc) ≡ Some i → is_done_alone hart (Some i) ≡ true → (new_item h (next_entry t.image hart) t).operation ≡ None
alone_gave h hart t i leads dec alone =
    let p = and_parts (is_private (access_of i hart.regs)) (is_none (stop_of i hart.pc hart.regs 0)) alone in
    let q = private_plain i hart.pc hart.regs (access_of i hart.regs) refl p.0 (none_is _ p.1) in
    let start = at_reset t.image h (length t.entries) in
    gives_there h (length (entries_of t h)) (reached start (entries_of t h)) (next_entry t.image hart) i hart.regs (id-reached start (entries_of t h)) leads.regs dec ∙ ap (operation_of_access h (length (entries_of t h)) (annotations_of i) (next_entry t.image hart)) q.1

one_alone : (model : MemoryModel) (h : ℕ) (hart : Hart) (t : History) (buffer : Groups) (performed : List Operation) (i : Instr) → LeadsTo h hart t → decoded (word_at t.image hart.pc) ≡ Some i → is_done_alone hart (Some i) ≡ true → HartKept model h (items_at t h) buffer performed → HartKept model h (items_at t h ++ new_item h (next_entry t.image hart) t ∷ []) buffer performed
one_alone model h hart t buffer performed i leads dec alone k =
    let p = and_parts (is_private (access_of i hart.regs)) (is_none (stop_of i hart.pc hart.regs 0)) alone in
    let q = private_plain i hart.pc hart.regs (access_of i hart.regs) refl p.0 (none_is _ p.1) in
    let start = at_reset t.image h (length t.entries) in
    keeps_plain model h (items_at t h) buffer performed (new_item h (next_entry t.image hart) t) i (record { place_is = sym (length-items_from 0 start (entries_of t h)); instr_is = dec }) q.0 (alone_gave h hart t i leads dec alone) k

next_leads : (h : ℕ) (hart : Hart) (t : History) (entry : Retired) (i : Instr) → h < length t.entries → decoded entry.word ≡ Some i → LeadsTo h hart t → LeadsTo h (after hart entry) (with_entry h entry t)
next_leads h hart t entry i l dec k =
    let start = at_reset t.image h (length t.entries) in
    let r = reached start (entries_of t h) in
    let step : reached (at_reset t.image h (length (with_entry h entry t).entries)) (entries_of (with_entry h entry t) h) ≡ after_instr r entry (Some i) =
    ap (λ n. reached (at_reset t.image h n) (entries_of (with_entry h entry t) h)) (length-set t.entries h (entries_of t h ++ entry ∷ []))
    ∙ (ap (reached start) (get_or-set_same t.entries h (entries_of t h ++ entry ∷ []) [] l) ∙ (reached-append start (entries_of t h) (entry ∷ []) ∙ ap (after_instr r entry) dec)) in
    let same = after_same i r hart entry k.regs k.pc in
    record {
      regs = ap (λ (x : Hart). x.regs) step ∙ (same.0 ∙ ap (λ (x : Hart). x.regs) (sym (ap (after_instr hart entry) dec)));
      pc = ap (λ (x : Hart). x.pc) step ∙ (same.1 ∙ ap (λ (x : Hart). x.pc) (sym (ap (after_instr hart entry) dec)));
    }

-- what a row of so many instructions leaves, of any hart and trace
abbrev RowKept : MemoryModel → ℕ → ℕ → Initial → Groups → List Operation → Type 0
RowKept model h count image buffer performed = (hart : Hart) (t : History) → t.image ≡ image → h < length t.entries → LeadsTo h hart t → HartKept model h (items_at t h) buffer performed → Grown model h buffer performed t (with_entries h (private_row image hart count) t)

row_next : (model : MemoryModel) (h count : ℕ) (image : Initial) (buffer : Groups) (performed : List Operation) → RowKept model h count image buffer performed → RowKept model h (suc count) image buffer performed
row_next model h count image buffer performed ih hart t e l leads k = go (can_go_alone image hart) refl
  where
    longer : IsLonger h (next_entry image hart) t (with_entry h (next_entry image hart) t)
    longer = record { image = refl; entries = refl }

    grow : (o : Option Instr) → decoded (word_at image hart.pc) ≡ o → is_done_alone hart o ≡ true → Grown model h buffer performed t (with_entries h (private_row image (after hart (next_entry image hart)) count) (with_entry h (next_entry image hart) t))
    grow None dec alone = absurd (false≢true alone)
    grow (Some i) dec alone =
        let one = subst (λ (im : Initial). HartKept model h (items_at t h ++ new_item h (next_entry im hart) t ∷ []) buffer performed) e (one_alone model h hart t buffer performed i leads (subst (λ (im : Initial). decoded (word_at im hart.pc) ≡ Some i) (sym e) dec) alone k) in
        let l2 : h < length (with_entry h (next_entry image hart) t).entries = subst (λ n. h < n) (sym (length-set t.entries h (entries_of t h ++ next_entry image hart ∷ []))) l in
        let g = ih (after hart (next_entry image hart)) (with_entry h (next_entry image hart) t) e l2 (next_leads h hart t (next_entry image hart) i l dec leads)
        (subst (λ is. HartKept model h is buffer performed) (sym (items_here h (next_entry image hart) t (with_entry h (next_entry image hart) t) longer l)) one) in
        record {
          image = g.image;
          performed_is = g.performed_is;
          extends = λ j p a f. g.extends j p a (extends_longer h (next_entry image hart) t (with_entry h (next_entry image hart) t) longer l j p a f);
          operations = g.operations ∙ (ap ops_of (items_here h (next_entry image hart) t (with_entry h (next_entry image hart) t) longer l) ∙ ops_same (items_at t h) (new_item h (next_entry image hart) t) (subst (λ (im : Initial). (new_item h (next_entry im hart) t).operation ≡ None) e (alone_gave h hart t i leads (subst (λ (im : Initial). decoded (word_at im hart.pc) ≡ Some i) (sym e) dec) alone)));
          there = λ j d. g.there j d ∙ items_there h (next_entry image hart) t (with_entry h (next_entry image hart) t) longer j d;
          here = g.here;
        }

    go : (b : Bool) → can_go_alone image hart ≡ b → Grown model h buffer performed t (with_entries h (cond b (next_entry image hart ∷ private_row image (after hart (next_entry image hart)) count) []) t)
    go false f = record { image = refl; performed_is = refl; extends = λ j p a f. f; operations = refl; there = λ j d. refl; here = k }
    go true f = grow (decoded (word_at image hart.pc)) refl (and_parts (is_running hart.status && can_fetch image hart.pc) (is_done_alone hart (decoded (word_at image hart.pc))) f).1

row_kept : (model : MemoryModel) (h count : ℕ) (image : Initial) (buffer : Groups) (performed : List Operation) → RowKept model h count image buffer performed
row_kept model h zero image buffer performed = λ hart t e l leads k. record { image = refl; performed_is = refl; extends = λ j p a f. f; operations = refl; there = λ j d. refl; here = k }
row_kept model h (suc count) image buffer performed = row_next model h count image buffer performed (row_kept model h count image buffer performed)

pub alone_grown : (h count : ℕ) (s : State) → h < s.views.config.harts → AllStand s → OrderKept s → Grown s.views.config.model h (node_at s h).buffer (done s.trace) s.trace (went_alone h count s).trace
alone_grown h count s l a o =
    row_kept s.views.config.model h count s.trace.image (node_at s h).buffer (done s.trace) (node_at s h).hart s.trace refl (subst (λ x. h < x) (sym a.entries) l) (record { regs = here_regs s h l a; pc = here_pc s h l a }) (o.each h l)

alone_buffers : (h count : ℕ) (s : State) → (went_alone h count s).trace.image ≡ s.trace.image → (k : ℕ) → (node_at (went_alone h count s) k).buffer ≡ (node_at s k).buffer
alone_buffers h count s e k =
    let n = record (node_at s h) { hart = reached (node_at s h).hart (private_row s.trace.image (node_at s h).hart count) } in
    ap (λ (x : Node). x.buffer) (node-with_trace (with_node h n s) (went_alone h count s).trace k e) ∙ (node_keeps h n s refl).buffers k

pub alone_step : (h count : ℕ) (s : State) → h < s.views.config.harts → AllStand s → OrderKept s → Step h [] s (went_alone h count s)
alone_step h count s l a o =
    let g = alone_grown h count s l a o in
    let buffers = alone_buffers h count s g.image in
    record {
      changes = record { config = refl; performed = g.performed_is ∙ sym (append-nil s.trace.performed); extends = g.extends; items = g.there; buffers = λ k d. buffers k };
      performs = subst (λ b. Performs s.views.config.model h (items_at (went_alone h count s).trace h) b (done s.trace) []) (sym (buffers h)) (performs_none s.views.config.model h (items_at (went_alone h count s).trace h) (node_at s h).buffer (done s.trace) g.here);
    }

pub alone_kept : (h count : ℕ) (s : State) → h < s.views.config.harts → AllStand s → OrderKept s → OrderKept (went_alone h count s)
alone_kept h count s l a o = step_kept h [] s (went_alone h count s) (alone_step h count s l a o) o
