-- Each hart's list is a run of the image, with its status.
use Rattle.std.proofs.Common.{◌≡◌, ◌≢◌, ℕ, suc, ◌+◌, ◌<◌, ◌⊎◌, inl, inr, List, [], ◌∷◌, ◌++◌, Bool, true, false, Some, refl, cond, sym, ap, ◌∙◌, subst, length, slice_index_or, slice_set, arith}
use Rattle.std.specs.Prelude.{nat_eq}
use Rattle.std.proofs.lemmas.Bool.{false≢true, and_from, eq-eqb}
use Rattle.std.proofs.lemmas.Bool.Decides.{eqb_tells}
use Rattle.std.proofs.lemmas.List.{length-set, get_or-set_same, get_or-set_other, set-get_or, set-set, append-nil, append_assoc, length-replicate, get_or-replicate}
use Rattle.std.proofs.lemmas.List.FromFn.{get_or-map-range_with_len, length-map-range_with_len}
use Rattle.elf_loader.specs.Image.{Initial}
use Rattle.hart.specs.declared.retired.Retired.{Retired}
use Rattle.hart.specs.declared.state.Hart.{Hart}
use Rattle.hart.specs.declared.status.Status.{Status}
use Rattle.hart.specs.declared.status.Status.TheVariants.{Running, Stopped, Exited}
use Rattle.hart.specs.Local.{private_row}
use Rattle.hart.specs.Run.{after, after_instr, are_steps, at_reset, is_code, is_running, is_run, is_step, next_stop, reached, status_fits, status_after}
use Rattle.hart.proofs.Alone.{row-steps, row-running}
use Rattle.hart.proofs.Endings.{reached-append, are_steps-append, step_runs}
use Rattle.machine_model.specs.declared.act.Act.{Act}
use Rattle.machine_model.specs.declared.act.Act.TheVariants as act
use Rattle.machine_types.specs.declared.config.Config.{Config}
use Rattle.machine_types.specs.declared.event.Event.{Event}
use Rattle.machine_model.specs.Changing.{acted, does, retired, stopped, with_halt, with_entries, went_alone}
use Rattle.machine_model.specs.Events.{counted, happens, after_events, hart_of}
use Rattle.machine_model.specs.Laws.{RunsAlways}
use Rattle.machine_model.specs.Views.{Node, State, node_at, no_node, opening, opening_node}
use Rattle.machine_model.proofs.Growth.{Happens, happens_follows, happens_not, happens_then}
use Rattle.machine_model.proofs.Nodes.{KeepsHarts, does_keeps, drained_keeps, given_up_keeps, missed_keeps, delivered_keeps}
use Rattle.machine_model.proofs.Events.{by_event}
use Rattle.machine_model.proofs.Plans.{Rests}
use Rattle.machine_model.proofs.runs.Retiring.{retires_step}
use Rattle.memory_model.specs.Traces.{are_runs, are_runs_from}
use Rattle.rv32_decode.specs.Rows.{decoded}
use Rattle.rv32_decode.specs.declared.instruction.Instr.{Instr}
use Rattle.rv32_exec.specs.Meaning.{Access, Private, Loads, Stores, DoesLr, DoesSc, DoesAmo, Fences, Calls, access_of}
use Rattle.trace_recorder.specs.History.{History, entries_of, with_entry}

-- ---- one hart

-- a hart stands where its list leads, but for its status, which fits
pub record Stands (image : Initial) (harts id : ℕ) (hart : Hart) (entries : List Retired) (status : Status) : Type 0 where
  pub steps : are_steps image (at_reset image id harts) entries ≡ true
  pub fits : status_fits image (reached (at_reset image id harts) entries) status ≡ true
  pub here : hart ≡ record (reached (at_reset image id harts) entries) { status = status }

running_is : (s : Status) → is_running s ≡ true → s ≡ Running
running_is Running e = refl
running_is (Stopped code) e = absurd (false≢true e)
running_is (Exited code) e = absurd (false≢true e)

-- a hart that runs is the one that its list leads to
with_own_status : (hart : Hart) (status : Status) → hart.status ≡ status → record hart { status = status } ≡ hart
with_own_status hart status e = ap (λ (s : Status). record hart { status = s }) (sym e)

running_stands : (image : Initial) (harts id : ℕ) (hart : Hart) (entries : List Retired) (status : Status) → Stands image harts id hart entries status → is_running hart.status ≡ true → (status ≡ Running) × (hart ≡ reached (at_reset image id harts) entries)
running_stands image harts id hart entries status st r =
    let runs : status ≡ Running = running_is status (sym (ap (λ (h : Hart). is_running h.status) st.here) ∙ r) in
    let reached_runs : is_running (reached (at_reset image id harts) entries).status ≡ true = subst (λ (s : Status). status_fits image (reached (at_reset image id harts) entries) s ≡ true) runs st.fits in
    (runs, st.here ∙ with_own_status (reached (at_reset image id harts) entries) status (running_is _ reached_runs ∙ sym runs))

-- ---- one hart's steps

-- the status of a trace after a retiring instruction
abbrev halted_status : Status → Status → Status
halted_status Running old = old
halted_status (Stopped code) old = Stopped code
halted_status (Exited code) old = Exited code

retire_fits : (image : Initial) (hart : Hart) (s : Status) → hart.status ≡ s → ((code : ℕ) → s ≡ Stopped code → ⊥) → (status_fits image hart (halted_status s Running) ≡ true) × (halted_status s Running ≡ s)
retire_fits image hart Running e n = (ap is_running e, refl)
retire_fits image hart (Stopped code) e n = absurd (n code refl)
retire_fits image hart (Exited code) e n = (rw e (eq-eqb code code refl), refl)

-- no instruction that retires stops its hart
pub retired_stops_not : (image : Initial) (hart : Hart) (entry : Retired) (i : Instr) (code : ℕ) → (after_instr hart entry (Some i)).status ≡ Stopped code → ⊥
retired_stops_not image hart entry i code e = access_stops_not (access_of i hart.regs) code e
  where
    cond_stops_not : (b : Bool) (n code : ℕ) → cond b (Exited n) Running ≡ Stopped code → ⊥
    cond_stops_not true n code e = cc
    cond_stops_not false n code e = cc

    access_stops_not : (a : Access) (code : ℕ) → status_after a ≡ Stopped code → ⊥
    access_stops_not Private code e = cc
    access_stops_not (Loads address bytes) code e = cc
    access_stops_not (Stores address bytes value) code e = cc
    access_stops_not (DoesLr address) code e = cc
    access_stops_not (DoesSc address value) code e = cc
    access_stops_not (DoesAmo address op operand) code e = cc
    access_stops_not Fences code e = cc
    access_stops_not (Calls number argument) code e = cond_stops_not (nat_eq number 0) _ code e

-- a running hart retires its next step
stands_retired : (image : Initial) (harts id : ℕ) (hart : Hart) (entries : List Retired) (status : Status) (entry : Retired) (i : Instr) → Stands image harts id hart entries status → is_running hart.status ≡ true → is_step image hart entry ≡ true → decoded entry.word ≡ Some i
    → Stands image harts id (after_instr hart entry (Some i)) (entries ++ entry ∷ []) (halted_status (after_instr hart entry (Some i)).status status)
stands_retired image harts id hart entries status entry i st r step d =
    let start = at_reset image id harts in
    let at = running_stands image harts id hart entries status st r in
    let moved : after (reached start entries) entry ≡ after_instr hart entry (Some i) = ap (λ (h : Hart). after h entry) (sym at.1) ∙ ap (after_instr hart entry) d in
    let leads : reached start (entries ++ entry ∷ []) ≡ after_instr hart entry (Some i) = reached-append start entries (entry ∷ []) ∙ moved in
    let f = retire_fits image (after_instr hart entry (Some i)) (after_instr hart entry (Some i)).status refl (retired_stops_not image hart entry i) in
    let same : halted_status (after_instr hart entry (Some i)).status status ≡ (after_instr hart entry (Some i)).status = ap (halted_status (after_instr hart entry (Some i)).status) at.0 ∙ f.1 in
    record {
      steps = are_steps-append image start entries (entry ∷ []) ∙ and_from _ _ st.steps (and_from _ _ (ap (λ (h : Hart). is_step image h entry) (sym at.1) ∙ step) refl);
      fits = rw (leads, ap (halted_status (after_instr hart entry (Some i)).status) at.0) f.0;
      here = sym (ap (λ (h : Hart). record h { status = halted_status (after_instr hart entry (Some i)).status status }) leads ∙ with_own_status (after_instr hart entry (Some i)) _ (sym same));
    }

-- a hart stops with its next stop
stands_stopped : (image : Initial) (harts id : ℕ) (hart : Hart) (entries : List Retired) (status : Status) (code : ℕ) → Stands image harts id hart entries status → is_running hart.status ≡ true → next_stop image hart ≡ Some code → Stands image harts id (record hart { status = Stopped code }) entries (Stopped code)
stands_stopped image harts id hart entries status code st r e =
    let at = running_stands image harts id hart entries status st r in
    record {
      steps = st.steps;
      fits = rw (← at.1) (and_from _ _ r (ap (is_code code) e ∙ eq-eqb code code refl));
      here = ap (λ (h : Hart). record h { status = Stopped code }) at.1;
    }

-- a running hart goes on alone
stands_alone : (image : Initial) (harts id : ℕ) (hart : Hart) (entries : List Retired) (status : Status) (n : ℕ) → Stands image harts id hart entries status → is_running hart.status ≡ true → Stands image harts id (reached hart (private_row image hart n)) (entries ++ private_row image hart n) status
stands_alone image harts id hart entries status n st r =
    let start = at_reset image id harts in
    let at = running_stands image harts id hart entries status st r in
    let row = private_row image hart n in
    let leads : reached start (entries ++ row) ≡ reached hart row = reached-append start entries row ∙ ap (λ (h : Hart). reached h row) (sym at.1) in
    let on = row-running image hart n r in
    record {
      steps = are_steps-append image start entries row ∙ and_from _ _ st.steps (ap (λ (h : Hart). are_steps image h row) (sym at.1) ∙ row-steps image hart n);
      fits = rw (leads, at.0) on;
      here = sym (ap (λ (h : Hart). record h { status = status }) leads ∙ with_own_status (reached hart row) status (running_is _ on ∙ sym at.0));
    }

-- ---- all harts

pub record AllStand (s : State) : Type 0 where
  pub nodes : length s.views.nodes ≡ s.views.config.harts
  pub entries : length s.trace.entries ≡ s.views.config.harts
  pub statuses : length s.trace.statuses ≡ s.views.config.harts
  pub each : (h : ℕ) → h < s.views.config.harts → Stands s.trace.image s.views.config.harts h (node_at s h).hart (entries_of s.trace h) (slice_index_or s.trace.statuses h Running)

-- the same of the parts that it speaks of
stands_same : (image image' : Initial) (harts harts' h : ℕ) (hart hart' : Hart) (entries entries' : List (List Retired)) (statuses statuses' : List Status) → image' ≡ image → harts' ≡ harts → hart' ≡ hart → entries' ≡ entries → statuses' ≡ statuses → Stands image harts h hart (slice_index_or entries h []) (slice_index_or statuses h Running) → Stands image' harts' h hart' (slice_index_or entries' h []) (slice_index_or statuses' h Running)
stands_same image image' harts harts' h hart hart' entries entries' statuses statuses' a b c d e st = rw (a, b, c, d, e) st

pub all_kept : (s t : State) → KeepsHarts s t → AllStand s → AllStand t
all_kept s t k a =
    let harts : t.views.config.harts ≡ s.views.config.harts = ap (λ (c : Config). c.harts) k.config in
    record {
      nodes = k.count ∙ (a.nodes ∙ sym harts);
      entries = ap length k.entries ∙ (a.entries ∙ sym harts);
      statuses = ap length k.statuses ∙ (a.statuses ∙ sym harts);
      each = λ h l. stands_same s.trace.image t.trace.image s.views.config.harts t.views.config.harts h (node_at s h).hart (node_at t h).hart s.trace.entries t.trace.entries s.trace.statuses t.trace.statuses k.image harts (k.harts h) k.entries k.statuses (a.each h (subst (λ n. h < n) harts l));
    }

-- one hart's stand changed, and no other's
one_changed : (s t : State) (h : ℕ) (n : Node) (entries : List Retired) (status : Status)
    → t.trace.image ≡ s.trace.image → t.views.config ≡ s.views.config
    → t.views.nodes ≡ slice_set s.views.nodes h n → t.trace.entries ≡ slice_set s.trace.entries h entries → t.trace.statuses ≡ slice_set s.trace.statuses h status
    → h < s.views.config.harts → Stands s.trace.image s.views.config.harts h n.hart entries status → AllStand s → AllStand t
one_changed s t h n entries status image config nodes lists statuses l st a =
    let harts : t.views.config.harts ≡ s.views.config.harts = ap (λ (c : Config). c.harts) config in
    record {
      nodes = ap length nodes ∙ (length-set s.views.nodes h n ∙ (a.nodes ∙ sym harts));
      entries = ap length lists ∙ (length-set s.trace.entries h entries ∙ (a.entries ∙ sym harts));
      statuses = ap length statuses ∙ (length-set s.trace.statuses h status ∙ (a.statuses ∙ sym harts));
      each = λ k m. each k (subst (λ n. k < n) harts m) (eqb_tells k h);
    }
  where
    at : (k : ℕ) (d : Node) → slice_index_or t.views.nodes k d ≡ slice_index_or (slice_set s.views.nodes h n) k d
    at k d = ap (λ (ns : List Node). slice_index_or ns k d) nodes

    blank : no_node t ≡ no_node s
    blank = rw (image, config) refl

    node_is : (k : ℕ) → node_at t k ≡ slice_index_or (slice_set s.views.nodes h n) k (no_node s)
    node_is k = at k (no_node t) ∙ ap (slice_index_or (slice_set s.views.nodes h n) k) blank

    moved : (k : ℕ) (hart : Hart) (es : List Retired) (status' : Status) → (node_at t k).hart ≡ hart → entries_of t.trace k ≡ es → slice_index_or t.trace.statuses k Running ≡ status' → Stands s.trace.image s.views.config.harts k hart es status' → Stands t.trace.image t.views.config.harts k (node_at t k).hart (entries_of t.trace k) (slice_index_or t.trace.statuses k Running)
    moved k hart es status' e f g x = subst (λ (i : Initial). Stands i t.views.config.harts k (node_at t k).hart (entries_of t.trace k) (slice_index_or t.trace.statuses k Running)) (sym image)
        (subst (λ (m : ℕ). Stands s.trace.image m k (node_at t k).hart (entries_of t.trace k) (slice_index_or t.trace.statuses k Running)) (sym (ap (λ (c : Config). c.harts) config))
        (subst (λ (x : Hart). Stands s.trace.image s.views.config.harts k x (entries_of t.trace k) (slice_index_or t.trace.statuses k Running)) (sym e)
        (subst (λ (xs : List Retired). Stands s.trace.image s.views.config.harts k hart xs (slice_index_or t.trace.statuses k Running)) (sym f)
        (subst (λ (x : Status). Stands s.trace.image s.views.config.harts k hart es x) (sym g) x))))

    each : (k : ℕ) → k < s.views.config.harts → ((nat_eq k h ≡ true) × (k ≡ h)) ⊎ ((nat_eq k h ≡ false) × (k ≢ h)) → Stands t.trace.image t.views.config.harts k (node_at t k).hart (entries_of t.trace k) (slice_index_or t.trace.statuses k Running)
    each k m (inl e) =
        let here = get_or-set_same s.views.nodes h n (no_node s) (subst (λ x. h < x) (sym a.nodes) l) in
        let listed = get_or-set_same s.trace.entries h entries [] (subst (λ x. h < x) (sym a.entries) l) in
        let noted = get_or-set_same s.trace.statuses h status Running (subst (λ x. h < x) (sym a.statuses) l) in
        let nodes' : node_at t k ≡ n = node_is k ∙ (ap (λ (j : ℕ). slice_index_or (slice_set s.views.nodes h n) j (no_node s)) e.1 ∙ here) in
        let entries' : entries_of t.trace k ≡ entries = ap (λ (ls : List (List Retired)). slice_index_or ls k []) lists ∙ (ap (λ (j : ℕ). slice_index_or (slice_set s.trace.entries h entries) j []) e.1 ∙ listed) in
        let statuses' : slice_index_or t.trace.statuses k Running ≡ status = ap (λ (ss : List Status). slice_index_or ss k Running) statuses ∙ (ap (λ (j : ℕ). slice_index_or (slice_set s.trace.statuses h status) j Running) e.1 ∙ noted) in
        moved k n.hart entries status (ap (λ (x : Node). x.hart) nodes') entries' statuses' (subst (λ (j : ℕ). Stands s.trace.image s.views.config.harts j n.hart entries status) (sym e.1) st)
    each k m (inr d) =
        moved k (node_at s k).hart (entries_of s.trace k) (slice_index_or s.trace.statuses k Running)
        (ap (λ (x : Node). x.hart) (node_is k ∙ get_or-set_other s.views.nodes h k n (no_node s) d.1))
        (ap (λ (ls : List (List Retired)). slice_index_or ls k []) lists ∙ get_or-set_other s.trace.entries h k entries [] d.1)
        (ap (λ (ss : List Status). slice_index_or ss k Running) statuses ∙ get_or-set_other s.trace.statuses h k status Running d.1)
        (a.each k m)

-- ---- acts

-- a status list after a halt, or none
statuses-with_halt : (h : ℕ) (status : Status) (t : History) → (with_halt h status t).statuses ≡ slice_set t.statuses h (halted_status status (slice_index_or t.statuses h Running))
statuses-with_halt h Running t = sym (set-get_or t.statuses h Running)
statuses-with_halt h (Stopped code) t = refl
statuses-with_halt h (Exited code) t = refl

image-with_halt : (h : ℕ) (status : Status) (t : History) → (with_halt h status t).image ≡ t.image
image-with_halt h Running t = refl
image-with_halt h (Stopped code) t = refl
image-with_halt h (Exited code) t = refl

entries-with_halt : (h : ℕ) (status : Status) (t : History) → (with_halt h status t).entries ≡ t.entries
entries-with_halt h Running t = refl
entries-with_halt h (Stopped code) t = refl
entries-with_halt h (Exited code) t = refl

retired_stand : (h : ℕ) (entry : Retired) (i : Instr) (s : State) → h < s.views.config.harts → is_step s.trace.image (node_at s h).hart entry ≡ true → decoded entry.word ≡ Some i → is_running (node_at s h).hart.status ≡ true → AllStand s → AllStand (retired h entry i s)
retired_stand h entry i s l step d r a =
    let hart = after_instr (node_at s h).hart entry (Some i) in
    one_changed s (retired h entry i s) h (record (node_at s h) { hart = hart }) (entries_of s.trace h ++ entry ∷ []) (halted_status hart.status (slice_index_or s.trace.statuses h Running))
    (image-with_halt h hart.status (with_entry h entry s.trace)) refl refl (entries-with_halt h hart.status (with_entry h entry s.trace)) (statuses-with_halt h hart.status (with_entry h entry s.trace)) l
    (stands_retired s.trace.image s.views.config.harts h (node_at s h).hart (entries_of s.trace h) (slice_index_or s.trace.statuses h Running) entry i (a.each h l) r step d) a

stopped_stand : (h code : ℕ) (s : State) → h < s.views.config.harts → is_running (node_at s h).hart.status ≡ true → next_stop s.trace.image (node_at s h).hart ≡ Some code → AllStand s → AllStand (stopped h code s)
stopped_stand h code s l r e a =
    one_changed s (stopped h code s) h (record (node_at s h) { hart = record (node_at s h).hart { status = Stopped code } }) (entries_of s.trace h) (Stopped code)
    refl refl refl (sym (set-get_or s.trace.entries h [])) refl l
    (stands_stopped s.trace.image s.views.config.harts h (node_at s h).hart (entries_of s.trace h) (slice_index_or s.trace.statuses h Running) code (a.each h l) r e) a

-- entries that are appended one by one
pub entries-with_entries : (h : ℕ) (row : List Retired) (t : History) → h < length t.entries → (with_entries h row t).entries ≡ slice_set t.entries h (entries_of t h ++ row)
entries-with_entries h [] t l = sym (ap (slice_set t.entries h) (append-nil (entries_of t h)) ∙ set-get_or t.entries h [])
entries-with_entries h (entry ∷ rest) t l =
    let more = entries_of t h ++ entry ∷ [] in
    entries-with_entries h rest (with_entry h entry t) (rw (length-set t.entries h more) l)
    ∙ (ap (λ (es : List Retired). slice_set (slice_set t.entries h more) h (es ++ rest)) (get_or-set_same t.entries h more [] l)
    ∙ (set-set t.entries h more (more ++ rest) ∙ ap (slice_set t.entries h) (append_assoc (entries_of t h) (entry ∷ []) rest)))

image-with_entries : (h : ℕ) (row : List Retired) (t : History) → (with_entries h row t).image ≡ t.image
image-with_entries h [] t = refl
image-with_entries h (entry ∷ rest) t = image-with_entries h rest (with_entry h entry t)

statuses-with_entries : (h : ℕ) (row : List Retired) (t : History) → (with_entries h row t).statuses ≡ t.statuses
statuses-with_entries h [] t = refl
statuses-with_entries h (entry ∷ rest) t = statuses-with_entries h rest (with_entry h entry t)

alone_stand : (h count : ℕ) (s : State) → h < s.views.config.harts → is_running (node_at s h).hart.status ≡ true → AllStand s → AllStand (went_alone h count s)
alone_stand h count s l r a =
    let row = private_row s.trace.image (node_at s h).hart count in
    one_changed s (went_alone h count s) h (record (node_at s h) { hart = reached (node_at s h).hart row }) (entries_of s.trace h ++ row) (slice_index_or s.trace.statuses h Running)
    (image-with_entries h row s.trace) refl refl (entries-with_entries h row s.trace (subst (λ x. h < x) (sym a.entries) l)) (statuses-with_entries h row s.trace ∙ sym (set-get_or s.trace.statuses h Running)) l
    (stands_alone s.trace.image s.views.config.harts h (node_at s h).hart (entries_of s.trace h) (slice_index_or s.trace.statuses h Running) count (a.each h l) r) a

did_stand : (h : ℕ) (entry : Retired) (i : Instr) (s t : State) → KeepsHarts s t → h < s.views.config.harts → is_step s.trace.image (node_at s h).hart entry ≡ true → decoded entry.word ≡ Some i → AllStand s → AllStand (retired h entry i t)
did_stand h entry i s t k l step d a =
    let l' : h < t.views.config.harts = subst (λ (c : Config). h < c.harts) (sym k.config) l in
    let step' : is_step t.trace.image (node_at t h).hart entry ≡ true = subst (λ (image : Initial). is_step image (node_at t h).hart entry ≡ true) (sym k.image) (subst (λ (x : Hart). is_step s.trace.image x entry ≡ true) (sym (k.harts h)) step) in
    retired_stand h entry i t l' step' d (step_runs t.trace.image (node_at t h).hart entry step') (all_kept s t k a)

acted_stand : (s : State) (e : Event) (a : Act) → hart_of e < s.views.config.harts → Rests s e a → AllStand s → AllStand (acted (hart_of e) a s)
acted_stand s e (act.Stop code) l p st = stopped_stand (hart_of e) code s l p.1 p.2 st
acted_stand s e (act.Retire entry i d) l p st =
    let step = retires_step s (hart_of e) entry i d p.1 in
    did_stand (hart_of e) entry i s (does s.views.config.model (hart_of e) d s) (does_keeps s.views.config.model (hart_of e) d s) l step.0 step.1 st
acted_stand s e (act.Miss line grow) l p st = all_kept s _ (missed_keeps (hart_of e) line grow s) st
acted_stand s e (act.Drain word) l p st = all_kept s _ (drained_keeps (hart_of e) word s) st
acted_stand s e (act.Evict line) l p st = all_kept s _ (given_up_keeps (hart_of e) line s) st
acted_stand s e (act.Deliver m) l p st = all_kept s _ (delivered_keeps (hart_of e) m s) st
acted_stand s e (act.Local count) l p st = alone_stand (hart_of e) count s l p.1 st

-- ---- events

counted_stand : (s : State) → AllStand s → AllStand (counted s)
counted_stand s a = all_kept s (counted s) (record { image = refl; config = refl; entries = refl; statuses = refl; count = refl; harts = λ h. refl }) a

pub happens_stand : (s : State) (e : Event) → AllStand s → AllStand (happens s e)
happens_stand s e a = by_event AllStand s e a (λ b m. counted_stand (acted (hart_of e) b s) (acted_stand s e b (subst (λ x. hart_of e < x) a.nodes m.in_h) m.rests a))

pub events_stand : (events : List Event) (s : State) → AllStand s → AllStand (after_events s events)
events_stand [] s a = a
events_stand (e ∷ events) s a = events_stand events (happens s e) (happens_stand s e a)

-- ---- from reset

opening_stands : (image : Initial) (config : Config) → AllStand (opening image config)
opening_stands image config = record {
  nodes = length-map-range_with_len (opening_node image config) 0 config.harts;
  entries = length-replicate config.harts [];
  statuses = length-replicate config.harts Running;
  each = λ h l. at h l;
}
  where
    fresh : (h : ℕ) → h < config.harts → node_at (opening image config) h ≡ opening_node image config h
    fresh h l = get_or-map-range_with_len (opening_node image config) 0 config.harts h h (no_node (opening image config)) l (omega arith)

    at : (h : ℕ) → h < config.harts → Stands image config.harts h (node_at (opening image config) h).hart (entries_of (opening image config).trace h) (slice_index_or (opening image config).trace.statuses h Running)
    at h l =
        let start : Stands image config.harts h (at_reset image h config.harts) [] Running = record { steps = refl; fits = refl; here = refl } in
        subst (λ (x : Hart). Stands image config.harts h x (entries_of (opening image config).trace h) (slice_index_or (opening image config).trace.statuses h Running)) (sym (ap (λ (n : Node). n.hart) (fresh h l)))
        (subst (λ (xs : List Retired). Stands image config.harts h (at_reset image h config.harts) xs (slice_index_or (opening image config).trace.statuses h Running)) (sym (get_or-replicate config.harts h [] [] l))
        (subst (λ (x : Status). Stands image config.harts h (at_reset image h config.harts) [] x) (sym (get_or-replicate config.harts h Running Running l)) start))

-- ---- all lists

runs_from : (image : Initial) (harts id : ℕ) (entries : List (List Retired)) (statuses : List Status) → length statuses ≡ length entries → ((k : ℕ) → k < length entries → is_run image (id + k) harts (slice_index_or entries k []) (slice_index_or statuses k Running) ≡ true) → are_runs_from image harts id entries statuses ≡ true
runs_from image harts id [] [] e f = refl
runs_from image harts id [] (status ∷ statuses) e f = absurd cc
runs_from image harts id (entries ∷ rest) [] e f = absurd cc
runs_from image harts id (entries ∷ rest) (status ∷ statuses) e f =
    and_from _ _ (subst (λ (n : ℕ). is_run image n harts entries status ≡ true) (omega arith) (f 0 (omega arith)))
    (runs_from image harts (id + 1) rest statuses (omega arith) (λ k l. subst (λ (n : ℕ). is_run image n harts (slice_index_or rest k []) (slice_index_or statuses k Running) ≡ true) (omega arith) (f (suc k) (omega arith))))

runs_of : (s : State) → AllStand s → are_runs s.trace ≡ true
runs_of s a =
    subst (λ (n : ℕ). are_runs_from s.trace.image n 0 s.trace.entries s.trace.statuses ≡ true) (sym a.entries)
    (runs_from s.trace.image s.views.config.harts 0 s.trace.entries s.trace.statuses (a.statuses ∙ sym a.entries)
    (λ k l. let st = a.each k (subst (λ n. k < n) a.entries l) in subst (λ (n : ℕ). is_run s.trace.image n s.views.config.harts (entries_of s.trace k) (slice_index_or s.trace.statuses k Running) ≡ true) (omega arith) (and_from _ _ st.steps st.fits)))

-- ---- the law

kept_always : (events : List Event) (s : State) → Happens s (after_events s events)
kept_always [] s = happens_not s
kept_always (e ∷ events) s = happens_then _ _ _ (happens_follows s e) (kept_always events (happens s e))

pub runs_always : RunsAlways
runs_always image config events i =
    let a = events_stand events (opening image config) (opening_stands image config) in
    let k = kept_always events (opening image config) in
    record {
      loaded = k.stays.image;
      harts = a.entries ∙ ap (λ (x : Config). x.harts) k.stays.config;
      runs = runs_of (after_events (opening image config) events) a;
    }
