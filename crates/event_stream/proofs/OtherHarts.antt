-- An event leaves the lists of retired instructions of all harts but its own.
use Rattle.std.proofs.Common.{◌≡◌, ℕ, zero, suc, List, [], ◌∷◌, ◌++◌, Bool, true, false, Option, Some, None, refl, cond, ap, ◌∙◌, slice_index_or, slice_set}
use Rattle.client_cache.specs.Cache.{probed, evicted}
use Rattle.client_cache.specs.declared.answers.Evict.{Evict}
use Rattle.client_cache.specs.declared.answers.Evict.TheVariants as evict
use Rattle.client_cache.specs.declared.answers.Probed.{Probed}
use Rattle.client_cache.specs.declared.answers.Probed.TheVariants as probe
use Rattle.directory.specs.Directory.{acquired, probe_acked}
use Rattle.directory.specs.declared.answer.Acquired.{Acquired}
use Rattle.directory.specs.declared.answer.Acquired.TheVariants.{Handled, Busy}
use Rattle.directory.specs.declared.answer.Grant.{Grant as Granting}
use Rattle.directory.specs.declared.answer.Sent.{Sent}
use Rattle.directory.specs.declared.answer.Sent.TheVariants.{Probes, Granting as Grants}
use Rattle.hart.specs.declared.retired.Retired.{Retired}
use Rattle.hart.specs.Local.{private_row}
use Rattle.hart.specs.Run.{after_instr}
use Rattle.hart.specs.declared.status.Status.{Status}
use Rattle.hart.specs.declared.status.Status.TheVariants.{Running, Stopped, Exited}
use Rattle.machine_model.specs.declared.act.Act.{Act}
use Rattle.machine_model.specs.declared.act.Act.TheVariants as act
use Rattle.machine_model.specs.declared.act.Deed.{Deed}
use Rattle.machine_model.specs.declared.act.Deed.TheVariants as deed
use Rattle.machine_model.specs.declared.act.Plan.{Plan}
use Rattle.machine_model.specs.declared.act.Plan.TheVariants as plan
use Rattle.machine_types.specs.declared.event.Event.{Event}
use Rattle.machine_types.specs.declared.outcome.Outcome.{Outcome}
use Rattle.machine_model.specs.Changing.{acted, does, outcome_of_act, performs, with_halt, with_entries, retired, sent_if_evicted}
use Rattle.machine_model.specs.Deliveries.{handled, taken, sent_probes, sent_any, sent_if_handled, sent_if_granted, sent_if_answered, with_memory, with_notes, with_less, on_probe_ack}
use Rattle.machine_model.specs.Events.{Verdict, counted, verdict_by, state_by, happens, is_good, is_limited, plan_of, hart_of}
use Rattle.machine_model.specs.Views.{State, line_size, place_of, node_at, with_node, sent}
use Rattle.machine_types.specs.declared.model.MemoryModel.{MemoryModel}
use Rattle.rv32_decode.specs.declared.instruction.Instr.{Instr}
use Rattle.store_buffer.specs.Entry.{entry_of}
use Rattle.store_buffer.specs.Groups.{oldest}
use Rattle.tl_types.specs.declared.line.LineData.{LineData}
use Rattle.tl_types.specs.declared.message.Body.{Body}
use Rattle.tl_types.specs.declared.message.Body.TheVariants.{AcquireBlock, ProbeBlock, ProbeAck, ProbeAckData, Release, ReleaseData, Grant, GrantData, ReleaseAck, GrantAck}
use Rattle.tl_types.specs.declared.permission.Cap.{Cap}
use Rattle.tl_types.specs.declared.permission.Change.{Change}
use Rattle.trace_text.specs.History.{History, entries_of, with_entry}

-- one list of lists is another at one place alone
set_elsewhere : {X : Type 0} (l : List (List X)) (i j : ℕ) (new : List X) → (i ≡ j → ⊥) → slice_index_or (slice_set l i new) j [] ≡ slice_index_or l j []
set_elsewhere [] i j new apart = refl
set_elsewhere (x ∷ l) zero zero new apart = absurd (apart refl)
set_elsewhere (x ∷ l) zero (suc j) new apart = refl
set_elsewhere (x ∷ l) (suc i) zero new apart = refl
set_elsewhere (x ∷ l) (suc i) (suc j) new apart = set_elsewhere l i j new (λ e. apart (ap (λ (n : ℕ). suc n) e))

-- no list of retired instructions changes
abbrev Same : State → State → Type 0
Same s t = t.trace.entries ≡ s.trace.entries

-- none but a hart's
abbrev Elsewhere : ℕ → History → History → Type 0
Elsewhere h t u = (k : ℕ) → (h ≡ k → ⊥) → entries_of u k ≡ entries_of t k

same_elsewhere : (h : ℕ) (t u : History) → u.entries ≡ t.entries → Elsewhere h t u
same_elsewhere h t u e k apart = ap (λ (l : List (List Retired)). slice_index_or l k []) e

-- ---- messages

probes_same : (harts : List ℕ) (line : ℕ) (cap : Cap) (s : State) → Same s (sent_probes harts line cap s)
probes_same [] line cap s = refl
probes_same (hart ∷ harts) line cap s = probes_same harts line cap (sent hart (record { line = line; body = ProbeBlock cap }) s)

any_same : (line : ℕ) (a : Sent) (s : State) → Same s (sent_any line a s)
any_same line (Probes cap harts) s = probes_same harts line cap s
any_same line (Grants g) s = refl

if_handled : (line : ℕ) (a : Acquired) (s : State) → Same s (sent_if_handled line a s)
if_handled line Busy s = refl
if_handled line (Handled sends) s = any_same line sends s

if_granted : (line : ℕ) (g : Option Granting) (s : State) → Same s (sent_if_granted line g s)
if_granted line None s = refl
if_granted line (Some g) s = refl

if_answered : (h line : ℕ) (p : Probed) (s : State) → Same s (sent_if_answered h line p s)
if_answered h line probe.Releasing s = refl
if_answered h line (probe.Answered change bytes) s = refl

if_evicted : (h line : ℕ) (e : Evict) (s : State) → Same s (sent_if_evicted h line e s)
if_evicted h line (evict.Evicted change bytes) s = refl
if_evicted h line evict.NotHeld s = refl
if_evicted h line evict.AcquirePending s = refl
if_evicted h line evict.ReleaseFull s = refl

memory_same : (line : ℕ) (bytes : Option LineData) (s : State) → Same s (with_memory line bytes s)
memory_same line None s = refl
memory_same line (Some bytes) s = refl

acknowledged : (h line : ℕ) (change : Change) (bytes : Option LineData) (s : State) → Same s (on_probe_ack h line change bytes s)
acknowledged h line change bytes s =
    let answer = probe_acked s.views.notes (place_of (line_size s) line) h change in
    if_granted line answer.0 (with_notes answer.1 (with_memory line bytes s)) ∙ memory_same line bytes s

handled_same : (h line : ℕ) (body : Body) (s : State) → Same s (handled h line body s)
handled_same h line (AcquireBlock grow) s =
    let answer = acquired s.views.notes (place_of (line_size s) line) h grow in
    if_handled line answer.0 (with_notes answer.1 s)
handled_same h line (ProbeBlock cap) s =
    let answer = probed (node_at s h).cache line cap in
    if_answered h line answer.0 (with_node h (with_less answer.1 line (node_at s h)) s)
handled_same h line (ProbeAck change) s = acknowledged h line change None s
handled_same h line (ProbeAckData change bytes) s = acknowledged h line change (Some bytes) s
handled_same h line (Release change) s = refl
handled_same h line (ReleaseData change bytes) s = refl
handled_same h line (Grant cap) s = refl
handled_same h line (GrantData cap bytes) s = refl
handled_same h line ReleaseAck s = refl
handled_same h line GrantAck s = refl

-- ---- instructions

performs_same : (h : ℕ) (places : List ℕ) (s : State) → Same s (performs h places s)
performs_same h [] s = refl
performs_same h (place ∷ places) s = performs_same h places _

does_same : (model : MemoryModel) (h : ℕ) (d : Deed) (s : State) → Same s (does model h d s)
does_same model h deed.Private s = refl
does_same model h (deed.Output number) s = refl
does_same model h deed.Load s = refl
does_same model h (deed.Store store) s = refl
does_same model h deed.Seal s = refl
does_same model h (deed.Lr word) s = refl
does_same model h deed.Fail s = refl
does_same model h (deed.Sc word value) s = refl
does_same model h (deed.Amo word value) s = refl

halt_same : (h : ℕ) (status : Status) (t : History) → (with_halt h status t).entries ≡ t.entries
halt_same h Running t = refl
halt_same h (Stopped code) t = refl
halt_same h (Exited code) t = refl

entry_elsewhere : (h : ℕ) (entry : Retired) (t : History) → Elsewhere h t (with_entry h entry t)
entry_elsewhere h entry t k apart = set_elsewhere t.entries h k (entries_of t h ++ entry ∷ []) apart

retired_elsewhere : (h : ℕ) (entry : Retired) (i : Instr) (s : State) → Elsewhere h s.trace (retired h entry i s).trace
retired_elsewhere h entry i s k apart =
    same_elsewhere h (with_entry h entry s.trace) (with_halt h (after_instr (node_at s h).hart entry (Some i)).status (with_entry h entry s.trace)) (halt_same h _ (with_entry h entry s.trace)) k apart
    ∙ entry_elsewhere h entry s.trace k apart

entries_elsewhere : (h : ℕ) (entries : List Retired) (t : History) → Elsewhere h t (with_entries h entries t)
entries_elsewhere h [] t k apart = refl
entries_elsewhere h (entry ∷ rest) t k apart = entries_elsewhere h rest (with_entry h entry t) k apart ∙ entry_elsewhere h entry t k apart

-- ---- acts

acted_elsewhere : (h : ℕ) (a : Act) (s : State) → Elsewhere h s.trace (acted h a s).trace
acted_elsewhere h (act.Stop code) s k apart = refl
acted_elsewhere h (act.Retire entry i d) s k apart =
    retired_elsewhere h entry i (does s.views.config.model h d s) k apart ∙ same_elsewhere h s.trace (does s.views.config.model h d s).trace (does_same s.views.config.model h d s) k apart
acted_elsewhere h (act.Miss line grow) s k apart = refl
acted_elsewhere h (act.Drain word) s k apart = same_elsewhere h s.trace (performs h (entry_of word (oldest (node_at s h).buffer)).ops s).trace (performs_same h (entry_of word (oldest (node_at s h).buffer)).ops s) k apart
acted_elsewhere h (act.Evict line) s k apart =
    let answer = evicted (node_at s h).cache line in
    let less = with_node h (with_less answer.1 line (node_at s h)) s in
    same_elsewhere h s.trace (sent_if_evicted h line answer.0 less).trace (if_evicted h line answer.0 less) k apart
acted_elsewhere h (act.Deliver m) s k apart = same_elsewhere h s.trace (handled h m.line m.body (taken h m s)).trace (handled_same h m.line m.body (taken h m s)) k apart
acted_elsewhere h (act.Local count) s k apart = entries_elsewhere h (private_row s.trace.image (node_at s h).hart count) s.trace k apart

-- ---- events

if_limited : (limited : Bool) (h : ℕ) (s new : State) (o : Outcome) → Elsewhere h s.trace new.trace → Elsewhere h s.trace (state_by s (cond limited Verdict.IsLimited (Verdict.Moves o new))).trace
if_limited true h s new o so k apart = refl
if_limited false h s new o so k apart = so k apart

by_plan : (s : State) (h : ℕ) (p : Plan) → Elsewhere h s.trace (state_by s (verdict_by s h p)).trace
by_plan s h (plan.Stays o) k apart = refl
by_plan s h (plan.Changes a) k apart = if_limited (is_limited s h a) h s (counted (acted h a s)) (outcome_of_act s h a) (acted_elsewhere h a s) k apart

if_good : (good : Bool) (h : ℕ) (s : State) (v : Verdict) → Elsewhere h s.trace (state_by s v).trace → Elsewhere h s.trace (state_by s (cond good v Verdict.IsBad)).trace
if_good true h s v so k apart = so k apart
if_good false h s v so k apart = refl

pub others_stay : (s : State) (e : Event) (k : ℕ) → (hart_of e ≡ k → ⊥) → entries_of (happens s e).trace k ≡ entries_of s.trace k
others_stay s e k apart = if_good (is_good s e) (hart_of e) s (verdict_by s (hart_of e) (plan_of s e)) (by_plan s (hart_of e) (plan_of s e)) k apart
