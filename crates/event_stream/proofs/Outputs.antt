-- What a hart put out only grows, and by its own events alone.
use Rattle.std.proofs.Common.{◌≡◌, ℕ, zero, suc, List, [], ◌∷◌, ◌++◌, Bool, true, false, Option, Some, None, refl, sym, cond, ap, ◌∙◌, slice_index_or, slice_set}
use Rattle.std.specs.Prelude.{map}
use Rattle.std.proofs.lemmas.List.{append-nil}
use Rattle.client_cache.specs.Cache.{answered, evicted, granted, probed, wanted, word_written}
use Rattle.client_cache.specs.declared.answers.Evict.{Evict}
use Rattle.client_cache.specs.declared.answers.Evict.TheVariants as evict
use Rattle.client_cache.specs.declared.answers.Probed.{Probed}
use Rattle.client_cache.specs.declared.answers.Probed.TheVariants as probe
use Rattle.directory.specs.Directory.{acquired, probe_acked, released}
use Rattle.directory.specs.declared.answer.Acquired.{Acquired}
use Rattle.directory.specs.declared.answer.Acquired.TheVariants.{Handled, Busy}
use Rattle.directory.specs.declared.answer.Grant.{Grant as Granting}
use Rattle.directory.specs.declared.answer.Sent.{Sent as Sending}
use Rattle.directory.specs.declared.answer.Sent.TheVariants.{Probes, Granting as Grants}
use Rattle.elf_loader.specs.Image.{Initial}
use Rattle.hart.specs.Local.{private_row}
use Rattle.hart.specs.Run.{after_instr, reached}
use Rattle.hart.specs.declared.state.Hart.{Hart}
use Rattle.hart.specs.declared.status.Status.TheVariants.{Stopped}
use Rattle.machine_model.specs.Changing.{acted, does, drained, outcome_of_act, performs, performs_own, next_place, put_behind, release_body, retired, sent_if_evicted, with_buffer, with_entries, with_halt, with_reservation, writes_word}
use Rattle.machine_model.specs.Deliveries.{grant_body, handled, line_in_memory, on_probe_ack, probe_ack_body, sent_any, sent_grant, sent_if_answered, sent_if_granted, sent_if_handled, sent_probes, taken, with_less, with_memory, with_notes}
use Rattle.machine_model.specs.Events.{Verdict, counted, happens, hart_of, is_good, is_limited, plan_of, state_by, verdict_by}
use Rattle.machine_model.specs.LawfulLog.{IsBeginningOf}
use Rattle.machine_model.specs.Views.{Node, State, line_size, no_node, node_at, opening_node, place_of, sent, with_node, with_trace}
use Rattle.machine_model.specs.declared.act.Act.{Act}
use Rattle.machine_model.specs.declared.act.Act.TheVariants as act
use Rattle.machine_model.specs.declared.act.Deed.{Deed}
use Rattle.machine_model.specs.declared.act.Deed.TheVariants as deed
use Rattle.machine_model.specs.declared.act.Plan.{Plan}
use Rattle.machine_model.specs.declared.act.Plan.TheVariants as plan
use Rattle.machine_types.specs.declared.config.Config.{Config}
use Rattle.machine_types.specs.declared.event.Event.{Event}
use Rattle.machine_types.specs.declared.outcome.Outcome.{Outcome}
use Rattle.machine_model.specs.Words.{bytes_of_word}
use Rattle.machine_types.specs.declared.model.MemoryModel.{MemoryModel}
use Rattle.store_buffer.specs.Entry.{entry_of}
use Rattle.store_buffer.specs.Groups.{Groups, after_seal, after_take, oldest}
use Rattle.store_buffer.specs.ByteMask.{marks_of_access}
use Rattle.tilelink_channels.specs.Queues.{popped, pushed}
use Rattle.tl_types.specs.Line.{line_of}
use Rattle.tl_types.specs.Message.{channel_of}
use Rattle.tl_types.specs.declared.line.LineData.{LineData}
use Rattle.tl_types.specs.declared.message.Body.{Body}
use Rattle.tl_types.specs.declared.message.Body.TheVariants.{AcquireBlock, ProbeBlock, ProbeAck, ProbeAckData, Release, ReleaseData, Grant, GrantData, ReleaseAck, GrantAck}
use Rattle.tl_types.specs.declared.message.Msg.{Msg}
use Rattle.tl_types.specs.declared.permission.Cap.{Cap}
use Rattle.tl_types.specs.declared.permission.Change.{Change}
use Rattle.trace_text.specs.History.{History, with_entry, with_logged, with_performed, with_status}
use Rattle.trace_text.specs.TheVariants.{Sent, Taken}
use Rattle.event_stream.specs.Reports.{outputs_of}

-- no hart has put anything out
abbrev Silent : State → State → Type 0
Silent s t = (k : ℕ) → outputs_of t k ≡ outputs_of s k

-- none but one has, and it put out more
abbrev pub PutsOut : ℕ → State → State → Type 0
PutsOut h s t = (k : ℕ) → IsBeginningOf (outputs_of s k) (outputs_of t k) × ((h ≡ k → ⊥) → outputs_of t k ≡ outputs_of s k)

silent : (h : ℕ) (s t : State) → Silent s t → PutsOut h s t
silent h s t same k = (([], append-nil (outputs_of s k) ∙ sym (same k)), λ apart. same k)

then_silent : (h : ℕ) (s t u : State) → PutsOut h s t → Silent t u → PutsOut h s u
then_silent h s t u puts same k = (((puts k).0.0, (puts k).0.1 ∙ sym (same k)), λ apart. same k ∙ (puts k).1 apart)

-- ---- one node is another

another_default : (l : List Node) (k : ℕ) (d d' : Node) → d'.output ≡ d.output → (slice_index_or l k d').output ≡ (slice_index_or l k d).output
another_default [] k d d' same = same
another_default (x ∷ l) zero d d' same = refl
another_default (x ∷ l) (suc k) d d' same = another_default l k d d' same

same_set : (l : List Node) (i k : ℕ) (n d d' : Node) → n.output ≡ (slice_index_or l i d).output → d'.output ≡ d.output → (slice_index_or (slice_set l i n) k d').output ≡ (slice_index_or l k d).output
same_set [] i k n d d' own same = same
same_set (x ∷ l) zero zero n d d' own same = own
same_set (x ∷ l) zero (suc k) n d d' own same = another_default l k d d' same
same_set (x ∷ l) (suc i) zero n d d' own same = refl
same_set (x ∷ l) (suc i) (suc k) n d d' own same = same_set l i k n d d' own same

more_set : (l : List Node) (i k : ℕ) (n d : Node) (more : List ℕ) → n.output ≡ (slice_index_or l i d).output ++ more
    → IsBeginningOf (slice_index_or l k d).output (slice_index_or (slice_set l i n) k d).output × ((i ≡ k → ⊥) → (slice_index_or (slice_set l i n) k d).output ≡ (slice_index_or l k d).output)
more_set [] i k n d more own = (([], append-nil d.output), λ apart. refl)
more_set (x ∷ l) zero zero n d more own = ((more, sym own), λ apart. absurd (apart refl))
more_set (x ∷ l) zero (suc k) n d more own = (([], append-nil (slice_index_or l k d).output), λ apart. refl)
more_set (x ∷ l) (suc i) zero n d more own = (([], append-nil x.output), λ apart. refl)
more_set (x ∷ l) (suc i) (suc k) n d more own =
    let others = more_set l i k n d more own in
    (others.0, λ apart. others.1 (λ e. apart (ap (λ (m : ℕ). suc m) e)))

node_silent : (h : ℕ) (n : Node) (s : State) → n.output ≡ outputs_of s h → Silent s (with_node h n s)
node_silent h n s own k = same_set s.views.nodes h k n (no_node s) (no_node s) own refl

trace_silent : (t : History) (s : State) → Silent s (with_trace t s)
trace_silent t s k = another_default s.views.nodes k (no_node s) (no_node (with_trace t s)) refl

both_silent : (t : History) (h : ℕ) (n : Node) (s : State) → n.output ≡ outputs_of s h → Silent s (with_trace t (with_node h n s))
both_silent t h n s own k = same_set s.views.nodes h k n (no_node s) (no_node (with_trace t (with_node h n s))) own refl

-- ---- messages

sent_silent : (h : ℕ) (m : Msg) (s : State) → Silent s (sent h m s)
sent_silent h m s = both_silent (with_logged (record { direction = Sent; hart = h; message = m }) s.trace) h (record (node_at s h) { queues = pushed (node_at s h).queues m }) s refl

taken_silent : (h : ℕ) (m : Msg) (s : State) → Silent s (taken h m s)
taken_silent h m s = both_silent (with_logged (record { direction = Taken; hart = h; message = m }) s.trace) h (record (node_at s h) { queues = popped (node_at s h).queues (channel_of m) }) s refl

probes_silent : (harts : List ℕ) (line : ℕ) (cap : Cap) (s : State) → Silent s (sent_probes harts line cap s)
probes_silent [] line cap s = λ k. refl
probes_silent (hart ∷ harts) line cap s = λ k.
    probes_silent harts line cap (sent hart (record { line = line; body = ProbeBlock cap }) s) k ∙ sent_silent hart (record { line = line; body = ProbeBlock cap }) s k

grant_silent : (line : ℕ) (g : Granting) (s : State) → Silent s (sent_grant line g s)
grant_silent line g s = sent_silent g.hart (record { line = line; body = grant_body g (line_in_memory s line) }) s

any_silent : (line : ℕ) (a : Sending) (s : State) → Silent s (sent_any line a s)
any_silent line (Probes cap harts) s = probes_silent harts line cap s
any_silent line (Grants g) s = grant_silent line g s

if_handled : (line : ℕ) (a : Acquired) (s : State) → Silent s (sent_if_handled line a s)
if_handled line Busy s = λ k. refl
if_handled line (Handled sends) s = any_silent line sends s

if_granted : (line : ℕ) (g : Option Granting) (s : State) → Silent s (sent_if_granted line g s)
if_granted line None s = λ k. refl
if_granted line (Some g) s = grant_silent line g s

if_answered : (h line : ℕ) (p : Probed) (s : State) → Silent s (sent_if_answered h line p s)
if_answered h line probe.Releasing s = λ k. refl
if_answered h line (probe.Answered change bytes) s = sent_silent h (record { line = line; body = probe_ack_body change bytes }) s

if_evicted : (h line : ℕ) (e : Evict) (s : State) → Silent s (sent_if_evicted h line e s)
if_evicted h line (evict.Evicted change bytes) s = sent_silent h (record { line = line; body = release_body change bytes }) s
if_evicted h line evict.NotHeld s = λ k. refl
if_evicted h line evict.AcquirePending s = λ k. refl
if_evicted h line evict.ReleaseFull s = λ k. refl

memory_silent : (line : ℕ) (bytes : Option LineData) (s : State) → Silent s (with_memory line bytes s)
memory_silent line None s = λ k. refl
memory_silent line (Some bytes) s = λ k. refl

acknowledged : (h line : ℕ) (change : Change) (bytes : Option LineData) (s : State) → Silent s (on_probe_ack h line change bytes s)
acknowledged h line change bytes s = λ k.
    let answer = probe_acked s.views.notes (place_of (line_size s) line) h change in
    if_granted line answer.0 (with_notes answer.1 (with_memory line bytes s)) k ∙ memory_silent line bytes s k

handled_silent : (h line : ℕ) (body : Body) (s : State) → Silent s (handled h line body s)
handled_silent h line (AcquireBlock grow) s = λ k.
    let answer = acquired s.views.notes (place_of (line_size s) line) h grow in
    if_handled line answer.0 (with_notes answer.1 s) k
handled_silent h line (ProbeBlock cap) s = λ k.
    let answer = probed (node_at s h).cache line cap in
    let less = with_less answer.1 line (node_at s h) in
    if_answered h line answer.0 (with_node h less s) k ∙ node_silent h less s refl k
handled_silent h line (ProbeAck change) s = acknowledged h line change None s
handled_silent h line (ProbeAckData change bytes) s = acknowledged h line change (Some bytes) s
handled_silent h line (Release change) s = sent_silent h (record { line = line; body = ReleaseAck }) (with_notes (released s.views.notes (place_of (line_size s) line) h) s)
handled_silent h line (ReleaseData change bytes) s = sent_silent h (record { line = line; body = ReleaseAck }) (with_notes (released s.views.notes (place_of (line_size s) line) h) (with_memory line (Some bytes) s))
handled_silent h line (Grant cap) s = λ k.
    let n = record (node_at s h) { cache = granted (node_at s h).cache line cap None } in
    sent_silent h (record { line = line; body = GrantAck }) (with_node h n s) k ∙ node_silent h n s refl k
handled_silent h line (GrantData cap bytes) s = λ k.
    let n = record (node_at s h) { cache = granted (node_at s h).cache line cap (Some bytes) } in
    sent_silent h (record { line = line; body = GrantAck }) (with_node h n s) k ∙ node_silent h n s refl k
handled_silent h line ReleaseAck s = node_silent h (record (node_at s h) { cache = answered (node_at s h).cache line }) s refl
handled_silent h line GrantAck s = λ k. refl

-- ---- instructions

performs_silent : (h : ℕ) (places : List ℕ) (s : State) → Silent s (performs h places s)
performs_silent h [] s = λ k. refl
performs_silent h (place ∷ places) s = λ k.
    let t = with_performed (record { hart = h; place = place }) s.trace in
    performs_silent h places (with_trace t s) k ∙ trace_silent t s k

write_silent : (h word : ℕ) (marks : List Bool) (bytes : List ℕ) (s : State) → Silent s (writes_word h word marks bytes s)
write_silent h word marks bytes s = node_silent h (record (node_at s h) { cache = word_written (node_at s h).cache (line_of (node_at s h).cache.shape.size word) word marks bytes }) s refl

reservation_silent : (h : ℕ) (o : Option ℕ) (s : State) → Silent s (with_reservation h o s)
reservation_silent h o s = node_silent h (record (node_at s h) { reserved = o }) s refl

buffer_silent : (h : ℕ) (b : Groups) (s : State) → Silent s (with_buffer h b s)
buffer_silent h b s = node_silent h (record (node_at s h) { buffer = b }) s refl

own_silent : (h : ℕ) (s : State) → Silent s (performs_own h s)
own_silent h s = performs_silent h (next_place s h ∷ []) s

update_silent : (h word value : ℕ) (s : State) → Silent s (writes_word h word (marks_of_access 0 4) (bytes_of_word value) (performs_own h s))
update_silent h word value s = λ k. write_silent h word (marks_of_access 0 4) (bytes_of_word value) (performs_own h s) k ∙ own_silent h s k

does_puts : (model : MemoryModel) (h : ℕ) (d : Deed) (s : State) → PutsOut h s (does model h d s)
does_puts model h deed.Private s = silent h s s (λ k. refl)
does_puts model h (deed.Output number) s = λ k. more_set s.views.nodes h k (record (node_at s h) { output = (node_at s h).output ++ number ∷ [] }) (no_node s) (number ∷ []) refl
does_puts model h deed.Load s = silent h s (performs_own h s) (own_silent h s)
does_puts model h (deed.Store store) s =
    let b = put_behind model store (node_at s h).buffer in
    silent h s (with_buffer h b s) (buffer_silent h b s)
does_puts model h deed.Seal s =
    let b = after_seal (node_at s h).buffer in
    silent h s (with_buffer h b s) (buffer_silent h b s)
does_puts model h (deed.Lr word) s = silent h s (with_reservation h (Some word) (performs_own h s)) (λ k. reservation_silent h (Some word) (performs_own h s) k ∙ own_silent h s k)
does_puts model h deed.Fail s = silent h s (with_reservation h None s) (reservation_silent h None s)
does_puts model h (deed.Sc word value) s =
    let t = writes_word h word (marks_of_access 0 4) (bytes_of_word value) (performs_own h s) in
    silent h s (with_reservation h None t) (λ k. reservation_silent h None t k ∙ update_silent h word value s k)
does_puts model h (deed.Amo word value) s = silent h s (writes_word h word (marks_of_access 0 4) (bytes_of_word value) (performs_own h s)) (update_silent h word value s)

hart_silent : (t : History) (h : ℕ) (hart : Hart) (s : State) → Silent s (with_trace t (with_node h (record (node_at s h) { hart = hart }) s))
hart_silent t h hart s = both_silent t h (record (node_at s h) { hart = hart }) s refl

-- ---- acts

drained_silent : (h word : ℕ) (s : State) → Silent s (drained h word s)
drained_silent h word s = λ k.
    let e = entry_of word (oldest (node_at s h).buffer) in
    buffer_silent h (after_take word (node_at s h).buffer) (writes_word h word e.mask e.bytes (performs h e.ops s)) k
    ∙ (write_silent h word e.mask e.bytes (performs h e.ops s) k ∙ performs_silent h e.ops s k)

acted_puts : (h : ℕ) (a : Act) (s : State) → PutsOut h s (acted h a s)
acted_puts h (act.Stop code) s = silent h s (acted h (act.Stop code) s) (hart_silent (with_status h (Stopped code) s.trace) h (record (node_at s h).hart { status = Stopped code }) s)
acted_puts h (act.Retire entry i d) s =
    let t = does s.views.config.model h d s in
    let hart = after_instr (node_at t h).hart entry (Some i) in
    then_silent h s t (retired h entry i t) (does_puts s.views.config.model h d s) (hart_silent (with_halt h hart.status (with_entry h entry t.trace)) h hart t)
acted_puts h (act.Miss line grow) s =
    let n = record (node_at s h) { cache = (wanted (node_at s h).cache line grow).1 } in
    silent h s (acted h (act.Miss line grow) s) (λ k. sent_silent h (record { line = line; body = AcquireBlock grow }) (with_node h n s) k ∙ node_silent h n s refl k)
acted_puts h (act.Drain word) s = silent h s (drained h word s) (drained_silent h word s)
acted_puts h (act.Evict line) s =
    let answer = evicted (node_at s h).cache line in
    let less = with_less answer.1 line (node_at s h) in
    silent h s (acted h (act.Evict line) s) (λ k. if_evicted h line answer.0 (with_node h less s) k ∙ node_silent h less s refl k)
acted_puts h (act.Deliver m) s = silent h s (acted h (act.Deliver m) s) (λ k. handled_silent h m.line m.body (taken h m s) k ∙ taken_silent h m s k)
acted_puts h (act.Local count) s =
    let row = private_row s.trace.image (node_at s h).hart count in
    silent h s (acted h (act.Local count) s) (hart_silent (with_entries h row s.trace) h (reached (node_at s h).hart row) s)

-- ---- events

stays : (h : ℕ) (s : State) → PutsOut h s s
stays h s = silent h s s (λ k. refl)

if_limited : (limited : Bool) (h : ℕ) (s new : State) (o : Outcome) → PutsOut h s new → PutsOut h s (state_by s (cond limited Verdict.IsLimited (Verdict.Moves o new)))
if_limited true h s new o so = stays h s
if_limited false h s new o so = so

by_plan : (s : State) (h : ℕ) (p : Plan) → PutsOut h s (state_by s (verdict_by s h p))
by_plan s h (plan.Stays o) = stays h s
by_plan s h (plan.Changes a) = if_limited (is_limited s h a) h s (counted (acted h a s)) (outcome_of_act s h a) (acted_puts h a s)

if_good : (good : Bool) (h : ℕ) (s : State) (v : Verdict) → PutsOut h s (state_by s v) → PutsOut h s (state_by s (cond good v Verdict.IsBad))
if_good true h s v so = so
if_good false h s v so = stays h s

pub puts_out : (s : State) (e : Event) → PutsOut (hart_of e) s (happens s e)
puts_out s e = if_good (is_good s e) (hart_of e) s (verdict_by s (hart_of e) (plan_of s e)) (by_plan s (hart_of e) (plan_of s e))

-- nothing was put out at reset
pub nothing_at : (image : Initial) (config : Config) (harts : List ℕ) (k : ℕ) (d : Node) → d.output ≡ [] → (slice_index_or (map (opening_node image config) harts) k d).output ≡ []
nothing_at image config [] k d none = none
nothing_at image config (h ∷ harts) zero d none = refl
nothing_at image config (h ∷ harts) (suc k) d none = nothing_at image config harts k d none
