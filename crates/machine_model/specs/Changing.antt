-- What each act changes.
use Rattle.std.specs.Prelude.{ℕ, Bool, List, [], ◌∷◌, ◌++◌, length, Option, Some, None}
use Rattle.client_cache.specs.Cache.{wanted, evicted, word_written}
use Rattle.client_cache.specs.declared.answers.Evict.{Evict}
use Rattle.client_cache.specs.declared.answers.Evict.TheVariants.{NotHeld, AcquirePending, ReleaseFull, Evicted}
use Rattle.hart.specs.declared.retired.Retired.{Retired}
use Rattle.hart.specs.declared.status.Status.{Status}
use Rattle.hart.specs.declared.status.Status.TheVariants.{Running, Stopped, Exited}
use Rattle.hart.specs.Local.{private_row}
use Rattle.hart.specs.Run.{after_instr, reached}
use Rattle.machine_model.specs.declared.act.Act.{Act}
use Rattle.machine_model.specs.declared.act.Act.TheVariants as act
use Rattle.machine_model.specs.declared.act.Deed.{Deed}
use Rattle.machine_model.specs.declared.act.Deed.TheVariants as deed
use Rattle.machine_types.specs.declared.outcome.Outcome.{Outcome}
use Rattle.machine_types.specs.declared.outcome.Outcome.TheVariants as outcome
use Rattle.machine_model.specs.Deliveries.{delivered, with_less}
use Rattle.machine_model.specs.Views.{State, node_at, with_node, with_trace, sent}
use Rattle.machine_model.specs.Words.{bytes_of_word}
use Rattle.machine_types.specs.declared.model.MemoryModel.{MemoryModel}
use Rattle.machine_types.specs.declared.model.MemoryModel.TheVariants.{Rvwmo, Ztso}
use Rattle.rv32_decode.specs.declared.instruction.Instr.{Instr}
use Rattle.store_buffer.specs.ByteMask.{marks_of_access}
use Rattle.store_buffer.specs.Entry.{entry_of}
use Rattle.store_buffer.specs.Groups.{Groups, after_put, after_put_single, after_seal, after_take, oldest}
use Rattle.store_buffer.specs.declared.entry.Store.{Store}
use Rattle.tl_types.specs.Line.{line_of}
use Rattle.tl_types.specs.declared.line.LineData.{LineData}
use Rattle.tl_types.specs.declared.message.Body.{Body}
use Rattle.tl_types.specs.declared.message.Body.TheVariants.{AcquireBlock, Release, ReleaseData}
use Rattle.tl_types.specs.declared.permission.Change.{Change}
use Rattle.tl_types.specs.declared.permission.Grow.{Grow}
use Rattle.trace_recorder.specs.History.{History, entries_of, with_entry, with_performed, with_status}

-- ---- the trace

-- how many instructions of a hart have retired: the place of its next one
abbrev pub next_place : State → ℕ → ℕ
next_place s h = length (entries_of s.trace h)

-- these operations of a hart are performed, one after the other
abbrev pub performs : ℕ → List ℕ → State → State
performs h [] s = s
performs h (place ∷ places) s = performs h places (with_trace (with_performed (record { hart = h; place = place }) s.trace) s)

-- the operation of the instruction that retires is performed
abbrev pub performs_own : ℕ → State → State
performs_own h s = performs h (next_place s h ∷ []) s

abbrev pub with_halt : ℕ → Status → History → History
with_halt h Running t = t
with_halt h (Stopped code) t = with_status h (Stopped code) t
with_halt h (Exited code) t = with_status h (Exited code) t

-- ---- what an instruction does as it retires

abbrev pub with_buffer : ℕ → Groups → State → State
with_buffer h b s = with_node h (record (node_at s h) { buffer = b }) s

abbrev pub with_reservation : ℕ → Option ℕ → State → State
with_reservation h reserved s = with_node h (record (node_at s h) { reserved = reserved }) s

-- the marked bytes of a word are written to the hart's copy
abbrev pub writes_word : ℕ → ℕ → List Bool → List ℕ → State → State
writes_word h word marks bytes s =
    let n = node_at s h in
    with_node h (record n { cache = word_written n.cache (line_of n.cache.shape.size word) word marks bytes }) s

-- a store waits; under Ztso a group holds one word
abbrev pub put_behind : MemoryModel → Store → Groups → Groups
put_behind Rvwmo store b = after_put store b
put_behind Ztso store b = after_put_single store b

abbrev pub does : MemoryModel → ℕ → Deed → State → State
does model h deed.Private s = s
does model h (deed.Output number) s = with_node h (record (node_at s h) { output = (node_at s h).output ++ number ∷ [] }) s
does model h deed.Load s = performs_own h s
does model h (deed.Store store) s = with_buffer h (put_behind model store (node_at s h).buffer) s
does model h deed.Seal s = with_buffer h (after_seal (node_at s h).buffer) s
does model h (deed.Lr word) s = with_reservation h (Some word) (performs_own h s)
does model h deed.Fail s = with_reservation h None s
does model h (deed.Sc word value) s = with_reservation h None (writes_word h word (marks_of_access 0 4) (bytes_of_word value) (performs_own h s))
does model h (deed.Amo word value) s = writes_word h word (marks_of_access 0 4) (bytes_of_word value) (performs_own h s)

-- the hart moves on, and its list has one more entry
abbrev pub retired : ℕ → Retired → Instr → State → State
retired h entry i s =
    let n = node_at s h in
    let hart = after_instr n.hart entry (Some i) in
    with_trace (with_halt h hart.status (with_entry h entry s.trace)) (with_node h (record n { hart = hart }) s)

-- ---- the other acts

abbrev pub stopped : ℕ → ℕ → State → State
stopped h code s =
    let n = node_at s h in
    with_trace (with_status h (Stopped code) s.trace) (with_node h (record n { hart = record n.hart { status = Stopped code } }) s)

-- an Acquire takes a tracker and a slot, and goes out
abbrev pub missed : ℕ → ℕ → Grow → State → State
missed h line grow s =
    let n = node_at s h in
    sent h (record { line = line; body = AcquireBlock grow }) (with_node h (record n { cache = (wanted n.cache line grow).1 }) s)

-- the word's entry leaves the oldest group, its stores are performed in program order, and the copy is written
abbrev pub drained : ℕ → ℕ → State → State
drained h word s =
    let e = entry_of word (oldest (node_at s h).buffer) in
    with_buffer h (after_take word (node_at s h).buffer) (writes_word h word e.mask e.bytes (performs h e.ops s))

abbrev pub release_body : Change → Option LineData → Body
release_body change None = Release change
release_body change (Some bytes) = ReleaseData change bytes

abbrev pub sent_if_evicted : ℕ → ℕ → Evict → State → State
sent_if_evicted h line (Evicted change bytes) s = sent h (record { line = line; body = release_body change bytes }) s
sent_if_evicted h line NotHeld s = s
sent_if_evicted h line AcquirePending s = s
sent_if_evicted h line ReleaseFull s = s

abbrev pub given_up : ℕ → ℕ → State → State
given_up h line s =
    let answer = evicted (node_at s h).cache line in
    sent_if_evicted h line answer.0 (with_node h (with_less answer.1 line (node_at s h)) s)

-- so many private instructions retire at once
abbrev pub with_entries : ℕ → List Retired → History → History
with_entries h [] t = t
with_entries h (entry ∷ rest) t = with_entries h rest (with_entry h entry t)

abbrev pub went_alone : ℕ → ℕ → State → State
went_alone h count s =
    let n = node_at s h in
    let row = private_row s.trace.image n.hart count in
    with_trace (with_entries h row s.trace) (with_node h (record n { hart = reached n.hart row }) s)

-- ---- an act

abbrev pub acted : ℕ → Act → State → State
acted h (act.Stop code) s = stopped h code s
acted h (act.Retire entry i d) s = retired h entry i (does s.views.config.model h d s)
acted h (act.Miss line grow) s = missed h line grow s
acted h (act.Drain word) s = drained h word s
acted h (act.Evict line) s = given_up h line s
acted h (act.Deliver m) s = delivered h m s
acted h (act.Local count) s = went_alone h count s

-- an instruction that ends its hart says with which code
abbrev pub outcome_by : Status → Outcome
outcome_by Running = outcome.Retired
outcome_by (Stopped code) = outcome.Stopped code
outcome_by (Exited code) = outcome.Exited code

abbrev pub outcome_of_act : State → ℕ → Act → Outcome
outcome_of_act s h (act.Stop code) = outcome.Stopped code
outcome_of_act s h (act.Retire entry i d) = outcome_by (after_instr (node_at s h).hart entry (Some i)).status
outcome_of_act s h (act.Miss line grow) = outcome.Missed line
outcome_of_act s h (act.Drain word) = outcome.Drained
outcome_of_act s h (act.Evict line) = outcome.Evicted
outcome_of_act s h (act.Deliver m) = outcome.Delivered
outcome_of_act s h (act.Local count) = outcome.Retired
