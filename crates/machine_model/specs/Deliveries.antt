-- What the message in front of a queue comes to, and what its delivery changes (TileLink 1.8.1, "TL-C"). That a Release is answered also while its line is probed, and which Grants go without data, is this machine's own.
use Rattle.std.specs.Prelude.{ℕ, Bool, true, false, if◌then◌else◌, List, [], ◌∷◌, Option, Some, None, length, nat_le, slice_set}
use Rattle.backing_memory.specs.Memory.{line_data}
use Rattle.client_cache.specs.Cache.{Cache, copy_at, probed, granted, answered}
use Rattle.client_cache.specs.Held.{perm_of}
use Rattle.client_cache.specs.declared.answers.Probed.{Probed}
use Rattle.client_cache.specs.declared.answers.Probed.TheVariants.{Releasing, Answered}
use Rattle.directory.specs.Directory.{Notes, acquired, probe_acked, released, grant_acked}
use Rattle.directory.specs.declared.answer.Acquired.{Acquired}
use Rattle.directory.specs.declared.answer.Acquired.TheVariants.{Handled, Busy}
use Rattle.directory.specs.declared.answer.Grant.{Grant as Granting}
use Rattle.directory.specs.declared.answer.Sent.{Sent}
use Rattle.directory.specs.declared.answer.Sent.TheVariants.{Probes, Granting as Grants}
use Rattle.machine_model.specs.declared.act.Act.TheVariants as act
use Rattle.machine_model.specs.declared.act.Plan.{Plan}
use Rattle.machine_model.specs.declared.act.Plan.TheVariants.{Stays, Changes}
use Rattle.machine_types.specs.declared.outcome.Outcome.TheVariants as outcome
use Rattle.machine_model.specs.Views.{Node, State, line_size, place_of, node_at, with_node, with_trace, sent}
use Rattle.reservations.specs.Reservation.{without_line}
use Rattle.tilelink_channels.specs.Queues.{front_of, popped, queue_of, room_of}
use Rattle.tl_types.specs.Message.{channel_of}
use Rattle.tl_types.specs.declared.line.LineData.{LineData}
use Rattle.tl_types.specs.declared.message.Body.{Body}
use Rattle.tl_types.specs.declared.message.Body.TheVariants.{AcquireBlock, ProbeBlock, ProbeAck, ProbeAckData, Release, ReleaseData, Grant, GrantData, ReleaseAck, GrantAck}
use Rattle.tl_types.specs.declared.message.Channel.{Channel}
use Rattle.tl_types.specs.declared.message.Channel.TheVariants.{E}
use Rattle.tl_types.specs.declared.message.Msg.{Msg}
use Rattle.tl_types.specs.declared.permission.Cap.{Cap}
use Rattle.tl_types.specs.declared.permission.Change.{Change}
use Rattle.tl_types.specs.declared.permission.Grow.{Grow}
use Rattle.tl_types.specs.declared.permission.Perm.{Perm}
use Rattle.tl_types.specs.declared.permission.Perm.TheVariants.{Nothing, Branch, Trunk}
use Rattle.trace_recorder.specs.History.{with_logged}
use Rattle.trace_recorder.specs.declared.logged.Direction.TheVariants.{Taken}

-- ---- deciding

abbrev pub unless_busy : Acquired → Plan → Plan
unless_busy Busy go = Stays outcome.Busy
unless_busy (Handled sends) go = go

abbrev pub unless_releasing : Probed → Plan → Plan
unless_releasing Releasing go = Stays outcome.Releasing
unless_releasing (Answered change bytes) go = go

-- a Grant needs room for its GrantAck
abbrev pub unless_acks_full : Node → Plan → Plan
unless_acks_full n go = if nat_le (room_of E) (length n.queues.e) then Stays outcome.AckFull else go

abbrev pub plan_body : State → ℕ → Node → ℕ → Body → Plan → Plan
plan_body s h n line (AcquireBlock grow) go = unless_busy (acquired s.views.notes (place_of (line_size s) line) h grow).0 go
plan_body s h n line (ProbeBlock cap) go = unless_releasing (probed n.cache line cap).0 go
plan_body s h n line (Grant cap) go = unless_acks_full n go
plan_body s h n line (GrantData cap bytes) go = unless_acks_full n go
plan_body s h n line _ go = go

abbrev pub plan_front : State → ℕ → Node → Option Msg → Plan
plan_front s h n None = Stays outcome.Empty
plan_front s h n (Some m) = plan_body s h n m.line m.body (Changes (act.Deliver m))

-- only the front of a queue is looked at
abbrev pub plan_deliver : State → ℕ → Node → Channel → Plan
plan_deliver s h n channel = plan_front s h n (front_of (queue_of n.queues channel))

-- ---- the manager's side

abbrev pub with_notes : Notes → State → State
with_notes notes s = record s { views = record s.views { notes = notes } }

abbrev pub line_in_memory : State → ℕ → LineData
line_in_memory s line = line_data s.views.memory (place_of (line_size s) line)

-- data that comes with an answer goes to memory
abbrev pub with_memory : ℕ → Option LineData → State → State
with_memory line None s = s
with_memory line (Some bytes) s = record s { views = record s.views { memory = slice_set s.views.memory (place_of (line_size s) line) bytes } }

-- a Probe to each of these harts
abbrev pub sent_probes : List ℕ → ℕ → Cap → State → State
sent_probes [] line cap s = s
sent_probes (hart ∷ harts) line cap s = sent_probes harts line cap (sent hart (record { line = line; body = ProbeBlock cap }) s)

abbrev pub grant_body : Granting → LineData → Body
grant_body g bytes = if g.with_data then GrantData g.cap bytes else Grant g.cap

abbrev pub sent_grant : ℕ → Granting → State → State
sent_grant line g s = sent g.hart (record { line = line; body = grant_body g (line_in_memory s line) }) s

abbrev pub sent_any : ℕ → Sent → State → State
sent_any line (Probes cap harts) s = sent_probes harts line cap s
sent_any line (Grants g) s = sent_grant line g s

abbrev pub sent_if_handled : ℕ → Acquired → State → State
sent_if_handled line Busy s = s
sent_if_handled line (Handled sends) s = sent_any line sends s

abbrev pub sent_if_granted : ℕ → Option Granting → State → State
sent_if_granted line None s = s
sent_if_granted line (Some g) s = sent_grant line g s

-- an Acquire: Probes to those who stand in its way, or the Grant
abbrev pub on_acquire : ℕ → ℕ → Grow → State → State
on_acquire h line grow s =
    let answer = acquired s.views.notes (place_of (line_size s) line) h grow in
    sent_if_handled line answer.0 (with_notes answer.1 s)

-- a ProbeAck: its data goes to memory, and the last one that was awaited sends the Grant
abbrev pub on_probe_ack : ℕ → ℕ → Change → Option LineData → State → State
on_probe_ack h line change bytes s =
    let answer = probe_acked s.views.notes (place_of (line_size s) line) h change in
    sent_if_granted line answer.0 (with_notes answer.1 (with_memory line bytes s))

-- a Release: its data goes to memory, and it is answered at once
abbrev pub on_release : ℕ → ℕ → Option LineData → State → State
on_release h line bytes s =
    sent h (record { line = line; body = ReleaseAck }) (with_notes (released s.views.notes (place_of (line_size s) line) h) (with_memory line bytes s))

abbrev pub on_grant_ack : ℕ → State → State
on_grant_ack line s = with_notes (grant_acked s.views.notes (place_of (line_size s) line)) s

-- ---- the cache's side

abbrev pub is_trunk : Perm → Bool
is_trunk Trunk = true
is_trunk Branch = false
is_trunk Nothing = false

-- a reservation of a word of the line lasts while the copy is Trunk
abbrev pub kept_reservation : Cache → ℕ → Option ℕ → Option ℕ
kept_reservation c line reserved = if is_trunk (perm_of (copy_at c line)) then reserved else without_line line c.shape.size reserved

-- the cache becomes this after a Probe or an eviction of the line
abbrev pub with_less : Cache → ℕ → Node → Node
with_less c line n = record n { cache = c; reserved = kept_reservation c line n.reserved }

abbrev pub probe_ack_body : Change → Option LineData → Body
probe_ack_body change None = ProbeAck change
probe_ack_body change (Some bytes) = ProbeAckData change bytes

abbrev pub sent_if_answered : ℕ → ℕ → Probed → State → State
sent_if_answered h line Releasing s = s
sent_if_answered h line (Answered change bytes) s = sent h (record { line = line; body = probe_ack_body change bytes }) s

-- a Probe: the copy shrinks, and its answer says to what
abbrev pub on_probe : ℕ → ℕ → Cap → State → State
on_probe h line cap s =
    let answer = probed (node_at s h).cache line cap in
    sent_if_answered h line answer.0 (with_node h (with_less answer.1 line (node_at s h)) s)

-- a Grant: the copy is installed clean
abbrev pub on_grant : ℕ → ℕ → Cap → Option LineData → State → State
on_grant h line cap bytes s =
    sent h (record { line = line; body = GrantAck }) (with_node h (record (node_at s h) { cache = granted (node_at s h).cache line cap bytes }) s)

abbrev pub on_release_ack : ℕ → ℕ → State → State
on_release_ack h line s = with_node h (record (node_at s h) { cache = answered (node_at s h).cache line }) s

-- ---- a delivery

-- the message leaves the front of its queue, which the log says first
abbrev pub taken : ℕ → Msg → State → State
taken h m s = with_trace (with_logged (record { direction = Taken; hart = h; message = m }) s.trace) (with_node h (record (node_at s h) { queues = popped (node_at s h).queues (channel_of m) }) s)

abbrev pub handled : ℕ → ℕ → Body → State → State
handled h line (AcquireBlock grow) s = on_acquire h line grow s
handled h line (ProbeBlock cap) s = on_probe h line cap s
handled h line (ProbeAck change) s = on_probe_ack h line change None s
handled h line (ProbeAckData change bytes) s = on_probe_ack h line change (Some bytes) s
handled h line (Release change) s = on_release h line None s
handled h line (ReleaseData change bytes) s = on_release h line (Some bytes) s
handled h line (Grant cap) s = on_grant h line cap None s
handled h line (GrantData cap bytes) s = on_grant h line cap (Some bytes) s
handled h line ReleaseAck s = on_release_ack h line s
handled h line GrantAck s = on_grant_ack line s

abbrev pub delivered : ℕ → Msg → State → State
delivered h m s = handled h m.line m.body (taken h m s)
