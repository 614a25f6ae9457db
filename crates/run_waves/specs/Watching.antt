-- Which parts of a machine an event may change.
use Rattle.std.specs.Prelude.{ℕ, if◌then◌else◌, List, [], ◌∷◌, ◌++◌, length, map, nat_lt, Option, Some, None}
use Rattle.std.specs.List.{range_with_len}
use Rattle.hart.specs.Next.{next_action}
use Rattle.machine_model.specs.Views.{State, line_size, node_at}
use Rattle.machine_types.specs.declared.event.Event.{Event}
use Rattle.machine_types.specs.declared.event.Event.TheVariants as event
use Rattle.hart.specs.Actions.{addressed}
use Rattle.hart.specs.Action.{Action}
use Rattle.tilelink_channels.specs.Queues.{front_of, queue_of}
use Rattle.tl_types.specs.Line.{line_of}
use Rattle.tl_types.specs.declared.message.Channel.{Channel}
use Rattle.tl_types.specs.declared.message.Channel.TheVariants.{A, B, C, D, E}
use Rattle.tl_types.specs.declared.message.Msg.{Msg}
use Rattle.run_waves.specs.declared.groups.Group.{Group}
use Rattle.run_waves.specs.declared.groups.Group.TheVariants as part

-- ---- parts of each hart

abbrev pub harts_of : State → List ℕ
harts_of s = range_with_len 0 s.views.notes.harts

abbrev pub queues_on : State → Channel → List Group
queues_on s c = map (λ h. part.Queue h c) (harts_of s)

abbrev pub records_of : State → ℕ → List Group
records_of s line = map (λ h. part.Record h line) (harts_of s)

-- what the manager notes of a line
abbrev pub notes_of : State → ℕ → List Group
notes_of s line = part.Transaction line ∷ records_of s line

-- ---- a step

abbrev pub accessed_by : Option Action → Option ℕ
accessed_by None = None
accessed_by (Some action) = addressed action

-- the address that a hart's next instruction reads or writes, where there is such a hart
abbrev pub next_address : State → ℕ → Option ℕ
next_address s h = if nat_lt h (length s.views.nodes) then accessed_by (next_action s.trace.image (node_at s h).hart) else None

-- a hart's copy of the line around an address
abbrev pub copy_around : State → ℕ → Option ℕ → List Group
copy_around s h None = []
copy_around s h (Some address) = part.Copy h (line_of (line_size s) address) ∷ []

-- the hart, and the Acquire of the line that it accesses
abbrev pub by_step : State → ℕ → List Group
by_step s h = part.Hart h ∷ part.Queue h A ∷ copy_around s h (next_address s h)

-- ---- a drain, and an eviction

abbrev pub by_drain : State → ℕ → ℕ → List Group
by_drain s h word = part.Hart h ∷ part.Queue h A ∷ part.Copy h (line_of (line_size s) word) ∷ []

abbrev pub by_eviction : ℕ → ℕ → List Group
by_eviction h line = part.Hart h ∷ part.Queue h C ∷ part.Copy h line ∷ []

-- ---- a delivery

abbrev pub front_at : State → ℕ → Channel → Option Msg
front_at s h c = if nat_lt h (length s.views.nodes) then front_of (queue_of (node_at s h).queues c) else None

-- an Acquire leaves its queue, and is answered by a Grant, or Probes go out
abbrev pub by_acquire : State → ℕ → ℕ → List Group
by_acquire s h line = part.Queue h A ∷ part.Queue h D ∷ (queues_on s B ++ notes_of s line)

-- a Probe leaves its queue and is answered, and the copy shrinks, by which a reservation may end
abbrev pub by_probe : ℕ → ℕ → List Group
by_probe h line = part.Hart h ∷ part.Queue h B ∷ part.Queue h C ∷ part.Copy h line ∷ []

-- a ProbeAck or a Release leaves its queue, and a Grant or a ReleaseAck goes out
abbrev pub by_release : State → ℕ → ℕ → List Group
by_release s h line = part.Queue h C ∷ (queues_on s D ++ notes_of s line)

-- a Grant or a ReleaseAck leaves its queue, and the cache takes it and answers a Grant
abbrev pub by_grant : ℕ → ℕ → List Group
by_grant h line = part.Queue h D ∷ part.Queue h E ∷ part.Copy h line ∷ []

-- a GrantAck leaves its queue, and ends the transaction
abbrev pub by_grant_ack : ℕ → ℕ → List Group
by_grant_ack h line = part.Queue h E ∷ part.Transaction line ∷ []

abbrev pub by_message : State → Channel → ℕ → ℕ → List Group
by_message s A h line = by_acquire s h line
by_message s B h line = by_probe h line
by_message s C h line = by_release s h line
by_message s D h line = by_grant h line
by_message s E h line = by_grant_ack h line

abbrev pub by_front : State → Channel → ℕ → Option Msg → List Group
by_front s c h None = []
by_front s c h (Some m) = by_message s c h m.line

abbrev pub by_delivery : State → Channel → ℕ → List Group
by_delivery s c h = by_front s c h (front_at s h c)

-- ---- any event

-- the parts of a machine that an event may change
abbrev pub watched : State → Event → List Group
watched s (event.Step h) = by_step s h
watched s (event.Drain h word) = by_drain s h word
watched s (event.Evict h line) = by_eviction h line
watched s (event.Deliver c h) = by_delivery s c h
watched s (event.Local h count) = part.Hart h ∷ []
