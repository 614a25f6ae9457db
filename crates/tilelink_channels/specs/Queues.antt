-- The messages that wait between one hart's cache and the manager: a list for each channel, the first sent in front
-- (TileLink 1.8.1, "Channels": messages of one channel arrive in the order in which they were sent).
use Rattle.std.specs.Prelude.{ℕ, ◌+◌, ◌-◌, ◌*◌, List, [], ◌∷◌, ◌++◌, Option, Some, None}
use Rattle.machine_types.specs.declared.limits.TheConstants.{MAX_HARTS, TRACKERS}
use Rattle.machine_types.specs.Channel.{Channel}
use Rattle.machine_types.specs.TheVariants.{A, B, C, D, E}
use Rattle.machine_types.specs.Msg.{Msg}
use Rattle.machine_types.specs.Message.{channel_of}

pub record Waiting : Type 0 where
  pub a : List Msg
  pub b : List Msg
  pub c : List Msg
  pub d : List Msg
  pub e : List Msg

abbrev pub none_waiting : Waiting
none_waiting = record { a = []; b = []; c = []; d = []; e = [] }

-- how many messages a queue has room for: A each Acquire, B a Probe for each Acquire of each other hart, C the answers to
-- them and each Release, D an answer to each Acquire and Release, E a GrantAck for each Acquire
abbrev pub room_of : Channel → ℕ
room_of A = TRACKERS
room_of B = TRACKERS * (MAX_HARTS - 1)
room_of C = TRACKERS * (MAX_HARTS - 1) + TRACKERS
room_of D = TRACKERS + TRACKERS
room_of E = TRACKERS

abbrev pub queue_of : Waiting → Channel → List Msg
queue_of w A = w.a
queue_of w B = w.b
queue_of w C = w.c
queue_of w D = w.d
queue_of w E = w.e

abbrev pub with_queue : Waiting → Channel → List Msg → Waiting
with_queue w A ms = record w { a = ms }
with_queue w B ms = record w { b = ms }
with_queue w C ms = record w { c = ms }
with_queue w D ms = record w { d = ms }
with_queue w E ms = record w { e = ms }

abbrev pub front_of : List Msg → Option Msg
front_of [] = None
front_of (m ∷ ms) = Some m

abbrev pub behind : List Msg → List Msg
behind [] = []
behind (m ∷ ms) = ms

-- a message goes to the back of its own channel's queue
abbrev pub pushed : Waiting → Msg → Waiting
pushed w m = with_queue w (channel_of m) (queue_of w (channel_of m) ++ m ∷ [])

-- the message in front leaves
abbrev pub popped : Waiting → Channel → Waiting
popped w channel = with_queue w channel (behind (queue_of w channel))
