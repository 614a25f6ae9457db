-- What a message in front of its queue waits for where it can't be taken yet: its line, the line's transaction, and which message of which harts.
use Rattle.std.specs.Prelude.{ℕ, ◌<◌, ◌≤◌, if◌then◌else◌, List, [], ◌∷◌, ◌++◌, length, Option, Some, None, option_map, codes, decimal}
use Rattle.std.specs.List.{flat_map, range_with_len}
use Rattle.directory.specs.Directory.{line_at}
use Rattle.directory.specs.Lines.{Line, known_at}
use Rattle.directory.specs.declared.answer.Known.{Known}
use Rattle.directory.specs.declared.answer.Transaction.{Transaction}
use Rattle.directory.specs.declared.answer.Transaction.TheVariants.{Idle, Probing, Granted}
use Rattle.elf_loader.specs.Size.{base}
use Rattle.machine_model.specs.Events.{hart_of}
use Rattle.machine_model.specs.Views.{State, line_size, node_at, place_of}
use Rattle.machine_types.specs.declared.event.Event.{Event}
use Rattle.machine_types.specs.declared.outcome.Outcome.{Outcome}
use Rattle.machine_types.specs.declared.outcome.Outcome.TheVariants.{Retired, Stopped, Exited, Drained, Delivered, Evicted, Missed, Halted, WaitRelease, WaitGrant, NoTracker, SetFull, BufferFull, MustDrain, NoEntry, NotOldest, Empty, Busy, Releasing, AckFull, NotHeld, AcquirePending, ReleaseFull, NotLocal}
use Rattle.text_fields.specs.Fields.{word}
use Rattle.tilelink_channels.specs.Queues.{front_of, queue_of}
use Rattle.tl_types.specs.declared.message.Channel.{Channel}
use Rattle.tl_types.specs.declared.message.Channel.TheVariants.{A, B}
use Rattle.tl_types.specs.declared.message.Msg.{Msg}
use Rattle.trace_text.specs.Words.{grow}

-- ---- the message in front

-- the line of the message in front of a hart's queue of a channel
abbrev pub front_line : State → ℕ → Channel → Option ℕ
front_line s h channel = option_map (λ (m : Msg). m.line) (front_of (queue_of (node_at s h).queues channel))

-- the manager has notes of the line at this address
pub record IsNoted (s : State) (line : ℕ) : Type 0 where
  pub from : base ≤ line
  pub place : place_of (line_size s) line < length s.views.notes.lines

-- what the manager notes of the line at this address
abbrev pub notes_at : State → ℕ → Line
notes_at s line = line_at s.views.notes (place_of (line_size s) line)

-- ---- the line's transaction

-- its hart, and what that asked for while its Grant awaits ProbeAcks
abbrev pub transaction_text : Transaction → List ℕ
transaction_text Idle = []
transaction_text (Probing h g) = codes " Probing " ++ (decimal h ++ grow g)
transaction_text (Granted h) = codes " Granted " ++ decimal h

-- behind the line's address
abbrev pub lead : ℕ → Transaction → List ℕ
lead line t = codes " ; " ++ (word line ++ transaction_text t)

-- ---- whom it waits for

abbrev pub hart_text : ℕ → List ℕ
hart_text h = 32 ∷ decimal h

-- a hart, where its ProbeAck is awaited
abbrev pub probed_text : Known → ℕ → List ℕ
probed_text k h = if k.awaited then hart_text h else []

abbrev pub probed_hart : Line → ℕ → List ℕ
probed_hart l h = probed_text (known_at l h) h

abbrev pub probed_harts : State → ℕ → List ℕ
probed_harts s line = flat_map (probed_hart (notes_at s line)) (range_with_len 0 s.views.notes.harts)

abbrev pub probe_acks : State → ℕ → List ℕ
probe_acks s line = codes " awaits ProbeAck" ++ probed_harts s line

-- ProbeAcks of those harts, or the GrantAck of the one that has the Grant
abbrev pub awaited_by : State → ℕ → Transaction → List ℕ
awaited_by s line Idle = []
awaited_by s line (Probing h g) = probe_acks s line
awaited_by s line (Granted h) = codes " awaits GrantAck " ++ decimal h

-- ---- behind an event's line

abbrev pub until_idle : State → ℕ → Transaction → List ℕ
until_idle s line t = lead line t ++ awaited_by s line t

abbrev pub until_answered : (h line : ℕ) → Transaction → List ℕ
until_answered h line t = lead line t ++ (codes " awaits ReleaseAck " ++ decimal h)

-- an Acquire waits for the end of its line's transaction
abbrev pub busy : State → Option ℕ → List ℕ
busy s None = []
busy s (Some line) = until_idle s line (notes_at s line).transaction

-- a Probe waits until its hart's Release of the line is answered
abbrev pub releasing : State → ℕ → Option ℕ → List ℕ
releasing s h None = []
releasing s h (Some line) = until_answered h line (notes_at s line).transaction

abbrev pub stall : State → Event → Outcome → List ℕ
stall s e Busy = busy s (front_line s (hart_of e) A)
stall s e Releasing = releasing s (hart_of e) (front_line s (hart_of e) B)
stall s e Retired = []
stall s e (Stopped code) = []
stall s e (Exited code) = []
stall s e Drained = []
stall s e Delivered = []
stall s e Evicted = []
stall s e (Missed line) = []
stall s e Halted = []
stall s e WaitRelease = []
stall s e WaitGrant = []
stall s e NoTracker = []
stall s e SetFull = []
stall s e BufferFull = []
stall s e MustDrain = []
stall s e NoEntry = []
stall s e NotOldest = []
stall s e Empty = []
stall s e AckFull = []
stall s e NotHeld = []
stall s e AcquirePending = []
stall s e ReleaseFull = []
stall s e NotLocal = []
