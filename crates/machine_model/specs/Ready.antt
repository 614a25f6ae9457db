-- What a machine of numbers of fixed widths and queues of fixed rooms rests on: how large everything is, and what the act of an event finds.
use Rattle.std.specs.Prelude.{ℕ, ◌≡◌, ◌≢◌, ◌<◌, ◌≤◌, ◌/◌, ◌%◌, false, length, Contains, IsTrue, Some}
use Rattle.std.specs.FinSet as set
use Rattle.machine_types.specs.declared.limits.TheConstants.{MAX_CHANGES, MAX_ENTRIES}
use Rattle.backing_memory.specs.Memory.{line_data}
use Rattle.client_cache.specs.declared.shape.Shape.{Shape}
use Rattle.elf_loader.specs.Image.{IsImage}
use Rattle.machine_model.specs.declared.act.Act.{Act}
use Rattle.machine_model.specs.declared.act.Act.TheVariants as act
use Rattle.machine_model.specs.declared.act.Deed.{Deed}
use Rattle.machine_model.specs.declared.act.Deed.TheVariants as deed
use Rattle.machine_model.specs.declared.act.Plan.TheVariants.{Changes}
use Rattle.machine_types.specs.declared.event.Event.{Event}
use Rattle.machine_model.specs.Changing.{acted}
use Rattle.machine_model.specs.Coherent.{perm_at}
use Rattle.machine_model.specs.Events.{hart_of, is_good, is_limited, is_piece, plan_of}
use Rattle.machine_model.specs.Laws.{Always, QueuesFit}
use Rattle.machine_model.specs.Views.{State, line_size, node_at, shape_of_config}
use Rattle.store_buffer.specs.Groups.{drainable, fits}
use Rattle.tilelink_channels.specs.Queues.{front_of, queue_of}
use Rattle.tl_types.specs.Line.{length_of, line_of, size_of}
use Rattle.tl_types.specs.Message.{channel_of}
use Rattle.tl_types.specs.Permission.{left_by}
use Rattle.tl_types.specs.declared.message.Body.{Body}
use Rattle.tl_types.specs.declared.message.Body.TheVariants.{ProbeAck, ProbeAckData, ReleaseData, Grant, GrantData}
use Rattle.tl_types.specs.declared.message.Channel.{Channel}
use Rattle.tl_types.specs.declared.message.Msg.{Msg}
use Rattle.tl_types.specs.declared.permission.Perm.TheVariants.{Trunk}
use Rattle.trace_recorder.specs.History.{entries_of}

-- ---- how large everything is

abbrev pub shape_of : State → Shape
shape_of s = shape_of_config s.views.config

abbrev pub line_count : State → ℕ
line_count s = length s.trace.image.bytes / length_of (line_size s)

pub record IsSound (s : State) : Type 0 where
  pub image : IsImage s.trace.image
  pub nodes : length s.views.nodes ≡ s.views.config.harts
  pub entries : length s.trace.entries ≡ s.views.config.harts
  pub statuses : length s.trace.statuses ≡ s.views.config.harts
  pub line : s.trace.line ≡ line_size s
  pub noted_harts : s.views.notes.harts ≡ s.views.config.harts
  pub noted_lines : length s.views.notes.lines ≡ line_count s
  pub lines : length s.views.memory ≡ line_count s
  pub sizes : (i : ℕ) → i < length s.views.memory → size_of (line_data s.views.memory i) ≡ line_size s
  pub shapes : (h : ℕ) → (node_at s h).cache.shape ≡ shape_of s
  pub queued : (h : ℕ) (channel : Channel) (m : Msg) → Contains (queue_of (node_at s h).queues channel) m → IsTrue (is_piece s.trace.image m.line (length_of (line_size s)))
  pub changes : s.views.changes ≤ MAX_CHANGES
  pub places : (h : ℕ) → length (entries_of s.trace h) ≤ MAX_ENTRIES

abbrev pub SoundAlways : Type 0
SoundAlways = Always (λ image config s. IsSound s)

-- ---- what an act finds

-- the word is aligned, and the hart may write its line
pub record IsWritable (h word : ℕ) (s : State) : Type 0 where
  pub aligned : word % 4 ≡ 0
  pub trunk : perm_at s h (line_of (line_size s) word) ≡ Trunk

abbrev pub IsReadyDeed : ℕ → Deed → State → Type 0
IsReadyDeed h (deed.Store store) s = IsTrue (fits store.word (node_at s h).buffer)
IsReadyDeed h (deed.Sc word value) s = IsWritable h word s
IsReadyDeed h (deed.Amo word value) s = IsWritable h word s
IsReadyDeed h _ s = Unit {0}

-- a Probe's answer leaves no Trunk, data are a line's, and a Grant's Acquire is outstanding
abbrev pub IsReadyBody : ℕ → ℕ → Body → State → Type 0
IsReadyBody h line (ProbeAck change) s = left_by change ≢ Trunk
IsReadyBody h line (ProbeAckData change bytes) s = (left_by change ≢ Trunk) × (size_of bytes ≡ line_size s)
IsReadyBody h line (ReleaseData change bytes) s = size_of bytes ≡ line_size s
IsReadyBody h line (Grant cap) s = IsTrue (set.contains (node_at s h).cache.acquiring line)
IsReadyBody h line (GrantData cap bytes) s = IsTrue (set.contains (node_at s h).cache.acquiring line)
IsReadyBody h line _ s = Unit {0}

-- the message stands in front of its queue, and its line in memory
pub record IsReadyMessage (h : ℕ) (m : Msg) (s : State) : Type 0 where
  pub front : front_of (queue_of (node_at s h).queues (channel_of m)) ≡ Some m
  pub line : IsTrue (is_piece s.trace.image m.line (length_of (line_size s)))
  pub body : IsReadyBody h m.line m.body s

abbrev pub IsReadyAct : ℕ → Act → State → Type 0
IsReadyAct h (act.Retire entry i d) s = IsReadyDeed h d s
IsReadyAct h (act.Drain word) s = IsTrue (drainable word (node_at s h).buffer) × IsWritable h word s
IsReadyAct h (act.Deliver m) s = IsReadyMessage h m s
IsReadyAct h _ s = Unit {0}

-- what the act rests on, and that each message which it sends finds room
pub record IsReady (h : ℕ) (a : Act) (s : State) : Type 0 where
  pub act : IsReadyAct h a s
  pub room : QueuesFit (acted h a s)

-- each act that an event comes to is ready
abbrev pub AreReady : State → Type 0
AreReady s = (e : Event) (a : Act) → IsTrue (is_good s e) → plan_of s e ≡ Changes a → is_limited s (hart_of e) a ≡ false → IsReady (hart_of e) a s

abbrev pub ReadyAlways : Type 0
ReadyAlways = Always (λ image config s. AreReady s)
