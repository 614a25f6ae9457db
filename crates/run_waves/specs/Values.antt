-- What each part of a machine's state has as the values of its signals, in their places; zeros stand behind the last one, and for what isn't there.
use Rattle.std.specs.Prelude.{ℕ, ◌+◌, ◌-◌, ◌*◌, ◌&&◌, Bool, true, false, if◌then◌else◌, List, [], ◌∷◌, length, min, Option, Some, None, nat_lt, slice_get}
use Rattle.std.specs.FinSet as set
use Rattle.std.specs.Int.{w32, from_le_bytes}
use Rattle.client_cache.specs.Cache.{Cache, copy_at}
use Rattle.client_cache.specs.declared.held.Held.{Held}
use Rattle.client_cache.specs.declared.held.Held.TheVariants as held
use Rattle.directory.specs.Directory.{Notes, line_at}
use Rattle.directory.specs.Lines.{known_at}
use Rattle.directory.specs.declared.answer.Known.{Known}
use Rattle.directory.specs.declared.answer.Transaction as answer
use Rattle.directory.specs.declared.answer.Transaction.TheVariants.{Idle, Probing, Granted}
use Rattle.hart.specs.declared.state.Hart as state
use Rattle.hart.specs.declared.retired.Retired.{Retired}
use Rattle.hart.specs.declared.status.Status.{Status}
use Rattle.hart.specs.declared.status.Status.TheVariants.{Running, Stopped, Exited}
use Rattle.machine_model.specs.History.{entries_of}
use Rattle.machine_model.specs.Views.{Node, State, line_size, node_at, place_of}
use Rattle.store_buffer.specs.ByteMask.{is_marked}
use Rattle.store_buffer.specs.Groups.{Groups, entry_count, oldest}
use Rattle.store_buffer.specs.declared.entry.Entry.{Entry}
use Rattle.tilelink_channels.specs.Queues.{Waiting, front_of, queue_of}
use Rattle.tl_types.specs.declared.message.Body.{Body}
use Rattle.tl_types.specs.declared.message.Body.TheVariants.{AcquireBlock, ProbeBlock, ProbeAck, ProbeAckData, Release, ReleaseData, Grant, GrantData, ReleaseAck, GrantAck}
use Rattle.tl_types.specs.declared.message.Channel.{Channel}
use Rattle.tl_types.specs.declared.message.Msg.{Msg}
use Rattle.tl_types.specs.declared.permission.Perm.{Perm}
use Rattle.tl_types.specs.declared.permission.Perm.TheVariants as perm
use Rattle.run_waves.specs.declared.groups.Group.{Group}
use Rattle.run_waves.specs.declared.groups.Group.TheVariants.{Hart, Queue, Copy, Record, Transaction}

abbrev pub zeros : List ℕ
zeros = 0 ∷ 0 ∷ 0 ∷ 0 ∷ 0 ∷ 0 ∷ 0 ∷ 0 ∷ 0 ∷ 0 ∷ []

abbrev pub bit : Bool → ℕ
bit true = 1
bit false = 0

-- ---- a hart

-- the word of the instruction that it retired last, 0 before the first one
abbrev pub word_of_last : Option Retired → ℕ
word_of_last None = 0
word_of_last (Some r) = r.word

abbrev pub instruction : List Retired → ℕ
instruction retired = word_of_last (slice_get retired (length retired - 1))

-- 0 runs, 1 stopped, 2 exited
abbrev pub status : Status → ℕ
status Running = 0
status (Stopped n) = 1
status (Exited n) = 2

-- the code of a stop or an exit
abbrev pub code : Status → ℕ
code Running = 0
code (Stopped n) = n
code (Exited n) = n

-- of the entry that waits in front its word, its bytes as a number (little-endian, 0 where none is written), and a bit for each byte that is written
abbrev pub oldest_word : Option Entry → ℕ
oldest_word None = 0
oldest_word (Some e) = e.word

abbrev pub oldest_bytes : Option Entry → ℕ
oldest_bytes None = 0
oldest_bytes (Some e) = from_le_bytes w32 e.bytes

abbrev pub mask_number : List Bool → ℕ
mask_number mask = bit (is_marked mask 0) + 2 * bit (is_marked mask 1) + 4 * bit (is_marked mask 2) + 8 * bit (is_marked mask 3)

abbrev pub oldest_mask : Option Entry → ℕ
oldest_mask None = 0
oldest_mask (Some e) = mask_number e.mask

-- the first entry of the oldest group
abbrev pub front_entry : Groups → Option Entry
front_entry b = slice_get (oldest b) 0

abbrev pub is_reserved : Option ℕ → ℕ
is_reserved None = 0
is_reserved (Some word) = 1

abbrev pub reserved_word : Option ℕ → ℕ
reserved_word None = 0
reserved_word (Some word) = word

-- with its store buffer, its reservation and what it has retired
abbrev pub of_parts : state.Hart → Groups → Option ℕ → List Retired → List ℕ
of_parts hart buffer reserved retired =
    hart.pc ∷ instruction retired ∷ status hart.status ∷ code hart.status
    ∷ min (entry_count buffer) 255 ∷ oldest_word (front_entry buffer) ∷ oldest_bytes (front_entry buffer) ∷ oldest_mask (front_entry buffer)
    ∷ is_reserved reserved ∷ reserved_word reserved ∷ []

abbrev pub of_node : Node → List Retired → List ℕ
of_node n retired = of_parts n.hart n.buffer n.reserved retired

-- ---- a queue

-- which message it is: 1 AcquireBlock, 2 ProbeBlock, 3 ProbeAck, 4 ProbeAckData, 5 Release, 6 ReleaseData, 7 Grant, 8 GrantData, 9 ReleaseAck, 10 GrantAck
abbrev pub body_number : Body → ℕ
body_number (AcquireBlock grow) = 1
body_number (ProbeBlock cap) = 2
body_number (ProbeAck change) = 3
body_number (ProbeAckData change bytes) = 4
body_number (Release change) = 5
body_number (ReleaseData change bytes) = 6
body_number (Grant cap) = 7
body_number (GrantData cap bytes) = 8
body_number ReleaseAck = 9
body_number GrantAck = 10

abbrev pub front_number : Option Msg → ℕ
front_number None = 0
front_number (Some m) = body_number m.body

abbrev pub front_line : Option Msg → ℕ
front_line None = 0
front_line (Some m) = m.line

abbrev pub messages_on : Waiting → Channel → List Msg
messages_on q c = queue_of q c

-- how many messages wait, and which one is in front and its line
abbrev pub of_messages : List Msg → List ℕ
of_messages ms = min (length ms) 255 ∷ front_number (front_of ms) ∷ front_line (front_of ms) ∷ 0 ∷ 0 ∷ 0 ∷ 0 ∷ 0 ∷ 0 ∷ 0 ∷ []

-- ---- a line in a cache

-- 0 Nothing, 1 Branch, 2 Trunk
abbrev pub permission : Perm → ℕ
permission perm.Nothing = 0
permission perm.Branch = 1
permission perm.Trunk = 2

abbrev pub held_number : Option Held → ℕ
held_number None = 0
held_number (Some (held.Branch bytes)) = 1
held_number (Some (held.Trunk dirty bytes)) = 2

abbrev pub is_dirty : Option Held → ℕ
is_dirty None = 0
is_dirty (Some (held.Branch bytes)) = 0
is_dirty (Some (held.Trunk dirty bytes)) = bit dirty

-- the copy, and whether an Acquire is outstanding, or a Release unanswered
abbrev pub of_cache : Cache → ℕ → List ℕ
of_cache c line =
    held_number (copy_at c line) ∷ is_dirty (copy_at c line) ∷ bit (set.contains c.acquiring line) ∷ bit (set.contains c.releasing line)
    ∷ 0 ∷ 0 ∷ 0 ∷ 0 ∷ 0 ∷ 0 ∷ []

-- ---- a line at the manager

abbrev pub of_known : Known → List ℕ
of_known k = permission k.perm ∷ bit k.awaited ∷ 0 ∷ 0 ∷ 0 ∷ 0 ∷ 0 ∷ 0 ∷ 0 ∷ 0 ∷ []

-- the record of a hart for memory's line of this number
abbrev pub of_record : Notes → ℕ → ℕ → List ℕ
of_record notes k h = if nat_lt k (length notes.lines) && nat_lt h notes.harts then of_known (known_at (line_at notes k) h) else zeros

-- 0 no transaction, 1 ProbeAcks are awaited, 2 the GrantAck is
abbrev pub transaction_number : answer.Transaction → ℕ
transaction_number Idle = 0
transaction_number (Probing h grow) = 1
transaction_number (Granted h) = 2

-- the hart that is to have the Grant, or has it
abbrev pub requester : answer.Transaction → ℕ
requester Idle = 0
requester (Probing h grow) = h
requester (Granted h) = h

abbrev pub of_transaction : answer.Transaction → List ℕ
of_transaction t = transaction_number t ∷ requester t ∷ 0 ∷ 0 ∷ 0 ∷ 0 ∷ 0 ∷ 0 ∷ 0 ∷ 0 ∷ []

abbrev pub transaction_at : Notes → ℕ → List ℕ
transaction_at notes k = if nat_lt k (length notes.lines) then of_transaction (line_at notes k).transaction else zeros

-- ---- any part

abbrev pub if_there : State → ℕ → List ℕ → List ℕ
if_there s h values = if nat_lt h (length s.views.nodes) then values else zeros

abbrev pub values : State → Group → List ℕ
values s (Hart h) = if_there s h (of_node (node_at s h) (entries_of s.trace h))
values s (Queue h c) = if_there s h (of_messages (queue_of (node_at s h).queues c))
values s (Copy h line) = if_there s h (of_cache (node_at s h).cache line)
values s (Record h line) = of_record s.views.notes (place_of (line_size s) line) h
values s (Transaction line) = transaction_at s.views.notes (place_of (line_size s) line)
