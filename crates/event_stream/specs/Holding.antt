-- What a machine holds, in lines: X a register that isn't zero, B a store that waits, L a reservation, C a copy with its bytes, A an outstanding Acquire, U an unanswered Release, Q a message that waits without its data.
use Rattle.std.specs.Prelude.{ℕ, ◌==◌, Bool, true, false, if◌then◌else◌, List, [], ◌∷◌, ◌++◌, length, Option, Some, None, codes, slice_index}
use Rattle.std.specs.FinSet as set
use Rattle.std.specs.List.{flat_map, range_with_len}
use Rattle.assembly.specs.Operands.{register}
use Rattle.client_cache.specs.Cache.{Cache, copy_at}
use Rattle.client_cache.specs.Held.{bytes_in}
use Rattle.client_cache.specs.declared.held.Held.{Held}
use Rattle.client_cache.specs.declared.held.Held.TheVariants.{Branch, Trunk}
use Rattle.hart.specs.declared.state.Hart.{Hart}
use Rattle.machine_model.specs.Views.{State, node_at}
use Rattle.store_buffer.specs.ByteMask.{is_marked}
use Rattle.store_buffer.specs.Groups.{Groups, groups_of}
use Rattle.store_buffer.specs.declared.entry.Entry.{Entry}
use Rattle.text_fields.specs.Fields.{hex, hex_byte, number, numbered, word}
use Rattle.tilelink_channels.specs.Queues.{Waiting, queue_of}
use Rattle.tl_types.specs.Line.{bytes_of}
use Rattle.tl_types.specs.declared.message.Channel.{Channel}
use Rattle.tl_types.specs.declared.message.Channel.TheVariants as channel
use Rattle.tl_types.specs.declared.message.Msg.{Msg}
use Rattle.trace_text.specs.MessageParts.{heading}
use Rattle.trace_text.specs.Words as words
use Rattle.event_stream.specs.Closing.{line_address}

-- ---- registers

-- a hart's number behind a letter, then a name and a word
abbrev pub value_line : ℕ → List ℕ → ℕ → List ℕ
value_line h name value = codes "X " ++ (number 32 h ++ (name ++ (32 ∷ (word value ++ 10 ∷ []))))

abbrev pub register_line : ℕ → List ℕ → ℕ → List ℕ
register_line h values n = if slice_index values n == 0 then [] else value_line h (register n) (slice_index values n)

abbrev pub registers : ℕ → Hart → List ℕ
registers h hart = value_line h (codes "pc") hart.pc ++ flat_map (register_line h hart.regs) (range_with_len 0 32)

-- ---- stores that wait

-- a byte of a word, or -- where none is written there
abbrev pub byte_text : Entry → ℕ → List ℕ
byte_text e k = if is_marked e.mask k then hex_byte (slice_index e.bytes k) else codes "--"

-- a word's four bytes, behind the hart and the number of the group, 0 the oldest
abbrev pub entry_line : ℕ → ℕ → Entry → List ℕ
entry_line h g e = codes "B " ++ (number 32 h ++ (number 32 g ++ (word e.word ++ (32 ∷ (byte_text e 0 ++ (byte_text e 1 ++ (byte_text e 2 ++ (byte_text e 3 ++ 10 ∷ []))))))))

abbrev pub group_lines : ℕ → ℕ → List Entry → List ℕ
group_lines h g es = flat_map (entry_line h g) es

abbrev pub buffer_lines : ℕ → Groups → List ℕ
buffer_lines h b = numbered (group_lines h) 0 (groups_of b)

-- ---- the reservation, and lines in the cache

-- a letter, a hart and an address
abbrev pub address_line : List ℕ → ℕ → ℕ → List ℕ
address_line letter h a = letter ++ (number 32 h ++ (word a ++ 10 ∷ []))

abbrev pub reservation_line : ℕ → Option ℕ → List ℕ
reservation_line h None = []
reservation_line h (Some a) = address_line (codes "L ") h a

abbrev pub held_name : Held → List ℕ
held_name (Branch bytes) = codes " Branch "
held_name (Trunk false bytes) = codes " Trunk "
held_name (Trunk true bytes) = codes " dirty Trunk "

abbrev pub copy_line : ℕ → ℕ → Option Held → List ℕ
copy_line h line None = []
copy_line h line (Some held) = codes "C " ++ (number 32 h ++ (word line ++ (held_name held ++ (hex (bytes_of (bytes_in held)) ++ 10 ∷ []))))

abbrev pub if_so : Bool → List ℕ → List ℕ
if_so true line = line
if_so false line = []

abbrev pub cache_line : ℕ → Cache → ℕ → List ℕ
cache_line h c line =
    copy_line h line (copy_at c line)
    ++ (if_so (set.contains c.acquiring line) (address_line (codes "A ") h line) ++ if_so (set.contains c.releasing line) (address_line (codes "U ") h line))

abbrev pub line_in_cache : State → ℕ → Cache → ℕ → List ℕ
line_in_cache s h c k = cache_line h c (line_address s k)

abbrev pub cache_lines : State → ℕ → Cache → List ℕ
cache_lines s h c = flat_map (line_in_cache s h c) (range_with_len 0 (length s.views.memory))

-- ---- messages that wait

-- as a trace's M line, but without data
abbrev pub message_line : ℕ → Channel → Msg → List ℕ
message_line h c m = codes "Q " ++ (words.channel c ++ (number 32 h ++ (heading m ++ 10 ∷ [])))

abbrev pub message_if : ℕ → Channel → Option Msg → List ℕ
message_if h c None = []
message_if h c (Some m) = message_line h c m

abbrev pub queue_lines : ℕ → Channel → Waiting → List ℕ
queue_lines h c q = flat_map (message_line h c) (queue_of q c)

abbrev pub channels : List Channel
channels = channel.A ∷ channel.B ∷ channel.C ∷ channel.D ∷ channel.E ∷ []

abbrev pub waiting_lines : ℕ → Waiting → Channel → List ℕ
waiting_lines h q c = queue_lines h c q

-- ---- a hart

abbrev pub hart_lines : State → ℕ → List ℕ
hart_lines s h =
    let n = node_at s h in
    registers h n.hart ++ (buffer_lines h n.buffer ++ (reservation_line h n.reserved ++ (cache_lines s h n.cache ++ flat_map (waiting_lines h n.queues) channels)))

-- all harts
abbrev pub held_lines : State → List ℕ
held_lines s = flat_map (hart_lines s) (range_with_len 0 (length s.views.nodes))
