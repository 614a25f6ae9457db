-- What stands behind a hart's H line: of one that runs, what its next step would come to, what that waits for, and the instruction; of one that stopped, why, and the instruction.
use Rattle.std.specs.Prelude.{ℕ, ◌+◌, ◌*◌, ◌&&◌, ◌||◌, ◌==◌, if◌then◌else◌, Bool, List, [], ◌∷◌, ◌++◌, length, Option, Some, None, is_some, Result, Ok, Err, codes}
use Rattle.std.specs.FinSet as set
use Rattle.std.specs.List.{flat_map, range_with_len}
use Rattle.client_cache.specs.Cache.{Cache, copy_at}
use Rattle.client_cache.specs.Shape.{set_of}
use Rattle.elf_loader.specs.Size.{base}
use Rattle.elf_symbols.specs.Named.{Named}
use Rattle.hart.specs.Next.{instr_at, next_action}
use Rattle.hart.specs.declared.status.Status.{Status}
use Rattle.hart.specs.declared.status.Status.TheVariants.{Running, Stopped as IsStopped, Exited as HasExited}
use Rattle.machine_types.specs.declared.event.Event.TheVariants.{Step}
use Rattle.machine_types.specs.declared.outcome.Outcome.{Outcome}
use Rattle.machine_types.specs.declared.outcome.Outcome.TheVariants.{Retired, Stopped, Exited, Drained, Delivered, Evicted, Missed, Halted, WaitRelease, WaitGrant, NoTracker, SetFull, BufferFull, MustDrain, NoEntry, NotOldest, Empty, Busy, Releasing, AckFull, NotHeld, AcquirePending, ReleaseFull, NotLocal}
use Rattle.machine_model.specs.Events.{verdict}
use Rattle.machine_model.specs.Ready.{shape_of}
use Rattle.machine_model.specs.Views.{State, line_size, node_at}
use Rattle.coherent_machine.specs.Applying.{answer_to}
use Rattle.coherent_machine.specs.ApplyError.{ApplyError}
use Rattle.coherent_machine.specs.TheVariants.{BadEvent, Limit, NoMemory}
use Rattle.rv32_decode.specs.declared.instruction.Instr.{Instr}
use Rattle.rv32_exec.specs.Actions.{addressed}
use Rattle.rv32_exec.specs.declared.actions.Action.{Action}
use Rattle.store_buffer.specs.Groups.{Groups, groups_of}
use Rattle.store_buffer.specs.declared.entry.Entry.{Entry}
use Rattle.text_fields.specs.Fields.{word}
use Rattle.tl_types.specs.Line.{length_of, line_of}
use Rattle.trace_text.specs.Traces.{status}
use Rattle.event_stream.specs.Lines.{disassembled, unended}
use Rattle.event_stream.specs.Outcomes.{outcome}

-- ---- the next instruction

abbrev pub next_instr : State → ℕ → Option Instr
next_instr s h = instr_at s.trace.image (node_at s h).hart.pc

-- as it stands behind an R line
abbrev pub next_text : List Named → State → ℕ → List ℕ
next_text names s h = disassembled names (node_at s h).hart.pc (next_instr s h)

abbrev pub accessed_by : Option Action → Option ℕ
accessed_by None = None
accessed_by (Some action) = addressed action

-- the address that the hart's next instruction reads or writes
abbrev pub next_address : State → ℕ → Option ℕ
next_address s h = accessed_by (next_action s.trace.image (node_at s h).hart)

-- ---- what a step waits for, each address behind a space

abbrev pub address : ℕ → List ℕ
address a = 32 ∷ word a

abbrev pub entry_word : Entry → List ℕ
entry_word e = address e.word

-- the words of the stores that wait, those of the oldest group first
abbrev pub waiting_words : Groups → List ℕ
waiting_words b = flat_map (flat_map entry_word) (groups_of b)

-- the line that an address lies in
abbrev pub line_named : State → Option ℕ → List ℕ
line_named s None = []
line_named s (Some a) = address (line_of (line_size s) a)

-- the address of memory's line of this number
abbrev pub line_address : State → ℕ → ℕ
line_address s k = base + k * length_of (line_size s)

-- the line takes a way of its set: the cache holds it, or its Acquire is outstanding
abbrev pub takes_way : Cache → ℕ → Bool
takes_way c line = is_some (copy_at c line) || set.contains c.acquiring line

-- it takes one of the set of the line that is wanted
abbrev pub takes_way_beside : State → Cache → ℕ → ℕ → Bool
takes_way_beside s c wanted line = set_of (shape_of s) line == set_of (shape_of s) wanted && takes_way c line

abbrev pub way_of_set : State → Cache → (wanted number : ℕ) → List ℕ
way_of_set s c wanted number = if takes_way_beside s c wanted (line_address s number) then address (line_address s number) else []

-- the lines that take the ways of this line's set, the lowest first
abbrev pub ways_of_set : State → Cache → ℕ → List ℕ
ways_of_set s c wanted = flat_map (way_of_set s c wanted) (range_with_len 0 (length s.views.memory))

abbrev pub ways_named : State → Cache → Option ℕ → List ℕ
ways_named s c None = []
ways_named s c (Some a) = ways_of_set s c (line_of (line_size s) a)

-- MustDrain and BufferFull wait for stores, SetFull for a way of the line's set, WaitGrant and WaitRelease for a message of the line
abbrev pub waited : State → ℕ → Outcome → List ℕ
waited s h MustDrain = waiting_words (node_at s h).buffer
waited s h BufferFull = waiting_words (node_at s h).buffer
waited s h SetFull = ways_named s (node_at s h).cache (next_address s h)
waited s h WaitGrant = line_named s (next_address s h)
waited s h WaitRelease = line_named s (next_address s h)
waited s h Retired = []
waited s h (Stopped code) = []
waited s h (Exited code) = []
waited s h Drained = []
waited s h Delivered = []
waited s h Evicted = []
waited s h (Missed line) = []
waited s h Halted = []
waited s h NoTracker = []
waited s h NoEntry = []
waited s h NotOldest = []
waited s h Empty = []
waited s h Busy = []
waited s h Releasing = []
waited s h AckFull = []
waited s h NotHeld = []
waited s h AcquirePending = []
waited s h ReleaseFull = []
waited s h NotLocal = []

-- ---- the lines

abbrev pub error_name : ApplyError → List ℕ
error_name BadEvent = codes "BadEvent"
error_name Limit = codes "Limit"
error_name NoMemory = codes "NoMemory"

-- an outcome with what it waits for, or why the event would be refused
abbrev pub answer : State → ℕ → Result Outcome ApplyError → List ℕ
answer s h (Ok o) = outcome o ++ waited s h o
answer s h (Err error) = error_name error

-- what the hart's next step would come to
abbrev pub foreseen : State → ℕ → List ℕ
foreseen s h = answer s h (answer_to (verdict s (Step h)))

-- why a hart stopped, by its code
abbrev pub reason : ℕ → List ℕ
reason code =
    if code == 0 then codes "jump target misaligned"
    else if code == 1 then codes "fetch outside memory"
    else if code == 2 then codes "illegal instruction"
    else if code == 3 then codes "EBREAK"
    else if code == 4 then codes "load misaligned"
    else if code == 5 then codes "load outside memory"
    else if code == 6 then codes "store, LR, SC or AMO misaligned"
    else if code == 7 then codes "store, LR, SC or AMO outside memory"
    else codes "unknown call"

abbrev pub behind : List Named → State → ℕ → Status → List ℕ
behind names s h Running = codes " ; " ++ (foreseen s h ++ next_text names s h)
behind names s h (IsStopped code) = codes " ; " ++ (reason code ++ next_text names s h)
behind names s h (HasExited code) = []

-- a trace's H line, and what stands behind it
abbrev pub closing_line : List Named → State → ℕ → Status → List ℕ
closing_line names s h st = unended (status h st) ++ (behind names s h st ++ 10 ∷ [])
