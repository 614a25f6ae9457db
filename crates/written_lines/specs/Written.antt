-- The bytes that a hart sends of a line: each is the one that it was granted, or one that it wrote there (TileLink 1.8.1, "TL-C": ProbeAckData and ReleaseData carry the data as their client has it, and a client changes it by its own writes alone).
use Rattle.std.specs.Prelude.{ℕ, ◌+◌, Bool, false, ◌&&◌, ◌||◌, ◌==◌, if◌then◌else◌, List, [], ◌∷◌, ◌++◌, Option, Some, None, drop}
use Rattle.std.specs.List.{list_any}
use Rattle.std.specs.Option.{option_or}
use Rattle.memory_model.specs.Operations.{stores_to, written_at}
use Rattle.memory_model.specs.Traces.{are_runs, instructions, operations_at}
use Rattle.memory_model.specs.declared.operation.Operation.{Operation}
use Rattle.tl_types.specs.Line.{bytes_of}
use Rattle.tl_types.specs.declared.line.LineData.{LineData}
use Rattle.tl_types.specs.declared.message.Body.{Body}
use Rattle.tl_types.specs.declared.message.Body.TheVariants.{ProbeAckData, ReleaseData, GrantData}
use Rattle.trace_recorder.specs.declared.logged.Direction.{Direction}
use Rattle.trace_recorder.specs.declared.logged.Direction.TheVariants.{Sent, Taken}
use Rattle.trace_recorder.specs.History.{History}
use Rattle.trace_recorder.specs.declared.logged.Logged.{Logged}
use Rattle.trace_recorder.specs.declared.operation.OpId.{OpId}
use Rattle.written_lines.specs.declared.checking.Unwritten.{Unwritten}

-- ---- what a message gives and takes

-- the bytes that a Grant gives its hart, once that takes it
abbrev pub granted : Direction → Body → Option LineData
granted Taken (GrantData cap bytes) = Some bytes
granted _ _ = None

-- the bytes that leave a hart, once that sends them
abbrev pub left : Direction → Body → Option LineData
left Sent (ProbeAckData change bytes) = Some bytes
left Sent (ReleaseData change bytes) = Some bytes
left _ _ = None

-- the entry is of this line, and of this hart
abbrev pub concerns : ℕ → ℕ → Logged → Bool
concerns h line e = e.hart == h && e.message.line == line

abbrev pub tells_granted : ℕ → ℕ → Logged → Option LineData
tells_granted h line e = if concerns h line e then granted e.direction e.message.body else None

-- what the hart was granted last of the line
abbrev pub granted_of : ℕ → ℕ → List Logged → Option LineData
granted_of h line [] = None
granted_of h line (e ∷ log) = option_or (granted_of h line log) (tells_granted h line e)

-- ---- bytes

-- the operation is the hart's, and wrote this byte at x
abbrev pub wrote : (h x byte : ℕ) → Operation → Bool
wrote h x byte a = a.hart == h && stores_to x a && written_at a x == byte

abbrev pub is_first : ℕ → List ℕ → Bool
is_first byte [] = false
is_first byte (first ∷ bytes) = first == byte

-- the address of the first byte, from x on, that was neither granted in its place nor written there by the hart
abbrev pub other_byte : List Operation → (h x : ℕ) → (granted bytes : List ℕ) → Option ℕ
other_byte performed h x granted [] = None
other_byte performed h x granted (byte ∷ bytes) =
    if is_first byte granted || list_any (wrote h x byte) performed then other_byte performed h (x + 1) (drop 1 granted) bytes else Some x

-- ---- the log

abbrev pub other_byte_in : List Operation → Logged → (sent granted : Option LineData) → Option ℕ
other_byte_in performed e (Some sent) (Some granted) = other_byte performed e.hart e.message.line (bytes_of granted) (bytes_of sent)
other_byte_in performed e _ _ = None

-- of an entry, where its hart was granted this last
abbrev pub other_byte_of : List Operation → Option LineData → Logged → Option ℕ
other_byte_of performed granted e = other_byte_in performed e (left e.direction e.message.body) granted

-- the first of a log's entries, counted from i, that has such a byte, behind the entries before it
abbrev pub first_or : ℕ → Option ℕ → Option Unwritten → Option Unwritten
first_or i None rest = rest
first_or i (Some x) rest = Some (record { index = i; address = x })

abbrev pub unwritten_from : List Operation → ℕ → (before : List Logged) → List Logged → Option Unwritten
unwritten_from performed i before [] = None
unwritten_from performed i before (e ∷ log) =
    first_or i (other_byte_of performed (granted_of e.hart e.message.line before) e) (unwritten_from performed (i + 1) (before ++ e ∷ []) log)

-- of a trace whose lists are runs, by the operations that it tells as performed, if it tells of some
abbrev pub unwritten_by : List OpId → History → Option Unwritten
unwritten_by [] t = None
unwritten_by (name ∷ names) t = unwritten_from (operations_at (instructions t) (name ∷ names)) 0 [] t.log

abbrev pub unwritten_in : History → Option Unwritten
unwritten_in t = if are_runs t then unwritten_by t.performed t else None
