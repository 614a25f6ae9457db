-- The lines of a report.
use Rattle.std.specs.Prelude.{ℕ, ◌+◌, ◌-◌, ◌^◌, min, List, [], ◌∷◌, ◌++◌, Option, Some, None, length, take, codes, decimal}
use Rattle.std.specs.List.{flat_map}
use Rattle.elf_symbols.specs.Named.{Named}
use Rattle.hart.specs.declared.retired.Retired.{Retired}
use Rattle.machine_types.specs.declared.event.Event.{Event}
use Rattle.machine_types.specs.declared.outcome.Outcome.{Outcome}
use Rattle.machine_model.specs.Events.{hart_of}
use Rattle.machine_model.specs.Views.{State}
use Rattle.rv32_decode.specs.Rows.{decoded}
use Rattle.rv32_decode.specs.declared.instruction.Instr.{Instr}
use Rattle.rv32_exec.specs.declared.actions.Action.{Action}
use Rattle.text_fields.specs.Fields.{number}
use Rattle.trace_text.specs.Scripts as script
use Rattle.trace_text.specs.Traces as trace
use Rattle.event_stream.specs.Accesses.{accessed}
use Rattle.event_stream.specs.Naming.{instruction}
use Rattle.event_stream.specs.Outcomes.{outcome}
use Rattle.event_stream.specs.Reports.{Report}
use Rattle.event_stream.specs.Stalls.{stall}

-- a line without the line feed that ends it
abbrev pub unended : List ℕ → List ℕ
unended line = take (length line - 1) line

-- the event as its script spells it, behind the number of its line there; and its outcome
abbrev pub event_text : List ℕ → Event → Outcome → List ℕ
event_text line e o = codes "E " ++ (line ++ (32 ∷ (unended (script.event e) ++ (32 ∷ outcome o))))

-- with what the event waits for in this state; lines are counted from 1, and the script's first line is its head
abbrev pub event_line : State → ℕ → Event → Outcome → List ℕ
event_line s index e o = event_text (decimal (index + 2)) e o ++ (stall s e o ++ 10 ∷ [])

-- the line of the script on which the event of this index stands, as far as a number of 64 bits tells it
abbrev pub script_line_of : ℕ → ℕ
script_line_of index = min (index + 2) (2 ^ 64 - 1)

-- the instruction, by the names that addresses have
abbrev pub disassembled : List Named → ℕ → Option Instr → List ℕ
disassembled names pc None = []
disassembled names pc (Some i) = codes " ; " ++ instruction names pc i

-- the same of a retired one, with what it did to memory
abbrev pub behind : List Named → Option Action → Retired → Option Instr → List ℕ
behind names action r None = []
behind names action r (Some i) = codes " ; " ++ (instruction names r.pc i ++ accessed names action r)

-- a trace's R line, and what stands behind it of an instruction that was to do this
abbrev pub retired_line : List Named → ℕ → Option Action → Retired → List ℕ
retired_line names h action r = unended (trace.retired_lead h ++ trace.retired_text r) ++ (behind names action r (decoded r.word) ++ 10 ∷ [])

-- a number that a hart put out
abbrev pub output_line : ℕ → ℕ → List ℕ
output_line h n = codes "O " ++ (number 32 h ++ number 10 n)

-- an event's line, and the lines of what it made longer
abbrev pub report_lines : List Named → Report → List ℕ
report_lines names r =
    event_line r.state r.index r.event r.outcome ++ (flat_map (retired_line names (hart_of r.event) r.action) r.entries
    ++ (flat_map trace.operation r.performed ++ (flat_map trace.logged r.log ++ flat_map (output_line (hart_of r.event)) r.output)))
