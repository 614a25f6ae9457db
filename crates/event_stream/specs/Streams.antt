-- The stream of a script: what each event did, in event order.
use Rattle.std.specs.Prelude.{ℕ, ◌/◌, List, [], ◌∷◌, ◌++◌, if◌then◌else◌, codes, length}
use Rattle.std.specs.List.{flat_map}
use Rattle.elf_loader.specs.Image.{Initial}
use Rattle.elf_symbols.specs.Named.{Named}
use Rattle.machine_types.specs.declared.config.Config.{Config}
use Rattle.machine_types.specs.declared.event.Event.{Event}
use Rattle.machine_model.specs.Views.{State, opening}
use Rattle.text_fields.specs.Fields.{number, word, numbered}
use Rattle.tl_types.specs.Line.{length_of}
use Rattle.tl_types.specs.declared.line.LineSize.{LineSize}
use Rattle.trace_text.specs.History.{History}
use Rattle.trace_text.specs.Scripts.{is_first_version}
use Rattle.trace_text.specs.Traces.{image}
use Rattle.event_stream.specs.declared.strictness.Strictness.{Strictness}
use Rattle.event_stream.specs.Closing.{closing_line}
use Rattle.event_stream.specs.Lines.{report_lines}
use Rattle.event_stream.specs.Reports.{StreamEnding, ending, reports}
use Rattle.event_stream.specs.Reports.StreamEnding.{Reached, Refused, Idle}

-- the first two lines, of a machine's harts, its memory in KiB, the address at which the harts begin and a line's size: as in a trace, but for the first word
abbrev pub head : ℕ → ℕ → ℕ → LineSize → List ℕ
head harts kib entry line =
    if is_first_version harts line then codes "rvtl-stream 1\nT " ++ (number 32 harts ++ (number 32 kib ++ (word entry ++ 10 ∷ [])))
    else codes "rvtl-stream 2\nT " ++ (number 32 harts ++ (number 32 kib ++ ((word entry ++ 32 ∷ []) ++ number 10 (length_of line))))

-- the head, and memory at reset as in a trace
abbrev pub opening_lines : History → List ℕ
opening_lines t = head (length t.statuses) (length t.image.bytes / 1024) t.image.entry t.line ++ image t.line t.image.bytes

-- the lines of events, the first of which has this index, by the names that addresses have
abbrev pub lines : List Named → Strictness → ℕ → State → List Event → List ℕ
lines names strictness index s events = flat_map (report_lines names) (reports strictness index s events)

-- each hart's H line, where all events were told
abbrev pub closing_lines : List Named → StreamEnding → List ℕ
closing_lines names (Reached s) = numbered (closing_line names s) 0 s.trace.statuses
closing_lines names (Refused index error) = []
closing_lines names (Idle index o) = []

-- a stream up to here: its head, and the lines of these events
abbrev pub stream_up_to : List Named → Strictness → Initial → Config → List Event → List ℕ
stream_up_to names strictness i config events = opening_lines (opening i config).trace ++ lines names strictness 0 (opening i config) events

abbrev pub stream_of : List Named → Strictness → Initial → Config → List Event → List ℕ
stream_of names strictness i config events = stream_up_to names strictness i config events ++ closing_lines names (ending strictness 0 (opening i config) events)
