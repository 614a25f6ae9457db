-- The texts of a chart.
use Rattle.std.specs.Prelude.{ℕ, List, [], ◌∷◌, ◌++◌, Option, Some, None, codes, decimal, vec_len}
use Rattle.assembly.specs.Assembly.{assembly}
use Rattle.elf_symbols.specs.Named.{Named}
use Rattle.event_stream.specs.Accesses.{done}
use Rattle.event_stream.specs.Naming.{target}
use Rattle.hart.specs.declared.retired.Retired.{Retired}
use Rattle.machine_types.specs.declared.event.Event.{Event}
use Rattle.machine_types.specs.declared.event.Event.TheVariants.{Step, Drain, Evict, Deliver, Local}
use Rattle.machine_types.specs.declared.outcome.Outcome.{Outcome}
use Rattle.machine_types.specs.declared.outcome.Outcome.TheVariants.{Missed}
use Rattle.rv32_decode.specs.Rows.{decoded}
use Rattle.rv32_decode.specs.declared.instruction.Instr.{Instr}
use Rattle.rv32_exec.specs.Actions.{addressed}
use Rattle.rv32_exec.specs.declared.actions.Action.{Action}
use Rattle.text_fields.specs.Fields.{number, word}
use Rattle.tl_types.specs.declared.line.LineSize.{LineSize}
use Rattle.tl_types.specs.declared.message.Msg.{Msg}
use Rattle.trace_text.specs.MessageParts.{permissions}
use Rattle.trace_text.specs.Scripts.{event_ended}
use Rattle.trace_text.specs.Words.{name}
use Rattle.run_chart.specs.Names.{address, line, target_behind}
use Rattle.run_chart.specs.declared.naming.Manner.{Manner}
use Rattle.run_chart.specs.declared.rows.Note.{Note}
use Rattle.run_chart.specs.declared.rows.Note.TheVariants as note_of
use Rattle.run_chart.specs.declared.rows.Row.{Row}
use Rattle.run_chart.specs.declared.rows.Story.{Story}

-- as an assembler writes it, with the name of where it leads, or its word where it is none
abbrev pub decoded_text : Manner → List Named → Retired → Option Instr → List ℕ
decoded_text manner names r (Some i) = assembly (Some r.pc) i ++ target_behind manner names (target r.pc i)
decoded_text manner names r None = word r.word

abbrev pub instruction : Manner → List Named → Retired → List ℕ
instruction manner names r = decoded_text manner names r (decoded r.word)

-- what was accessed, and what was read there or stored
abbrev pub touched : Manner → List Named → Option ℕ → Action → Retired → List ℕ
touched manner names None action r = []
touched manner names (Some a) action r = 32 ∷ (address manner names a ++ done action r)

abbrev pub note : Manner → List Named → Note → List ℕ
note manner names (note_of.Retired r) = instruction manner names r
note manner names (note_of.Accessed action r) = touched manner names (addressed action) action r
note manner names (note_of.Performed r) = codes "performs " ++ instruction manner names r
note manner names (note_of.PutOut n) = codes "puts out " ++ decimal n
note manner names (note_of.Reserved w) = codes "reserves " ++ address manner names w
note manner names (note_of.Lost w) = codes "loses " ++ address manner names w
note manner names (note_of.Exited code) = codes "exits with " ++ decimal code
note manner names (note_of.Stopped code) = codes "stops with code " ++ decimal code

-- where the instruction lies of which a note tells
abbrev pub site_of : Note → Option ℕ
site_of (note_of.Retired r) = Some r.pc
site_of (note_of.Accessed action r) = None
site_of (note_of.Performed r) = Some r.pc
site_of (note_of.PutOut n) = None
site_of (note_of.Reserved w) = None
site_of (note_of.Lost w) = None
site_of (note_of.Exited code) = None
site_of (note_of.Stopped code) = None

-- the event as its script spells it, but for the names of what it is about
abbrev pub event : Manner → List Named → LineSize → Event → List ℕ
event manner names size (Step h) = event_ended 32 (Step h)
event manner names size (Drain h w) = codes "drain " ++ (number 32 h ++ (address manner names w ++ 32 ∷ []))
event manner names size (Evict h l) = codes "evict " ++ (number 32 h ++ (line manner names size l ++ 32 ∷ []))
event manner names size (Deliver channel h) = event_ended 32 (Deliver channel h)
event manner names size (Local h count) = event_ended 32 (Local h count)

-- a step that misses names the line of memory; of another event that is the one around what it is about
abbrev pub missed : Manner → List Named → LineSize → Event → ℕ → List ℕ
missed manner names size (Step h) l = codes "misses " ++ line manner names size l
missed manner names size (Drain h w) l = codes "misses"
missed manner names size (Evict h e) l = codes "misses"
missed manner names size (Deliver channel h) l = codes "misses"
missed manner names size (Local h count) l = codes "misses"

-- what of an outcome no note tells
abbrev pub outcome : Manner → List Named → LineSize → Event → Outcome → List ℕ
outcome manner names size e (Missed l) = missed manner names size e l
outcome manner names size e _ = []

-- the event, behind the number of its line in the script
abbrev pub row : Manner → List Named → LineSize → Row → List ℕ
row manner names size r = number 32 r.script_line ++ (event manner names size r.event ++ outcome manner names size r.event r.outcome)

-- a message's name, what it is about, and its permissions
abbrev pub heading : Manner → List Named → LineSize → Msg → List ℕ
heading manner names size m = name m.body ++ (line manner names size m.line ++ permissions m.body)

abbrev pub title : ℕ → List ℕ
title harts = codes "A run, harts: " ++ decimal harts

abbrev pub description : Story → List ℕ
description s = codes "Time goes down. Each hart has a lane for its core and one for its cache. Events drawn: " ++ decimal (vec_len s.rows)
