-- What telling a trace's order has done, and which faults it tells.
use Rattle.std.specs.Io.KnownBytes.{Appends}
use Rattle.std.specs.Prelude.{◌≡◌, ◌⊎◌, ℕ, IfSome, List, None, Option, Some}
use Rattle.check_command.specs.Checking.{GoOnBehindATrace, IsNoTraceText, IsUnjudged}
use Rattle.command_files.specs.Contents.{Contents}
use Rattle.command_files.specs.Faults.{IsNoImage, Name}
use Rattle.command_files.specs.Files.{HoldsTrace}
use Rattle.command_files.specs.declared.fault.Fault.{Fault}
use Rattle.command_files.specs.declared.fault.Fault.TheVariants.{BytesAfterTrace, CannotRead, CannotWrite, Check, Image, OtherImage, OutOfMemory, Text}
use Rattle.command_settings.specs.declared.wanted.Replay.{Replay}
use Rattle.elf_symbols.specs.Named.{Named}
use Rattle.machine_types.specs.declared.model.MemoryModel.{MemoryModel}
use Rattle.memory_model.specs.Traces.{completed}
use Rattle.order_text.specs.Telling.{order_lines}
use Rattle.order_text.specs.Text.{text}
use Rattle.order_text.specs.declared.line.Line.{Line}
use Rattle.rvwmo_order.specs.Answers.{refusal}
use Rattle.rvwmo_order.specs.declared.error.CheckError.{CheckError}
use Rattle.text_fields.specs.Writing.{Begins}
use Rattle.trace_commands.specs.Images.{HoldsNames, IsOtherImage, kib_of}
use Rattle.trace_recorder.specs.History.{History}

-- the lines on a trace's order, which is judged
pub record AreLines (model : MemoryModel) (trace : History) (told : List Line) : Type 0 where
  pub lines : told ≡ order_lines model trace
  pub judged : refusal trace (completed trace) ≡ None

-- the trace that the one file holds began in the image of the other, which has these names
pub record IsTraceOf (held : Contents) (replay : Replay) (trace : History) (names : List Named) : Type 0 where
  pub trace_file : HoldsTrace held replay.script.now trace
  pub image_file : HoldsNames held replay trace names
  pub judged : refusal trace (completed trace) ≡ None

-- what was appended is what is told of the order of the trace in the one file, by the names in the other, which holds its image
pub record IsOrderTold (held : Contents) (replay : Replay) (old new : Option (List ℕ)) : Type 0 where
  pub trace : History
  pub names : List Named
  pub files : IsTraceOf held replay trace names
  pub printed : Appends old new (text names (order_lines replay.model trace))

-- a beginning of that was appended, where the output took no more
pub record IsOrderCutOff (held : Contents) (replay : Replay) (old new : Option (List ℕ)) : Type 0 where
  pub trace : History
  pub names : List Named
  pub files : IsTraceOf held replay trace names
  pub begun : Begins old new (text names (order_lines replay.model trace))

-- the file holds a trace of which P holds
abbrev pub HasTrace : Contents → List ℕ → (History → Type 0) → Type 0
HasTrace held name P = (trace : History) × HoldsTrace held name trace × P trace

-- the order of a trace isn't judged for the cause that is told, or memory ran out
abbrev pub IsLineFault : Name → History → Fault → Type 0
IsLineFault name trace fault = ((error : CheckError) × (fault ≡ Check name error) × (refusal trace (completed trace) ≡ Some error)) ⊎ (fault ≡ OutOfMemory)

-- the trace is read first, then its end, then the image, which has to be the one in which it began, then its order is judged
abbrev pub IsOrderFault : Contents → Replay → Fault → Type 0
IsOrderFault held replay (Text file error) = (file ≡ replay.script) × IfSome (held replay.script.now) (λ known. IsNoTraceText known error)
IsOrderFault held replay (BytesAfterTrace file) = (file ≡ replay.script) × IfSome (held replay.script.now) GoOnBehindATrace
IsOrderFault held replay (CannotRead file) = (file ≡ replay.image) × HasTrace held replay.script.now (λ trace. Unit {0})
IsOrderFault held replay (Image file error) =
    (file ≡ replay.image) × HasTrace held replay.script.now (λ trace. IsNoImage held replay.raw replay.image.now (kib_of trace) error)
IsOrderFault held replay (OtherImage file address) = (file ≡ replay.script) × HasTrace held replay.script.now (λ trace. IsOtherImage held replay trace address)
IsOrderFault held replay (Check file error) = (file ≡ replay.script) × IsUnjudged held replay.script.now error
IsOrderFault held replay CannotWrite = Unit {0}
IsOrderFault held replay OutOfMemory = Unit {0}
IsOrderFault held replay _ = ⊥
