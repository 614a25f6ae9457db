-- Which faults are told of a trace or a script, and what each leaves.
use Rattle.std.proofs.Common.{◌≡◌, ◌≢◌, ◌∙◌, ◌⊎◌, ◌↔◌, ℕ, Bool, true, false, List, None, Option, Some, inl, inr, refl, subst, sym}
use Rattle.check_command.specs.Checking.{GoOnBehindATrace, IsNoTraceText, IsTraceFault}
use Rattle.check_command.proofs.Unread.{of_file}
use Rattle.command_files.specs.Contents.{Contents, HoldsBytes}
use Rattle.command_files.specs.Faults.{IsTextFault, Name}
use Rattle.command_files.specs.Files.{HoldsTrace}
use Rattle.command_files.specs.Status.{status_of}
use Rattle.command_files.specs.declared.fault.Fault.{Fault}
use Rattle.command_files.specs.declared.fault.Fault.TheVariants.{BadAddress, BadEvent, BytesAfterTrace, CannotMake, CannotRead, CannotShow, CannotWrite, Check, Configuration, Event, Image, Mismatch, NoThread, NothingHappens, OtherImage, OutOfMemory, Text, TooManyRows}
use Rattle.command_settings.specs.declared.wanted.Replay.{Replay}
use Rattle.command_files.specs.Strictness.{Strictness}
use Rattle.script_commands.proofs.ExplainTold.{explain_never_misused}
use Rattle.script_commands.specs.Explaining.{IsExplainFault, LeavesOfStream}
use Rattle.elf_symbols.specs.Named.{Named}
use Rattle.memory_model.specs.Traces.{completed}
use Rattle.order_text.specs.Text.{text}
use Rattle.order_text.specs.declared.line.Line.{Line}
use Rattle.rvwmo_order.specs.Answers.{refusal}
use Rattle.rvwmo_order.specs.declared.error.CheckError.{CheckError}
use Rattle.rvwmo_order.specs.declared.error.CheckError.TheVariants.{NoMemory}
use Rattle.std.specs.Io.KnownBytes.{Appends}
use Rattle.text_fields.specs.Writing.{Begins}
use Rattle.trace_commands.specs.Images.{HoldsNames, IsNamingFault}
use Rattle.trace_commands.specs.Kinds.{Either, IsTellingFault, begins_as_trace}
use Rattle.trace_commands.specs.Orders.{AreLines, IsLineFault, IsOrderCutOff, IsOrderFault, IsOrderTold, IsTraceOf}
use Rattle.trace_recorder.specs.History.{History}

-- ---- a trace's parts

-- bytes that are no trace's text
pub of_text : (held : Contents) (replay : Replay) (bytes : List ℕ) (fault : Fault) → HoldsBytes held replay.script.now bytes → IsTraceFault bytes replay.script fault → IsOrderFault held replay fault
of_text held replay bytes fault holds (inl (error, at, none)) =
    subst (IsOrderFault held replay) (sym at) (refl, of_file (held replay.script.now) bytes (λ known. IsNoTraceText known error) holds none)
of_text held replay bytes fault holds (inr (inl (at, more))) = subst (IsOrderFault held replay) (sym at) (refl, of_file (held replay.script.now) bytes GoOnBehindATrace holds more)
of_text held replay bytes fault holds (inr (inr at)) = subst (IsOrderFault held replay) (sym at) tt

-- an image that isn't the trace's
pub of_names : (held : Contents) (replay : Replay) (trace : History) (fault : Fault) → HoldsTrace held replay.script.now trace → IsNamingFault held replay trace fault → IsOrderFault held replay fault
of_names held replay trace CannotWrite file_holds so = absurd so
of_names held replay trace OutOfMemory file_holds so = tt
of_names held replay trace (CannotRead file) file_holds so = (so, (trace, file_holds, tt))
of_names held replay trace (CannotMake file) file_holds so = absurd so
of_names held replay trace (Image file error) file_holds so = (so.0, (trace, file_holds, so.1))
of_names held replay trace (Text file error) file_holds so = absurd so
of_names held replay trace (Event file line error) file_holds so = absurd so
of_names held replay trace (NothingHappens file line outcome) file_holds so = absurd so
of_names held replay trace (BytesAfterTrace file) file_holds so = absurd so
of_names held replay trace (Check file error) file_holds so = absurd so
of_names held replay trace (OtherImage file address) file_holds so = (so.0, (trace, file_holds, so.1))
of_names held replay trace (TooManyRows file) file_holds so = absurd so
of_names held replay trace (BadAddress word) file_holds so = absurd so
of_names held replay trace (CannotShow word cause) file_holds so = absurd so
of_names held replay trace NoThread file_holds so = absurd so
of_names held replay trace Mismatch file_holds so = absurd so
of_names held replay trace BadEvent file_holds so = absurd so
of_names held replay trace Configuration file_holds so = absurd so

-- an order that isn't judged
pub of_lines : (held : Contents) (replay : Replay) (trace : History) (fault : Fault) → HoldsTrace held replay.script.now trace → IsLineFault replay.script trace fault → IsOrderFault held replay fault
of_lines held replay trace fault holds (inl (error, at, refused)) = subst (IsOrderFault held replay) (sym at) (refl, record { trace = trace; file = holds; refused = refused })
of_lines held replay trace fault holds (inr at) = subst (IsOrderFault held replay) (sym at) tt

-- ---- none of them is the output's

pub names_are_not_write : (held : Contents) (replay : Replay) (trace : History) (fault : Fault) → IsNamingFault held replay trace fault → fault ≡ CannotWrite → ⊥
names_are_not_write held replay trace fault so at = subst (IsNamingFault held replay trace) at so

pub lines_are_not_write : (name : Name) (trace : History) (fault : Fault) → IsLineFault name trace fault → fault ≡ CannotWrite → ⊥
lines_are_not_write name trace fault (inl (error, at, refused)) write = let bad : Check name error ≡ CannotWrite = sym at ∙ write in cc
lines_are_not_write name trace fault (inr at) write = let bad : OutOfMemory ≡ CannotWrite = sym at ∙ write in cc

-- ---- a trace's faults among those of both kinds

pub text_left : (held : Contents) (name : Name) (old new : Option (List ℕ)) (broken : Type 0) (fault : Fault) → IsTextFault held name fault → new ≡ old → LeavesOfStream fault old new broken
text_left held name old new broken CannotWrite so same = absurd so
text_left held name old new broken OutOfMemory so same = inl same
text_left held name old new broken (CannotRead file) so same = same
text_left held name old new broken (CannotMake file) so same = absurd so
text_left held name old new broken (Image file error) so same = absurd so
text_left held name old new broken (Text file error) so same = same
text_left held name old new broken (Event file line error) so same = absurd so
text_left held name old new broken (NothingHappens file line outcome) so same = absurd so
text_left held name old new broken (BytesAfterTrace file) so same = absurd so
text_left held name old new broken (Check file error) so same = absurd so
text_left held name old new broken (OtherImage file address) so same = absurd so
text_left held name old new broken (TooManyRows file) so same = absurd so
text_left held name old new broken (BadAddress word) so same = absurd so
text_left held name old new broken (CannotShow word cause) so same = absurd so
text_left held name old new broken NoThread so same = absurd so
text_left held name old new broken Mismatch so same = absurd so
text_left held name old new broken BadEvent so same = absurd so
text_left held name old new broken Configuration so same = absurd so

text_never_misused : (held : Contents) (name : Name) (fault : Fault) → IsTextFault held name fault → status_of fault ≡ 2 → ⊥
text_never_misused held name CannotWrite so two = cc
text_never_misused held name OutOfMemory so two = cc
text_never_misused held name (CannotRead file) so two = cc
text_never_misused held name (CannotMake file) so two = cc
text_never_misused held name (Image file error) so two = cc
text_never_misused held name (Text file error) so two = cc
text_never_misused held name (Event file line error) so two = cc
text_never_misused held name (NothingHappens file line outcome) so two = cc
text_never_misused held name (BytesAfterTrace file) so two = cc
text_never_misused held name (Check file error) so two = cc
text_never_misused held name (OtherImage file address) so two = cc
text_never_misused held name (TooManyRows file) so two = cc
text_never_misused held name (BadAddress word) so two = so
text_never_misused held name (CannotShow word cause) so two = so
text_never_misused held name NoThread so two = cc
text_never_misused held name Mismatch so two = cc
text_never_misused held name BadEvent so two = cc
text_never_misused held name Configuration so two = so

order_never_misused : (held : Contents) (replay : Replay) (fault : Fault) → IsOrderFault held replay fault → status_of fault ≡ 2 → ⊥
order_never_misused held replay CannotWrite so two = cc
order_never_misused held replay OutOfMemory so two = cc
order_never_misused held replay (CannotRead file) so two = cc
order_never_misused held replay (CannotMake file) so two = cc
order_never_misused held replay (Image file error) so two = cc
order_never_misused held replay (Text file error) so two = cc
order_never_misused held replay (Event file line error) so two = cc
order_never_misused held replay (NothingHappens file line outcome) so two = cc
order_never_misused held replay (BytesAfterTrace file) so two = cc
order_never_misused held replay (Check file error) so two = cc
order_never_misused held replay (OtherImage file address) so two = cc
order_never_misused held replay (TooManyRows file) so two = cc
order_never_misused held replay (BadAddress word) so two = so
order_never_misused held replay (CannotShow word cause) so two = so
order_never_misused held replay NoThread so two = cc
order_never_misused held replay Mismatch so two = cc
order_never_misused held replay BadEvent so two = cc
order_never_misused held replay Configuration so two = so

pub telling_never_misused : (held : Contents) (replay : Replay) (strictness : Strictness) (old new : Option (List ℕ)) (fault : Fault) → IsTellingFault held replay strictness old new fault → status_of fault ≡ 2 → ⊥
telling_never_misused held replay strictness old new fault (inl so) two = text_never_misused held replay.script fault so two
telling_never_misused held replay strictness old new fault (inr kind) two = go (begins_as_trace kind.bytes) kind.so
  where
    go : (b : Bool) → Either b (IsOrderFault held replay fault) (IsExplainFault held replay strictness old new fault) → ⊥
    go true so = order_never_misused held replay fault so two
    go false so = explain_never_misused held replay strictness old new fault so two

-- ---- the whole

-- what is said of all files as they were behind another was said of them before
pub of_names_as_before : (now held : Contents) (replay : Replay) (trace : History) (fault : Fault) → now ≡ held → HoldsTrace held replay.script.now trace → IsNamingFault now replay trace fault → IsOrderFault held replay fault
of_names_as_before now held replay trace fault same holds so = of_names held replay trace fault holds (subst (λ (files : Contents). IsNamingFault files replay trace fault) same so)

trace_of : (now held : Contents) (replay : Replay) (trace : History) (names : List Named) → now ≡ held → HoldsTrace held replay.script.now trace → HoldsNames now replay trace names → refusal trace (completed trace) ≡ None → IsTraceOf held replay trace names
trace_of now held replay trace names same holds named judged = record {
  trace_file = holds;
  image_file = subst (λ (files : Contents). HoldsNames files replay trace names) same named;
  judged = judged;
}

module _ (now held : Contents) (replay : Replay) (trace : History) (names : List Named) (same : now ≡ held) (holds : HoldsTrace held replay.script.now trace) (named : HoldsNames now replay trace names)
    (lines : List Line) (are : AreLines replay.model trace lines) (old new : Option (List ℕ)) where
  pub told_whole : Appends old new (text names lines) → IsOrderTold held replay old new
  told_whole printed = record {
    trace = trace;
    names = names;
    files = trace_of now held replay trace names same holds named are.judged;
    printed = subst (λ (ls : List Line). Appends old new (text names ls)) are.lines printed;
  }

  pub cut_off : Begins old new (text names lines) → IsOrderCutOff held replay old new
  cut_off begun = record {
    trace = trace;
    names = names;
    files = trace_of now held replay trace names same holds named are.judged;
    begun = subst (λ (ls : List Line). Begins old new (text names ls)) are.lines begun;
  }

-- an order that isn't judged is refused for its cause, or memory ran out
pub line_fault : (name : Name) (trace : History) (error : CheckError) (fault : Fault) → (error ≢ NoMemory → refusal trace (completed trace) ≡ Some error) → (fault ≡ Check name error) ⊎ (fault ≡ OutOfMemory)
    → (fault ≡ OutOfMemory) ↔ (error ≡ NoMemory) → IsLineFault name trace fault
line_fault name trace error fault refused told memory = elim told [
  | inl check ↦ inl (error, check, refused (λ none. let bad : Check name error ≡ OutOfMemory = sym check ∙ memory.1 none in cc))
  | inr none ↦ inr none
]
