-- Which faults a picture's parts hand up.
use Rattle.std.proofs.Common.{◌≡◌, ◌∙◌, ◌⊎◌, ℕ, None, Option, Some, ap, inl, inr, refl, subst, sym}
use Rattle.script_commands.specs.Charting.{IsChartFault, IsDrawingFault, IsNoAddress}
use Rattle.event_stream.specs.TheVariants as refusals
use Rattle.command_files.specs.Faults.{IsImageFault, IsScriptFault, Name}
use Rattle.command_files.specs.Files.{HoldsScript}
use Rattle.command_files.specs.Contents.{Contents}
use Rattle.command_files.specs.Status.{status_of}
use Rattle.command_files.specs.declared.fault.Fault.{Fault}
use Rattle.command_files.specs.declared.fault.Fault.TheVariants.{BadAddress, BadEvent, BytesAfterTrace, CannotMake, CannotRead, CannotShow, CannotWrite, Check, Configuration, Event, Image, Mismatch, NoThread, NothingHappens, OtherImage, OutOfMemory, Text, TooManyRows}
use Rattle.command_settings.specs.declared.wanted.Replay.{Replay}
use Rattle.run_chart.specs.declared.errors.ChartError.{ChartError}
use Rattle.run_chart.specs.declared.errors.ChartError.TheVariants as chart
use Rattle.trace_text.specs.declared.script.Script.{Script}

pub of_address : (held : Contents) (replay : Replay) (line : Option Name) (fault : Fault) → IsNoAddress line fault → IsChartFault held replay line fault
of_address held replay None fault so = absurd so
of_address held replay (Some word) fault so = subst (IsChartFault held replay (Some word)) (sym so.1) (refl, so.0)

pub address_is_not_write : (line : Option Name) (fault : Fault) → IsNoAddress line fault → fault ≡ CannotWrite → ⊥
address_is_not_write None fault so at = so
address_is_not_write (Some word) fault so at = let bad : BadAddress word ≡ CannotWrite = sym so.1 ∙ at in cc

pub of_chart_script : (held : Contents) (replay : Replay) (line : Option Name) (fault : Fault) → IsScriptFault held replay.script fault → IsChartFault held replay line fault
of_chart_script held replay line (CannotRead file) is = inl is
of_chart_script held replay line (CannotMake file) is = absurd is
of_chart_script held replay line CannotWrite is = absurd is
of_chart_script held replay line (Image file error) is = absurd is
of_chart_script held replay line (Text file error) is = is
of_chart_script held replay line (Event file place error) is = absurd is
of_chart_script held replay line (NothingHappens file place outcome) is = absurd is
of_chart_script held replay line (BytesAfterTrace file) is = absurd is
of_chart_script held replay line (Check file error) is = absurd is
of_chart_script held replay line (OtherImage file address) is = absurd is
of_chart_script held replay line (TooManyRows file) is = absurd is
of_chart_script held replay line (BadAddress word) is = absurd is
of_chart_script held replay line (CannotShow word cause) is = absurd is
of_chart_script held replay line NoThread is = absurd is
of_chart_script held replay line Mismatch is = absurd is
of_chart_script held replay line BadEvent is = absurd is
of_chart_script held replay line Configuration is = absurd is
of_chart_script held replay line OutOfMemory is = tt

pub of_chart_image : (held : Contents) (replay : Replay) (line : Option Name) (script : Script) (fault : Fault) → HoldsScript held replay.script.now script → IsImageFault held replay.raw replay.image script.kib fault
    → IsChartFault held replay line fault
of_chart_image held replay line script (CannotRead file) has is = inr (is, (script, has))
of_chart_image held replay line script (CannotMake file) has is = absurd is
of_chart_image held replay line script CannotWrite has is = absurd is
of_chart_image held replay line script (Image file error) has is = (is.0, (script, has, is.1))
of_chart_image held replay line script (Text file error) has is = absurd is
of_chart_image held replay line script (Event file place error) has is = absurd is
of_chart_image held replay line script (NothingHappens file place outcome) has is = absurd is
of_chart_image held replay line script (BytesAfterTrace file) has is = absurd is
of_chart_image held replay line script (Check file error) has is = absurd is
of_chart_image held replay line script (OtherImage file address) has is = absurd is
of_chart_image held replay line script (TooManyRows file) has is = absurd is
of_chart_image held replay line script (BadAddress word) has is = absurd is
of_chart_image held replay line script (CannotShow word cause) has is = absurd is
of_chart_image held replay line script NoThread has is = absurd is
of_chart_image held replay line script Mismatch has is = absurd is
of_chart_image held replay line script BadEvent has is = absurd is
of_chart_image held replay line script Configuration has is = absurd is
of_chart_image held replay line script OutOfMemory has is = tt

one_not_two : ◌≡◌ {A = ℕ} 1 2 → ⊥
one_not_two e = cc

four_not_two : ◌≡◌ {A = ℕ} 4 2 → ⊥
four_not_two e = cc

-- a fault of status 2 tells of a word that names no address
pub chart_misused : (held : Contents) (replay : Replay) (line : Option Name) (fault : Fault) → IsChartFault held replay line fault → status_of fault ≡ 2 → IsNoAddress line fault
chart_misused held replay line (CannotRead file) so two = absurd (one_not_two two)
chart_misused held replay line (CannotMake file) so two = absurd (one_not_two two)
chart_misused held replay line CannotWrite so two = absurd (one_not_two two)
chart_misused held replay line (Image file error) so two = absurd (one_not_two two)
chart_misused held replay line (Text file error) so two = absurd (one_not_two two)
chart_misused held replay line (Event file place error) so two = absurd (one_not_two two)
chart_misused held replay line (NothingHappens file place outcome) so two = absurd (one_not_two two)
chart_misused held replay line (BytesAfterTrace file) so two = absurd (one_not_two two)
chart_misused held replay line (Check file error) so two = absurd (one_not_two two)
chart_misused held replay line (OtherImage file address) so two = absurd (one_not_two two)
chart_misused held replay line (TooManyRows file) so two = absurd (one_not_two two)
chart_misused held replay line (BadAddress word) so two = subst (λ (l : Option Name). IsNoAddress l (BadAddress word)) (sym so.0) (so.1, refl)
chart_misused held replay line (CannotShow word cause) so two = absurd so
chart_misused held replay line NoThread so two = absurd (one_not_two two)
chart_misused held replay line Mismatch so two = absurd (one_not_two two)
chart_misused held replay line BadEvent so two = absurd (one_not_two two)
chart_misused held replay line Configuration so two = absurd so
chart_misused held replay line OutOfMemory so two = absurd (four_not_two two)

pub writing_never_misused : (fault : Fault) → (fault ≡ CannotWrite) ⊎ (fault ≡ OutOfMemory) → status_of fault ≡ 2 → ⊥
writing_never_misused fault is two = elim is [
  | inl at ↦ one_not_two (sym (ap status_of at) ∙ two)
  | inr at ↦ four_not_two (sym (ap status_of at) ∙ two)
]

-- nor does what is told of the drawing
pub drawing_never_misused : (script : Name) (error : ChartError) (fault : Fault) → IsDrawingFault script error fault → status_of fault ≡ 2 → ⊥
drawing_never_misused script (chart.Replay refusal) fault told two = elim told.0 [
  | inl at ↦ four_not_two (sym (ap status_of at) ∙ two)
  | inr event ↦ one_not_two (sym (ap status_of event.3) ∙ two)
]
drawing_never_misused script chart.TooManyRows fault told two = one_not_two (sym (ap status_of told) ∙ two)
drawing_never_misused script chart.NoMemory fault told two = four_not_two (sym (ap status_of told) ∙ two)
drawing_never_misused script (chart.Writing error) fault told two = writing_never_misused fault told.0 two
