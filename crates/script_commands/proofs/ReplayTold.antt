-- Which faults a replay hands up.
use Rattle.std.proofs.Common.{◌≡◌, inl, inr}
use Rattle.command_files.specs.Contents.{Contents}
use Rattle.command_files.specs.Status.{status_of}
use Rattle.command_files.specs.Faults.{IsImageFault, IsScriptFault}
use Rattle.command_files.specs.Files.{HoldsScript}
use Rattle.command_files.specs.Faults.{IsReplayFault}
use Rattle.command_files.specs.declared.fault.Fault.{Fault}
use Rattle.command_files.specs.declared.fault.Fault.TheVariants.{BadAddress, BadEvent, BytesAfterTrace, CannotMake, CannotRead, CannotShow, CannotWrite, Check, Configuration, Event, Image, Mismatch, NoThread, NothingHappens, OtherImage, OutOfMemory, Text, TooManyRows}
use Rattle.command_settings.specs.declared.wanted.Replay.{Replay}
use Rattle.trace_text.specs.declared.script.Script.{Script}

pub of_script : (held : Contents) (replay : Replay) (fault : Fault) → IsScriptFault held replay.script fault → IsReplayFault held replay fault
of_script held replay (CannotRead file) is = inl is
of_script held replay (Text file error) is = is
of_script held replay OutOfMemory is = tt
of_script held replay (CannotMake file) is = absurd is
of_script held replay CannotWrite is = absurd is
of_script held replay (Image file error) is = absurd is
of_script held replay (Event file line error) is = absurd is
of_script held replay (BytesAfterTrace file) is = absurd is
of_script held replay (NothingHappens file line outcome) is = absurd is
of_script held replay (Check file error) is = absurd is
of_script held replay (OtherImage file address) is = absurd is
of_script held replay (TooManyRows file) is = absurd is
of_script held replay (BadAddress word) is = absurd is
of_script held replay (CannotShow word cause) is = absurd is
of_script held replay NoThread is = absurd is
of_script held replay Mismatch is = absurd is
of_script held replay BadEvent is = absurd is
of_script held replay Configuration is = absurd is

pub of_image : (held : Contents) (replay : Replay) (script : Script) (fault : Fault) → HoldsScript held replay.script.now script → IsImageFault held replay.raw replay.image script.kib fault
    → IsReplayFault held replay fault
of_image held replay script (CannotRead file) has is = inr (is, (script, has))
of_image held replay script (Image file error) has is = (is.0, (script, has, is.1))
of_image held replay script OutOfMemory has is = tt
of_image held replay script (Text file error) has is = absurd is
of_image held replay script (CannotMake file) has is = absurd is
of_image held replay script CannotWrite has is = absurd is
of_image held replay script (Event file line error) has is = absurd is
of_image held replay script (BytesAfterTrace file) has is = absurd is
of_image held replay script (NothingHappens file line outcome) has is = absurd is
of_image held replay script (Check file error) has is = absurd is
of_image held replay script (OtherImage file address) has is = absurd is
of_image held replay script (TooManyRows file) has is = absurd is
of_image held replay script (BadAddress word) has is = absurd is
of_image held replay script (CannotShow word cause) has is = absurd is
of_image held replay script NoThread has is = absurd is
of_image held replay script Mismatch has is = absurd is
of_image held replay script BadEvent has is = absurd is
of_image held replay script Configuration has is = absurd is

pub replay_never_misused : (held : Contents) (replay : Replay) (fault : Fault) → IsReplayFault held replay fault → status_of fault ≡ 2 → ⊥
replay_never_misused held replay CannotWrite so two = cc
replay_never_misused held replay OutOfMemory so two = cc
replay_never_misused held replay (CannotRead file) so two = cc
replay_never_misused held replay (CannotMake file) so two = cc
replay_never_misused held replay (Image file error) so two = cc
replay_never_misused held replay (Text file error) so two = cc
replay_never_misused held replay (Event file line error) so two = cc
replay_never_misused held replay (BytesAfterTrace file) so two = cc
replay_never_misused held replay (NothingHappens file line outcome) so two = cc
replay_never_misused held replay (Check file error) so two = cc
replay_never_misused held replay (OtherImage file address) so two = cc
replay_never_misused held replay (TooManyRows file) so two = cc
replay_never_misused held replay (BadAddress word) so two = so
replay_never_misused held replay (CannotShow word cause) so two = so
replay_never_misused held replay NoThread so two = cc
replay_never_misused held replay Mismatch so two = cc
replay_never_misused held replay BadEvent so two = cc
replay_never_misused held replay Configuration so two = so
