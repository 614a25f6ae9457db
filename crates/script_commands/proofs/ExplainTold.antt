-- Which faults an explanation hands up.
use Rattle.std.proofs.Common.{◌≡◌, ℕ, Bool, List, Option, inl, inr}
use Rattle.event_stream.specs.declared.strictness.Strictness.{Strictness}
use Rattle.command_files.specs.Contents.{Contents}
use Rattle.command_files.specs.Status.{status_of}
use Rattle.command_files.specs.Faults.{IsImageFault, IsScriptFault, Name}
use Rattle.command_files.specs.Files.{HoldsScript}
use Rattle.script_commands.specs.Explaining.{IsExplainFault, LeavesOfStream}
use Rattle.command_files.specs.declared.fault.Fault.{Fault}
use Rattle.command_files.specs.declared.fault.Fault.TheVariants.{BadAddress, BadEvent, BytesAfterTrace, CannotMake, CannotRead, CannotShow, CannotWrite, Check, Configuration, Event, Image, Mismatch, NoThread, NothingHappens, OtherImage, OutOfMemory, Text, TooManyRows}
use Rattle.command_settings.specs.declared.wanted.Replay.{Replay}
use Rattle.trace_text.specs.declared.script.Script.{Script}

pub of_explained_script : (held : Contents) (replay : Replay) (strictness : Strictness) (old new : Option (List ℕ)) (fault : Fault) → IsScriptFault held replay.script fault → IsExplainFault held replay strictness old new fault
of_explained_script held replay strictness old new (CannotRead file) is = inl is
of_explained_script held replay strictness old new (Text file error) is = is
of_explained_script held replay strictness old new OutOfMemory is = tt
of_explained_script held replay strictness old new (CannotMake file) is = absurd is
of_explained_script held replay strictness old new CannotWrite is = absurd is
of_explained_script held replay strictness old new (Image file error) is = absurd is
of_explained_script held replay strictness old new (Event file line error) is = absurd is
of_explained_script held replay strictness old new (NothingHappens file line outcome) is = absurd is
of_explained_script held replay strictness old new (BytesAfterTrace file) is = absurd is
of_explained_script held replay strictness old new (Check file error) is = absurd is
of_explained_script held replay strictness old new (OtherImage file address) is = absurd is
of_explained_script held replay strictness old new (TooManyRows file) is = absurd is
of_explained_script held replay strictness old new (BadAddress word) is = absurd is
of_explained_script held replay strictness old new (CannotShow word cause) is = absurd is
of_explained_script held replay strictness old new NoThread is = absurd is
of_explained_script held replay strictness old new Mismatch is = absurd is
of_explained_script held replay strictness old new BadEvent is = absurd is
of_explained_script held replay strictness old new Configuration is = absurd is

pub of_explained_image : (held : Contents) (replay : Replay) (strictness : Strictness) (old new : Option (List ℕ)) (script : Script) (fault : Fault) → HoldsScript held replay.script.now script
    → IsImageFault held replay.raw replay.image script.kib fault → IsExplainFault held replay strictness old new fault
of_explained_image held replay strictness old new script (CannotRead file) has is = inr (is, (script, has))
of_explained_image held replay strictness old new script (Image file error) has is = (is.0, (script, has, is.1))
of_explained_image held replay strictness old new script OutOfMemory has is = tt
of_explained_image held replay strictness old new script (Text file error) has is = absurd is
of_explained_image held replay strictness old new script (CannotMake file) has is = absurd is
of_explained_image held replay strictness old new script CannotWrite has is = absurd is
of_explained_image held replay strictness old new script (Event file line error) has is = absurd is
of_explained_image held replay strictness old new script (NothingHappens file line outcome) has is = absurd is
of_explained_image held replay strictness old new script (BytesAfterTrace file) has is = absurd is
of_explained_image held replay strictness old new script (Check file error) has is = absurd is
of_explained_image held replay strictness old new script (OtherImage file address) has is = absurd is
of_explained_image held replay strictness old new script (TooManyRows file) has is = absurd is
of_explained_image held replay strictness old new script (BadAddress word) has is = absurd is
of_explained_image held replay strictness old new script (CannotShow word cause) has is = absurd is
of_explained_image held replay strictness old new script NoThread has is = absurd is
of_explained_image held replay strictness old new script Mismatch has is = absurd is
of_explained_image held replay strictness old new script BadEvent has is = absurd is
of_explained_image held replay strictness old new script Configuration has is = absurd is

pub explain_never_misused : (held : Contents) (replay : Replay) (strictness : Strictness) (old new : Option (List ℕ)) (fault : Fault) → IsExplainFault held replay strictness old new fault → status_of fault ≡ 2 → ⊥
explain_never_misused held replay strictness old new CannotWrite so two = cc
explain_never_misused held replay strictness old new OutOfMemory so two = cc
explain_never_misused held replay strictness old new (CannotRead file) so two = cc
explain_never_misused held replay strictness old new (CannotMake file) so two = cc
explain_never_misused held replay strictness old new (Image file error) so two = cc
explain_never_misused held replay strictness old new (Text file error) so two = cc
explain_never_misused held replay strictness old new (Event file line error) so two = cc
explain_never_misused held replay strictness old new (NothingHappens file line outcome) so two = cc
explain_never_misused held replay strictness old new (BytesAfterTrace file) so two = cc
explain_never_misused held replay strictness old new (Check file error) so two = cc
explain_never_misused held replay strictness old new (OtherImage file address) so two = cc
explain_never_misused held replay strictness old new (TooManyRows file) so two = cc
explain_never_misused held replay strictness old new (BadAddress word) so two = so
explain_never_misused held replay strictness old new (CannotShow word cause) so two = so
explain_never_misused held replay strictness old new NoThread so two = cc
explain_never_misused held replay strictness old new Mismatch so two = cc
explain_never_misused held replay strictness old new BadEvent so two = cc
explain_never_misused held replay strictness old new Configuration so two = so

-- a file's fault leaves the output as it was
pub script_left : (held : Contents) (name : Name) (old new : Option (List ℕ)) (cut : Type 0) (fault : Fault) → IsScriptFault held name fault → new ≡ old → LeavesOfStream fault old new cut
script_left held name old new cut CannotWrite is same = absurd is
script_left held name old new cut OutOfMemory is same = inl same
script_left held name old new cut (CannotRead file) is same = same
script_left held name old new cut (CannotMake file) is same = absurd is
script_left held name old new cut (Image file error) is same = absurd is
script_left held name old new cut (Text file error) is same = same
script_left held name old new cut (Event file line error) is same = absurd is
script_left held name old new cut (NothingHappens file line outcome) is same = absurd is
script_left held name old new cut (BytesAfterTrace file) is same = absurd is
script_left held name old new cut (Check file error) is same = absurd is
script_left held name old new cut (OtherImage file address) is same = absurd is
script_left held name old new cut (TooManyRows file) is same = absurd is
script_left held name old new cut (BadAddress word) is same = absurd is
script_left held name old new cut (CannotShow word cause) is same = absurd is
script_left held name old new cut NoThread is same = absurd is
script_left held name old new cut Mismatch is same = absurd is
script_left held name old new cut BadEvent is same = absurd is
script_left held name old new cut Configuration is same = absurd is

pub image_left : (held : Contents) (is_raw : Bool) (name : Name) (kib : ℕ) (old new : Option (List ℕ)) (cut : Type 0) (fault : Fault) → IsImageFault held is_raw name kib fault → new ≡ old → LeavesOfStream fault old new cut
image_left held is_raw name kib old new cut CannotWrite is same = absurd is
image_left held is_raw name kib old new cut OutOfMemory is same = inl same
image_left held is_raw name kib old new cut (CannotRead file) is same = same
image_left held is_raw name kib old new cut (CannotMake file) is same = absurd is
image_left held is_raw name kib old new cut (Image file error) is same = same
image_left held is_raw name kib old new cut (Text file error) is same = absurd is
image_left held is_raw name kib old new cut (Event file line error) is same = absurd is
image_left held is_raw name kib old new cut (NothingHappens file line outcome) is same = absurd is
image_left held is_raw name kib old new cut (BytesAfterTrace file) is same = absurd is
image_left held is_raw name kib old new cut (Check file error) is same = absurd is
image_left held is_raw name kib old new cut (OtherImage file address) is same = absurd is
image_left held is_raw name kib old new cut (TooManyRows file) is same = absurd is
image_left held is_raw name kib old new cut (BadAddress word) is same = absurd is
image_left held is_raw name kib old new cut (CannotShow word cause) is same = absurd is
image_left held is_raw name kib old new cut NoThread is same = absurd is
image_left held is_raw name kib old new cut Mismatch is same = absurd is
image_left held is_raw name kib old new cut BadEvent is same = absurd is
image_left held is_raw name kib old new cut Configuration is same = absurd is
