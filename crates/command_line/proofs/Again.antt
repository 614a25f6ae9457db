-- A replay of a run's journal prints what the run printed.
use Rattle.std.proofs.Common.{◌≡◌, ◌∙◌, ◌*◌, ℕ, Bool, true, IfSome, List, None, Ok, Option, Result, Some, ap, is_some, subst, sym}
use Rattle.std.specs.Prelude.{unwrap_or}
use Rattle.coherent_machine.specs.Machine.{Replayed, replayed_from}
use Rattle.command_files.specs.Composition.{Leads}
use Rattle.command_files.specs.Sizes.{config_of}
use Rattle.command_files.specs.Files.{HoldsImage, image_answer}
use Rattle.command_files.specs.Contents.{Contents}
use Rattle.command_line.specs.Runs.{RunsReplay}
use Rattle.elf_loader.specs.Image.{Initial}
use Rattle.elf_loader.specs.declared.error.LoadError.{LoadError}
use Rattle.machine_model.specs.Views.{State, opening}
use Rattle.machine_types.specs.declared.model.MemoryModel.{MemoryModel}
use Rattle.std.specs.Io.KnownBytes.{Appends}
use Rattle.trace_text.specs.Traces.{text}
use Rattle.trace_text.specs.declared.script.Script.{Script}

known_bytes : (o : Option (List ℕ)) (bytes : List ℕ) → is_some o ≡ true → IfSome o (λ known. known ≡ bytes) → o ≡ Some bytes
known_bytes None bytes some is = cc
known_bytes (Some known) bytes some is = ap Some is

bytes_are : (o : Option (List ℕ)) (bytes file : List ℕ) → o ≡ Some bytes → IfSome o (λ known. known ≡ file) → bytes ≡ file
bytes_are None bytes file held is = cc
bytes_are (Some known) bytes file held is = sym (ap (λ x. unwrap_or x known) held) ∙ is

abbrev image_or : Initial → Result Initial LoadError → Initial
image_or d (Ok image) = image
image_or d _ = d

-- one file is one image
one_image : (held left : Contents) (is_raw other_raw : Bool) (name other : List ℕ) (kib more : ℕ) (image again : Initial) (bytes : List ℕ) → other_raw ≡ is_raw → other ≡ name → more ≡ kib
    → held name ≡ Some bytes → left name ≡ Some bytes → HoldsImage held is_raw name kib image → HoldsImage left other_raw other more again → again ≡ image
one_image held left is_raw other_raw name other kib more image again bytes raw_same name_same kib_same read still one two =
    let first : bytes ≡ one.file = bytes_are (held name) bytes one.file read one.bytes in
    let second : bytes ≡ two.file = bytes_are (left other) bytes two.file (ap left name_same ∙ still) two.bytes in
    let loaded : image_answer other_raw two.file (1024 * more) ≡ image_answer is_raw one.file (1024 * kib) =
    (λ i. image_answer (raw_same i) ((sym second ∙ first) i) (1024 * kib_same i)) in
    ap (image_or again) (sym two.loaded ∙ (loaded ∙ one.loaded))

abbrev state_or : State → Replayed → State
state_or d (Replayed.Reached s) = s
state_or d _ = d

-- events lead to one state
one_state : (image again : Initial) (script other : Script) (model another : MemoryModel) (s t : State) → again ≡ image → other ≡ script → another ≡ model
    → Leads image script model s → Leads again other another t → t ≡ s
one_state image again script other model another s t image_same script_same model_same leads led =
    let same : replayed_from 0 (opening again (config_of other another)) other.events ≡ replayed_from 0 (opening image (config_of script model)) script.events =
    (λ i. replayed_from 0 (opening (image_same i) (config_of (script_same i) (model_same i))) (script_same i).events) in
    ap (state_or t) (sym led ∙ (same ∙ leads))

pub runs_replay : RunsReplay
runs_replay held left run judgement replay old new before after of ran replayed =
    let kept = ran.kept in
    let journal = known_bytes (left run.journal.now) _ of.kept kept.journal_file.bytes in
    let script_same : replayed.script ≡ ran.script = replayed.only ran.script kept.journal_file.is_script (ap left of.script ∙ journal) in
    let image_same : replayed.image ≡ ran.image =
    one_image held left run.raw replay.raw run.image.now replay.image.now run.machine.memory replayed.script.kib ran.image replayed.image of.bytes of.raw of.image
    (ap (λ (s : Script). s.kib) script_same ∙ kept.memory) of.read of.still kept.image_file replayed.image_file in
    let state_same : replayed.reached ≡ ran.reached =
    one_state ran.image replayed.image ran.script replayed.script run.machine.model replay.model ran.reached replayed.reached image_same script_same of.model ran.composed.replayed replayed.composed.replayed in
    record {
      printed = text ran.reached.trace;
      once = ran.composed.printed;
      again = subst (λ (s : State). Appends before after (text s.trace)) state_same replayed.composed.printed;
    }
