use Rattle.std.proofs.Common.{◌≡◌, ◌∙◌, ◌⊎◌, ◌+◌, ◌^◌, ◌-◌, ℕ, ap, inl, inr, map, refl, subst, sym}
use Rattle.std.specs.Prelude.{min}
use Rattle.event_stream.specs.Machine.{IsFirstRefusal}
use Rattle.event_stream.specs.ReplayError.{ReplayError}
use Rattle.event_stream.specs.TheVariants as refusals
use Rattle.command_files.specs.Sizes.{config_of}
use Rattle.command_files.specs.Faults.{IsReplayFault}
use Rattle.command_files.specs.declared.fault.Fault.{Fault}
use Rattle.command_files.specs.declared.fault.Fault.TheVariants.{CannotWrite, Event, OutOfMemory}
use Rattle.command_settings.specs.declared.wanted.Replay.{Replay}
use Rattle.elf_loader.specs.Image.{Initial}
use Rattle.event_stream.specs.Views.{opening}
use Rattle.event_stream.specs.ApplyError.{ApplyError}
use Rattle.trace_text.specs.declared.script.Script.{Script}
use Rattle.command_files.specs.Files.{HoldsImage, HoldsScript}
use Rattle.command_files.specs.Contents.{Contents}
use Rattle.command_files.proofs.Ended.{ends_begun}
use Rattle.command_files.proofs.Left.{handed_up, image_as_before, image_is_not_write, left, script_is_not_write, spoiled}
use Rattle.script_commands.proofs.ReplayTold.{of_image, of_script}
use Rattle.command_files.proofs.Limits.{memory_within}
use Rattle.command_files.proofs.Written.{all_begun, kept_on}
use Rattle.script_commands.proofs.replay.replaying.replay_files.Goals as goal

-- what a refused replay is told as
told_of : (held : Contents) (replay : Replay) (script : Script) (image : Initial) (refusal : ReplayError) (fault : Fault)
    → HoldsScript held replay.script.now script → HoldsImage held replay.raw replay.image.now script.kib image
    → IsFirstRefusal (opening image (config_of script replay.model)) script.events refusal
    → (fault ≡ OutOfMemory) ⊎ ((index : ℕ) × (error : ApplyError) × (refusal ≡ refusals.Event index error) × (fault ≡ Event replay.script (min (index + 2) (2 ^ 64 - 1)) error))
    → IsReplayFault held replay fault
told_of held replay script image refusal fault script_file image_file first told = elim told [
  | inl memory ↦ subst (IsReplayFault held replay) (sym memory) tt
  | inr event ↦ subst (IsReplayFault held replay) (sym event.3) (
    refl,
    record {
      script = script;
      image = image;
      script_file = script_file;
      image_file = image_file;
      index = event.0;
      place = refl;
      refused = subst (IsFirstRefusal (opening image (config_of script replay.model)) script.events) event.2 first;
    },
  )
]

no_write : (replay : Replay) (refusal : ReplayError) (fault : Fault)
    → (fault ≡ OutOfMemory) ⊎ ((index : ℕ) × (error : ApplyError) × (refusal ≡ refusals.Event index error) × (fault ≡ Event replay.script (min (index + 2) (2 ^ 64 - 1)) error))
    → fault ≡ CannotWrite → ⊥
no_write replay refusal fault told at = elim told [
  | inl memory ↦ let bad : OutOfMemory ≡ CannotWrite = sym memory ∙ at in cc
  | inr event ↦ let bad : Event replay.script (min (event.0 + 2) (2 ^ 64 - 1)) event.1 ≡ CannotWrite = sym event.3 ∙ at in cc
]

either_told : (held : Contents) (replay : Replay) (fault : Fault) → (fault ≡ CannotWrite) ⊎ (fault ≡ OutOfMemory) → IsReplayFault held replay fault
either_told held replay fault is = elim is [
  | inl at ↦ subst (IsReplayFault held replay) (sym at) tt
  | inr at ↦ subst (IsReplayFault held replay) (sym at) tt
]

pub returns-clause-replayed : goal.returns-clause-replayed
returns-clause-replayed g c =
    let composed = c.in-Ok.ensures.written in
    record {
      script = c.in_ok-script.script;
      image = c.in_ok-image.field-0.image;
      reached = c.in-Ok.machine;
      script_file = c.in_ok-script.ensures.script;
      image_file =
          subst (λ (held : Contents). HoldsImage held c.args.wanted.raw c.args.wanted.image.now c.in_ok-script.script.kib c.in_ok-image.field-0.image)
          c.in_ok-script.ensures.stays c.in_ok-image.ensures.loaded;
      only = c.in_ok-script.ensures.only;
      composed = record {
        replayed = composed.replayed;
        printed = kept_on _ _ _ _ composed.printed c.flush.ensures.bytes;
        readable = composed.readable;
        headline = composed.headline;
        log = composed.log;
      };
    }

pub returns-clause-ends : goal.returns-clause-ends
returns-clause-ends g c =
    let machine = c.in-Ok.machine in
    let told = c.into_parts-trace in
    record {
      script = c.in_ok-script.script;
      image = c.in_ok-image.field-0.image;
      reached = machine;
      script_file = c.in_ok-script.ensures.script;
      image_file =
          subst (λ (held : Contents). HoldsImage held c.args.wanted.raw c.args.wanted.image.now c.in_ok-script.script.kib c.in_ok-image.field-0.image)
          c.in_ok-script.ensures.stays c.in_ok-image.ensures.loaded;
      replayed = c.in-Ok.ensures.written.replayed;
      begun = ends_begun (g.E.Write.contents c.args.err.now) (g.E.Write.contents c.print_ends.new.err) machine _ c.statuses.result.now _ c.print_ends.result c.statuses.ensures told.ensures.trace (ap (map (λ output. output.items)) c.as_slice.ensures.value ∙ told.ensures.outputs) c.print_ends.ensures;
    }

pub named_image_in-requires : goal.named_image_in-requires
named_image_in-requires g c = memory_within c.in_ok-script.script c.in_ok-script.ensures.script.is_script

pub returns-in_err-script-clause-unfinished : goal.returns-in_err-script-clause-unfinished
returns-in_err-script-clause-unfinished g c =
    handed_up _ c.from_residual.result _ c.from_residual.ensures.1
    (left _ _ _ _ (script_is_not_write (g.F.Files.held c.args.files.now) _ _ c.in_err-script.ensures.fault) refl)

pub returns-in_err-script-clause-told : goal.returns-in_err-script-clause-told
returns-in_err-script-clause-told g c =
    handed_up _ c.from_residual.result _ c.from_residual.ensures.1 (of_script (g.F.Files.held c.args.files.now) c.args.wanted _ c.in_err-script.ensures.fault)

pub returns-in_err-image-clause-unfinished : goal.returns-in_err-image-clause-unfinished
returns-in_err-image-clause-unfinished g c =
    handed_up _ c.from_residual-in_err-image.result _ c.from_residual-in_err-image.ensures.1
    (left _ _ _ _ (image_is_not_write (g.F.Files.held c.args.files.now) c.args.wanted.raw c.args.wanted.image c.in_ok-script.script.kib _ (image_as_before (g.F.Files.held c.script_in.new.files) (g.F.Files.held c.args.files.now) c.args.wanted.raw c.args.wanted.image c.in_ok-script.script.kib _ c.in_ok-script.ensures.stays c.in_err-image.ensures.fault)) refl)

pub returns-in_err-image-clause-told : goal.returns-in_err-image-clause-told
returns-in_err-image-clause-told g c =
    handed_up _ c.from_residual-in_err-image.result _ c.from_residual-in_err-image.ensures.1
    (of_image (g.F.Files.held c.args.files.now) c.args.wanted c.in_ok-script.script _ c.in_ok-script.ensures.script (image_as_before (g.F.Files.held c.script_in.new.files) (g.F.Files.held c.args.files.now) c.args.wanted.raw c.args.wanted.image c.in_ok-script.script.kib _ c.in_ok-script.ensures.stays c.in_err-image.ensures.fault))

pub returns-in-Err-Replay-clause-unfinished : goal.returns-in-Err-Replay-clause-unfinished
returns-in-Err-Replay-clause-unfinished g c =
    left _ _ _ _ (no_write c.args.wanted c.in-Err-Replay.error _ c.replay-fault.ensures.told) (rw c.in-Err-Replay.field-0-is at c.in-Err-Replay.ensures.unfinished).0

pub returns-in-Err-Replay-clause-told : goal.returns-in-Err-Replay-clause-told
returns-in-Err-Replay-clause-told g c =
    told_of _ c.args.wanted c.in_ok-script.script c.in_ok-image.field-0.image c.in-Err-Replay.error _ c.in_ok-script.ensures.script
    (subst (λ (held : Contents). HoldsImage held c.args.wanted.raw c.args.wanted.image.now c.in_ok-script.script.kib c.in_ok-image.field-0.image) c.in_ok-script.ensures.stays c.in_ok-image.ensures.loaded)
    (rw c.in-Err-Replay.field-0-is at c.in-Err-Replay.ensures.unfinished).1
    c.replay-fault.ensures.told

pub returns-in-Err-Writing-clause-unfinished : goal.returns-in-Err-Writing-clause-unfinished
returns-in-Err-Writing-clause-unfinished g c =
    let cut = rw c.in-Err-Writing.field-0-is at c.in-Err-Writing.ensures.unfinished in
    spoiled _ _ _ _ c.writing.ensures.told
    (record {
      script = c.in_ok-script.script;
      image = c.in_ok-image.field-0.image;
      reached = cut.0;
      script_file = c.in_ok-script.ensures.script;
      image_file =
          subst (λ (held : Contents). HoldsImage held c.args.wanted.raw c.args.wanted.image.now c.in_ok-script.script.kib c.in_ok-image.field-0.image)
          c.in_ok-script.ensures.stays c.in_ok-image.ensures.loaded;
      replayed = cut.1;
      begun = cut.2;
    })

pub returns-in-Err-clause-unfinished : goal.returns-in-Err-clause-unfinished
returns-in-Err-clause-unfinished g c =
    let composed = c.in-Ok.ensures.written in
    spoiled _ _ _ _ c.writing-in-Err.ensures.told
    (record {
      script = c.in_ok-script.script;
      image = c.in_ok-image.field-0.image;
      reached = c.in-Ok.machine;
      script_file = c.in_ok-script.ensures.script;
      image_file =
          subst (λ (held : Contents). HoldsImage held c.args.wanted.raw c.args.wanted.image.now c.in_ok-script.script.kib c.in_ok-image.field-0.image)
          c.in_ok-script.ensures.stays c.in_ok-image.ensures.loaded;
      replayed = composed.replayed;
      begun = all_begun _ _ _ _ composed.printed c.flush.ensures.bytes;
    })

pub returns-in-Err-clause-told : goal.returns-in-Err-clause-told
returns-in-Err-clause-told g c = either_told _ c.args.wanted _ c.writing-in-Err.ensures.told
