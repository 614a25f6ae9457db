use Rattle.std.proofs.Common.{refl, subst}
use Rattle.command_files.proofs.Left.{handed_up, image_as_before, image_is_not_write, left, script_is_not_write, spoiled}
use Rattle.command_files.proofs.Limits.{memory_within}
use Rattle.command_files.specs.Contents.{Contents}
use Rattle.command_files.specs.Files.{HoldsImage}
use Rattle.run_waves.specs.Waves.{AreBegun, AreUnfinished, AreWritten}
use Rattle.script_commands.proofs.ReplayTold.{of_image, of_script}
use Rattle.script_commands.proofs.Waved.{at_script, waves_left, waves_lost, waves_stopped, waves_told, written_begun, written_on}
use Rattle.script_commands.proofs.waving.wave_files.Goals as goal

pub image_in-requires : goal.image_in-requires
image_in-requires g c = memory_within c.in_ok-script.script c.in_ok-script.ensures.script.is_script

pub returns-in_err-script-clause-unfinished : goal.returns-in_err-script-clause-unfinished
returns-in_err-script-clause-unfinished g c =
    handed_up _ c.from_residual.result _ c.from_residual.ensures.1
    (left _ _ _ _ (script_is_not_write (g.F.Files.held c.args.files.now) _ _ c.in_err-script.ensures.fault) refl)

pub returns-in_err-image-clause-unfinished : goal.returns-in_err-image-clause-unfinished
returns-in_err-image-clause-unfinished g c =
    handed_up _ c.from_residual-in_err-image.result _ c.from_residual-in_err-image.ensures.1
    (left _ _ _ _ (image_is_not_write (g.F.Files.held c.script_in.new.files) c.args.wanted.raw c.args.wanted.image c.in_ok-script.script.kib _ c.in_err-image.ensures.fault) refl)

pub returns-in_err-script-clause-told : goal.returns-in_err-script-clause-told
returns-in_err-script-clause-told g c =
    handed_up _ c.from_residual.result _ c.from_residual.ensures.1 (of_script (g.F.Files.held c.args.files.now) c.args.wanted _ c.in_err-script.ensures.fault)

pub returns-in_err-image-clause-told : goal.returns-in_err-image-clause-told
returns-in_err-image-clause-told g c =
    handed_up _ c.from_residual-in_err-image.result _ c.from_residual-in_err-image.ensures.1
    (of_image (g.F.Files.held c.args.files.now) c.args.wanted c.in_ok-script.script _ c.in_ok-script.ensures.script (image_as_before (g.F.Files.held c.script_in.new.files) (g.F.Files.held c.args.files.now) c.args.wanted.raw c.args.wanted.image c.in_ok-script.script.kib _ c.in_ok-script.ensures.stays c.in_err-image.ensures.fault))

pub returns-in-Err-clause-unfinished : goal.returns-in-Err-clause-unfinished
returns-in-Err-clause-unfinished g c =
    waves_left _ c.args.wanted c.in_ok-script.script c.in_ok-image.image _ _ c.in_ok-script.ensures.script
    (subst (λ (held : Contents). HoldsImage held c.args.wanted.raw c.args.wanted.image.now c.in_ok-script.script.kib c.in_ok-image.image) c.in_ok-script.ensures.stays c.in_ok-image.ensures.image)
    c.in-Err.error _
    (at_script (λ config events. AreUnfinished c.in_ok-image.image config events (g.O.Write.contents c.args.out.now) (g.O.Write.contents c.write_waves-written.new.out) c.in-Err.error) _ _ _ _ c.config_of-config.ensures c.as_slice-events.ensures c.in-Err.ensures.unfinished)
    c.fault_of-fault.ensures

pub returns-in-Err-clause-told : goal.returns-in-Err-clause-told
returns-in-Err-clause-told g c =
    waves_told _ c.args.wanted c.in_ok-script.script c.in_ok-image.image _ _ c.in_ok-script.ensures.script
    (subst (λ (held : Contents). HoldsImage held c.args.wanted.raw c.args.wanted.image.now c.in_ok-script.script.kib c.in_ok-image.image) c.in_ok-script.ensures.stays c.in_ok-image.ensures.image)
    c.in-Err.error _
    (at_script (λ config events. AreUnfinished c.in_ok-image.image config events (g.O.Write.contents c.args.out.now) (g.O.Write.contents c.write_waves-written.new.out) c.in-Err.error) _ _ _ _ c.config_of-config.ensures c.as_slice-events.ensures c.in-Err.ensures.unfinished)
    c.fault_of-fault.ensures

pub returns-in-Ok-clause-waves : goal.returns-in-Ok-clause-waves
returns-in-Ok-clause-waves g c = record {
  script = c.in_ok-script.script;
  image = c.in_ok-image.image;
  script_file = c.in_ok-script.ensures.script;
  image_file =
      subst (λ (held : Contents). HoldsImage held c.args.wanted.raw c.args.wanted.image.now c.in_ok-script.script.kib c.in_ok-image.image)
      c.in_ok-script.ensures.stays c.in_ok-image.ensures.image;
  only = c.in_ok-script.ensures.only;
  written =
      at_script (λ config events. AreWritten c.in_ok-image.image config events (g.O.Write.contents c.args.out.now) (g.O.Write.contents c.flush.new.self)) _ _ _ _ c.config_of-config.ensures c.as_slice-events.ensures
      (written_on _ _ _ _ _ _ c.flush.ensures.bytes c.in_default.ensures.written);
}

pub returns-clause-unfinished : goal.returns-clause-unfinished
returns-clause-unfinished g c =
    spoiled _ _ _ _ c.writing.ensures.told
    (waves_stopped _ c.args.wanted c.in_ok-script.script c.in_ok-image.image _ _ c.in_ok-script.ensures.script
    (subst (λ (held : Contents). HoldsImage held c.args.wanted.raw c.args.wanted.image.now c.in_ok-script.script.kib c.in_ok-image.image) c.in_ok-script.ensures.stays c.in_ok-image.ensures.image)
    (at_script (λ config events. AreBegun c.in_ok-image.image config events (g.O.Write.contents c.args.out.now) (g.O.Write.contents c.flush.new.self)) _ _ _ _ c.config_of-config.ensures c.as_slice-events.ensures
    (written_begun _ _ _ _ _ _ c.flush.ensures.bytes c.in_default.ensures.written)))

pub returns-clause-told : goal.returns-clause-told
returns-clause-told g c = waves_lost _ c.args.wanted _ c.writing.ensures.told
