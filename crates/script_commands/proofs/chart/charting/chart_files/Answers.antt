use Rattle.std.proofs.Common.{refl, subst}
use Rattle.script_commands.proofs.Drawn.{begun_at, drawn_at, drawn_begun, drawn_on, left_by, lost_told, stopped, told_as, undrawn_at}
use Rattle.script_commands.proofs.ChartTold.{address_is_not_write, drawing_never_misused, of_address, of_chart_image, of_chart_script, writing_never_misused}
use Rattle.command_files.proofs.Left.{handed_up, image_as_before, image_is_not_write, left, script_is_not_write, spoiled}
use Rattle.command_files.proofs.Limits.{memory_within}
use Rattle.command_files.specs.Files.{HoldsImage}
use Rattle.command_files.specs.Named.{HoldsNamedImage}
use Rattle.command_files.specs.Contents.{Contents}
use Rattle.script_commands.proofs.chart.charting.chart_files.Goals as goal

pub named_image_in-requires : goal.named_image_in-requires
named_image_in-requires g c = memory_within c.in_ok-script.script c.in_ok-script.ensures.script.is_script

pub returns-in_err-address-clause-unfinished : goal.returns-in_err-address-clause-unfinished
returns-in_err-address-clause-unfinished g c =
    handed_up _ c.from_residual.result _ c.from_residual.ensures.1 (left _ _ _ _ (address_is_not_write _ _ c.in_err-address.ensures.refused) refl)

pub returns-in_err-script-clause-unfinished : goal.returns-in_err-script-clause-unfinished
returns-in_err-script-clause-unfinished g c =
    handed_up _ c.from_residual-in_err-script.result _ c.from_residual-in_err-script.ensures.1
    (left _ _ _ _ (script_is_not_write (g.F.Files.held c.args.files.now) _ _ c.in_err-script.ensures.fault) refl)

pub returns-in_err-named-clause-unfinished : goal.returns-in_err-named-clause-unfinished
returns-in_err-named-clause-unfinished g c =
    handed_up _ c.from_residual-in_err-named.result _ c.from_residual-in_err-named.ensures.1
    (left _ _ _ _ (image_is_not_write (g.F.Files.held c.script_in.new.files) c.args.wanted.raw c.args.wanted.image c.in_ok-script.script.kib _ c.in_err-named.ensures.fault) refl)

pub returns-in_err-address-clause-told : goal.returns-in_err-address-clause-told
returns-in_err-address-clause-told g c = handed_up _ c.from_residual.result _ c.from_residual.ensures.1 (of_address _ c.args.wanted _ _ c.in_err-address.ensures.refused)

pub returns-in_err-script-clause-told : goal.returns-in_err-script-clause-told
returns-in_err-script-clause-told g c =
    handed_up _ c.from_residual-in_err-script.result _ c.from_residual-in_err-script.ensures.1 (of_chart_script (g.F.Files.held c.args.files.now) c.args.wanted _ _ c.in_err-script.ensures.fault)

pub returns-in_err-named-clause-told : goal.returns-in_err-named-clause-told
returns-in_err-named-clause-told g c =
    handed_up _ c.from_residual-in_err-named.result _ c.from_residual-in_err-named.ensures.1
    (of_chart_image (g.F.Files.held c.args.files.now) c.args.wanted _ c.in_ok-script.script _ c.in_ok-script.ensures.script (image_as_before (g.F.Files.held c.script_in.new.files) (g.F.Files.held c.args.files.now) c.args.wanted.raw c.args.wanted.image c.in_ok-script.script.kib _ c.in_ok-script.ensures.stays c.in_err-named.ensures.fault))

pub returns-in-Err-clause-unfinished : goal.returns-in-Err-clause-unfinished
returns-in-Err-clause-unfinished g c =
    left_by _ c.args.wanted c.args.line c.in_ok-script.script c.in_ok-named.named.image c.in_ok-named.named.names c.in_ok-address.address _ _ c.in-Err.error _ c.in_ok-script.ensures.script
    (subst (λ (held : Contents). HoldsNamedImage held c.args.wanted.raw c.args.wanted.image.now c.in_ok-script.script.kib c.in_ok-named.named.image c.in_ok-named.named.names) c.in_ok-script.ensures.stays c.in_ok-named.ensures.image)
    c.in_ok-address.ensures.named
    (undrawn_at c.in_ok-named.named.names _ _ _ _ _ _ _ _ _ c.in-Err.error c.config_of-config.ensures c.as_slice-events.ensures c.in-Err.ensures.undrawn)
    c.fault_of-fault.ensures

pub returns-in-Err-clause-misused : goal.returns-in-Err-clause-misused
returns-in-Err-clause-misused g c = λ two.
    absurd (drawing_never_misused _ c.in-Err.error _
    c.fault_of-fault.ensures two)

pub returns-in-Err-clause-told : goal.returns-in-Err-clause-told
returns-in-Err-clause-told g c =
    told_as _ c.args.wanted c.args.line c.in_ok-script.script c.in_ok-named.named.image c.in_ok-named.named.names c.in_ok-address.address _ _ _ c.in-Err.error _ c.in_ok-script.ensures.script
    (subst (λ (held : Contents). HoldsImage held c.args.wanted.raw c.args.wanted.image.now c.in_ok-script.script.kib c.in_ok-named.named.image) c.in_ok-script.ensures.stays c.in_ok-named.ensures.loaded)
    c.in_ok-address.ensures.named
    (undrawn_at c.in_ok-named.named.names _ _ _ _ _ _ _ _ _ c.in-Err.error c.config_of-config.ensures c.as_slice-events.ensures c.in-Err.ensures.undrawn)
    c.fault_of-fault.ensures

pub returns-in-Ok-clause-charted : goal.returns-in-Ok-clause-charted
returns-in-Ok-clause-charted g c = record {
  script = c.in_ok-script.script;
  image = c.in_ok-named.named.image;
  names = c.in_ok-named.named.names;
  address = c.in_ok-address.address;
  script_file = c.in_ok-script.ensures.script;
  image_file =
      subst (λ (held : Contents). HoldsNamedImage held c.args.wanted.raw c.args.wanted.image.now c.in_ok-script.script.kib c.in_ok-named.named.image c.in_ok-named.named.names)
      c.in_ok-script.ensures.stays c.in_ok-named.ensures.image;
  only = c.in_ok-script.ensures.only;
  named = c.in_ok-address.ensures.named;
  drawn = drawn_at c.in_ok-named.named.names _ _ _ _ _ _ _ _ _ c.config_of-config.ensures c.as_slice-events.ensures (drawn_on c.in_ok-named.named.names _ _ _ _ _ _ _ _ c.flush.ensures.bytes c.in_default.ensures.drawn);
}

pub returns-clause-unfinished : goal.returns-clause-unfinished
returns-clause-unfinished g c =
    spoiled _ _ _ _ c.writing.ensures.told
    (stopped _ c.args.wanted c.args.line c.in_ok-script.script c.in_ok-named.named.image c.in_ok-named.named.names c.in_ok-address.address _ _ c.in_ok-script.ensures.script
    (subst (λ (held : Contents). HoldsNamedImage held c.args.wanted.raw c.args.wanted.image.now c.in_ok-script.script.kib c.in_ok-named.named.image c.in_ok-named.named.names) c.in_ok-script.ensures.stays c.in_ok-named.ensures.image)
    c.in_ok-address.ensures.named
    (begun_at c.in_ok-named.named.names _ _ _ _ _ _ _ _ _ c.config_of-config.ensures c.as_slice-events.ensures (drawn_begun c.in_ok-named.named.names _ _ _ _ _ _ _ _ c.flush.ensures.bytes c.in_default.ensures.drawn)))

pub returns-clause-misused : goal.returns-clause-misused
returns-clause-misused g c = λ two. absurd (writing_never_misused _ c.writing.ensures.told two)

pub returns-clause-told : goal.returns-clause-told
returns-clause-told g c = lost_told _ c.args.wanted c.args.line _ c.writing.ensures.told
