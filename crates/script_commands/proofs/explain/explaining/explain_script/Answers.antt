use Rattle.std.proofs.Common.{refl, subst}
use Rattle.event_stream.specs.declared.errors.StreamError.TheVariants as stream
use Rattle.command_files.specs.Named.{HoldsNamedImage}
use Rattle.command_files.specs.Contents.{Contents}
use Rattle.command_files.proofs.Left.{handed_up, image_as_before}
use Rattle.script_commands.proofs.ExplainTold.{image_left, of_explained_image, of_explained_script, script_left}
use Rattle.command_files.proofs.Limits.{memory_within}
use Rattle.script_commands.proofs.Streams.{cut_left, lost_left, lost_told, part_at, part_of, part_on, told_as, whole_at}
use Rattle.script_commands.proofs.explain.explaining.explain_script.Goals as goal

pub named_image_in-requires : goal.named_image_in-requires
named_image_in-requires g c = memory_within c.in_ok-script.script c.in_ok-script.ensures.script.is_script

pub returns-in_err-script-clause-unfinished : goal.returns-in_err-script-clause-unfinished
returns-in_err-script-clause-unfinished g c =
    handed_up _ c.from_residual.result _ c.from_residual.ensures.1 (script_left (g.F.Files.held c.args.files.now) _ _ _ _ _ c.in_err-script.ensures.fault refl)

pub returns-in_err-named-clause-unfinished : goal.returns-in_err-named-clause-unfinished
returns-in_err-named-clause-unfinished g c =
    handed_up _ c.from_residual-in_err-named.result _ c.from_residual-in_err-named.ensures.1
    (image_left (g.F.Files.held c.script_from.new.files) c.args.wanted.raw c.args.wanted.image c.in_ok-script.script.kib _ _ _ _ c.in_err-named.ensures.fault refl)

pub returns-in_err-script-clause-told : goal.returns-in_err-script-clause-told
returns-in_err-script-clause-told g c =
    handed_up _ c.from_residual.result _ c.from_residual.ensures.1 (of_explained_script (g.F.Files.held c.args.files.now) c.args.wanted _ _ _ _ c.in_err-script.ensures.fault)

pub returns-in_err-named-clause-told : goal.returns-in_err-named-clause-told
returns-in_err-named-clause-told g c =
    handed_up _ c.from_residual-in_err-named.result _ c.from_residual-in_err-named.ensures.1
    (of_explained_image (g.F.Files.held c.args.files.now) c.args.wanted _ _ _ c.in_ok-script.script _ c.in_ok-script.ensures.script
    (image_as_before (g.F.Files.held c.script_from.new.files) (g.F.Files.held c.args.files.now) c.args.wanted.raw c.args.wanted.image c.in_ok-script.script.kib _ c.in_ok-script.ensures.stays c.in_err-named.ensures.fault))

pub returns-in-Ok-clause-explained : goal.returns-in-Ok-clause-explained
returns-in-Ok-clause-explained g c = record {
  script = c.in_ok-script.script;
  image = c.in_ok-named.named.image;
  names = c.in_ok-named.named.names;
  script_file = c.in_ok-script.ensures.script;
  image_file =
      subst (λ (held : Contents). HoldsNamedImage held c.args.wanted.raw c.args.wanted.image.now c.in_ok-script.script.kib c.in_ok-named.named.image c.in_ok-named.named.names)
      c.in_ok-script.ensures.stays c.in_ok-named.ensures.image;
  only = c.in_ok-script.ensures.only;
  whole = whole_at c.in_ok-named.named.names _ _ _ _ _ _ _ _ _ _ c.config_of-config.ensures c.as_slice-events.ensures c.flush.ensures.bytes c.in-Ok.ensures.whole;
}

pub returns-in-Err-clause-unfinished : goal.returns-in-Err-clause-unfinished
returns-in-Err-clause-unfinished g c =
    let part =
    part_of c.in_ok-named.named.names c.args.strictness c.args.with_state c.in_ok-named.named.image c.config_of-config.result c.as_slice-events.result.now (g.O.Write.contents c.args.out.now) (g.O.Write.contents c.tell-told.new.out)
    (g.O.Write.contents c.flush.new.self) c.tell-told.result (stream.Writing c.in-Err.error) (λ begun. begun) c.flush.ensures.bytes c.tell-told.ensures.whole c.tell-told.ensures.unfinished in
    lost_left _ _ _ _ c.writing.ensures.told (record {
      script = c.in_ok-script.script;
      image = c.in_ok-named.named.image;
      names = c.in_ok-named.named.names;
      error = part.0;
      script_file = c.in_ok-script.ensures.script;
      image_file =
          subst (λ (held : Contents). HoldsNamedImage held c.args.wanted.raw c.args.wanted.image.now c.in_ok-script.script.kib c.in_ok-named.named.image c.in_ok-named.named.names)
          c.in_ok-script.ensures.stays c.in_ok-named.ensures.image;
      part = part_at c.in_ok-named.named.names _ _ _ _ _ _ _ _ _ _ c.config_of-config.ensures c.as_slice-events.ensures part.1;
    })

pub returns-in-Err-clause-told : goal.returns-in-Err-clause-told
returns-in-Err-clause-told g c = lost_told _ c.args.wanted _ _ _ _ c.writing.ensures.told

pub returns-clause-unfinished : goal.returns-clause-unfinished
returns-clause-unfinished g c = cut_left _ _ _ _ c.in-Err-told.error _ c.explaining-fault.ensures (record {
  script = c.in_ok-script.script;
  image = c.in_ok-named.named.image;
  names = c.in_ok-named.named.names;
  error = c.in-Err-told.error;
  script_file = c.in_ok-script.ensures.script;
  image_file =
      subst (λ (held : Contents). HoldsNamedImage held c.args.wanted.raw c.args.wanted.image.now c.in_ok-script.script.kib c.in_ok-named.named.image c.in_ok-named.named.names)
      c.in_ok-script.ensures.stays c.in_ok-named.ensures.image;
  part = part_at c.in_ok-named.named.names _ _ _ _ _ _ _ _ _ _ c.config_of-config.ensures c.as_slice-events.ensures
      (part_on c.in_ok-named.named.names c.args.strictness c.args.with_state c.in_ok-named.named.image c.config_of-config.result c.as_slice-events.result.now (g.O.Write.contents c.args.out.now) (g.O.Write.contents c.tell-told.new.out)
      (g.O.Write.contents c.flush.new.self) c.in-Err-told.error c.flush.ensures.bytes c.in-Err-told.ensures.unfinished);
})

pub returns-clause-told : goal.returns-clause-told
returns-clause-told g c =
    told_as c.in_ok-named.named.names _ c.args.wanted c.args.strictness c.args.with_state c.in_ok-script.script c.in_ok-named.named.image _ _ c.in-Err-told.error _ c.in_ok-script.ensures.script
    (subst (λ (held : Contents). HoldsNamedImage held c.args.wanted.raw c.args.wanted.image.now c.in_ok-script.script.kib c.in_ok-named.named.image c.in_ok-named.named.names) c.in_ok-script.ensures.stays c.in_ok-named.ensures.image)
    (part_at c.in_ok-named.named.names _ _ _ _ _ _ _ _ _ _ c.config_of-config.ensures c.as_slice-events.ensures
    (part_on c.in_ok-named.named.names c.args.strictness c.args.with_state c.in_ok-named.named.image c.config_of-config.result c.as_slice-events.result.now (g.O.Write.contents c.args.out.now) (g.O.Write.contents c.tell-told.new.out)
    (g.O.Write.contents c.flush.new.self) c.in-Err-told.error c.flush.ensures.bytes c.in-Err-told.ensures.unfinished))
    c.explaining-fault.ensures
