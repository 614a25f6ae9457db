use Rattle.std.proofs.Common.{inl, inr, subst}
use Rattle.command_files.specs.Contents.{Contents}
use Rattle.command_files.proofs.Left.{handed_up, image_as_before}
use Rattle.command_files.specs.Named.{HoldsNamedImage}
use Rattle.explore_command.proofs.asked.Asked.read.Goals as goal

pub returns-in_err-allowed-clause-told : goal.returns-in_err-allowed-clause-told
returns-in_err-allowed-clause-told g c = handed_up _ c.from_residual.result _ c.from_residual.ensures.1 (inr (inl (inl c.in_err-allowed.ensures.told)))

pub returns-in_err-named-clause-told : goal.returns-in_err-named-clause-told
returns-in_err-named-clause-told g c = handed_up _ c.from_residual-in_err-named.result _ c.from_residual-in_err-named.ensures.1
    (inr (inl (inr (image_as_before (g.F.Files.held c.allow_file.new.files) (g.F.Files.held c.args.files.now) c.args.wanted.raw c.args.wanted.image c.args.wanted.machine.memory _ c.in_ok-allowed.ensures.stays c.in_err-named.ensures.fault))))

pub returns-in_err-check_folder-clause-told : goal.returns-in_err-check_folder-clause-told
returns-in_err-check_folder-clause-told g c = handed_up _ c.from_residual-in_err-check_folder.result _ c.from_residual-in_err-check_folder.ensures.1 (inr (inr c.in_err-check_folder.ensures.told))

pub returns-clause-symbols : goal.returns-clause-symbols
returns-clause-symbols g c =
    let named = c.in_ok-named.named in
    subst (λ (h : Contents). HoldsNamedImage h c.args.wanted.raw c.args.wanted.image.now c.args.wanted.machine.memory named.image named.names) c.in_ok-allowed.ensures.stays c.in_ok-named.ensures.image
