use Rattle.std.proofs.Common.{inl, inr}
use Rattle.command_files.proofs.Left.{handed_up, image_as_before}
use Rattle.explore_command.proofs.Asking.{program, program_by, unshown_told}
use Rattle.explore_command.proofs.show.asked.AskedWords.read.Goals as goal

pub returns-in_err-allowed-clause-told : goal.returns-in_err-allowed-clause-told
returns-in_err-allowed-clause-told g c = handed_up _ c.from_residual.result _ c.from_residual.ensures.1 (inl (inr (inl (inl c.in_err-allowed.ensures.told))))

pub returns-in_err-named-clause-told : goal.returns-in_err-named-clause-told
returns-in_err-named-clause-told g c = handed_up _ c.from_residual-in_err-named.result _ c.from_residual-in_err-named.ensures.1
    (inl (inr (inl (inr (image_as_before (g.F.Files.held c.allow_file.new.files) (g.F.Files.held c.args.files.now) c.args.wanted.raw c.args.wanted.image c.args.wanted.machine.memory _ c.in_ok-allowed.ensures.stays c.in_err-named.ensures.fault)))))

pub returns-in_err-targets-clause-told : goal.returns-in_err-targets-clause-told
returns-in_err-targets-clause-told g c =
    let named = c.in_ok-named.named in
    handed_up _ c.from_residual-in_err-targets.result _ c.from_residual-in_err-targets.ensures.1
    (unshown_told (g.F.Files.held c.args.files.now) (g.F.Files.held c.allow_file.new.files) c.args.wanted c.args.words.now named.image named.names c.in_ok-allowed.ensures.stays c.in_ok-named.ensures.image _ c.in_err-targets.ensures.told)

pub returns-in_err-check_folder-clause-told : goal.returns-in_err-check_folder-clause-told
returns-in_err-check_folder-clause-told g c = handed_up _ c.from_residual-in_err-check_folder.result _ c.from_residual-in_err-check_folder.ensures.1 (inl (inr (inr c.in_err-check_folder.ensures.told)))

pub returns-clause-program : goal.returns-clause-program
returns-clause-program g c =
    let named = c.in_ok-named.named in
    program (g.F.Files.held c.args.files.now) (g.F.Files.held c.allow_file.new.files) c.args.wanted c.args.words.now named.image named.names c.in_ok-allowed.ensures.stays c.in_ok-named.ensures.image _ c.in_ok-targets.ensures.placed c.in_ok-targets.ensures.inside

pub returns-clause-symbols : goal.returns-clause-symbols
returns-clause-symbols g c =
    let named = c.in_ok-named.named in
    program_by (g.F.Files.held c.args.files.now) (g.F.Files.held c.allow_file.new.files) c.args.wanted c.args.words.now named.image named.names c.in_ok-allowed.ensures.stays c.in_ok-named.ensures.image _ c.in_ok-targets.ensures.placed c.in_ok-targets.ensures.inside
