use Rattle.std.proofs.Common.{◌≡◌, ◌∙◌, List, refl, subst}
use Rattle.command_files.specs.Contents.{Contents, HoldsBytes}
use Rattle.command_files.specs.Faults.{Name}
use Rattle.search_files.specs.Targets.{AreAddressesOf, names_of}
use Rattle.command_files.proofs.Left.{handed_up, image_as_before, image_is_not_write}
use Rattle.fences_command.proofs.Told.{allow_is_not_write, of_allow, of_file, of_image, of_program, of_runs, of_words, unmade_is_not_write, words_are_not_write}
use Rattle.fences_command.proofs.Readable.{readable}
use Rattle.fences_command.specs.Fencing.{world_of}
use Rattle.fences_command.proofs.fencing.audit_in.Goals as goal

pub returns-in_err-allowed-clause-told : goal.returns-in_err-allowed-clause-told
returns-in_err-allowed-clause-told g c =
    handed_up _ c.from_residual.result _ c.from_residual.ensures.1 (of_allow (g.F.Files.held c.args.files.now) c.args.wanted.now c.args.wanted.now.fences.allow _ refl c.in_err-allowed.ensures.told)

pub returns-in_err-allowed-clause-unprinted : goal.returns-in_err-allowed-clause-unprinted
returns-in_err-allowed-clause-unprinted g c =
    handed_up _ c.from_residual.result _ c.from_residual.ensures.1 (allow_is_not_write c.args.wanted.now.fences.allow _ c.in_err-allowed.ensures.told)

pub returns-in_err-program-clause-told : goal.returns-in_err-program-clause-told
returns-in_err-program-clause-told g c =
    let held = g.F.Files.held c.args.files.now in
    let fences = c.args.wanted.now.fences in
    handed_up _ c.from_residual-in_err-program.result _ c.from_residual-in_err-program.ensures.1
    (of_image held c.args.wanted.now _
    (image_as_before (g.F.Files.held c.allow_file.new.files) held fences.raw fences.image fences.machine.memory _ c.in_ok-allowed.ensures.stays c.in_err-program.ensures.fault))

pub returns-in_err-program-clause-unprinted : goal.returns-in_err-program-clause-unprinted
returns-in_err-program-clause-unprinted g c =
    let fences = c.args.wanted.now.fences in
    handed_up _ c.from_residual-in_err-program.result _ c.from_residual-in_err-program.ensures.1
    (image_is_not_write (g.F.Files.held c.allow_file.new.files) fences.raw fences.image fences.machine.memory _ c.in_err-program.ensures.fault)

pub returns-in_err-targets-clause-told : goal.returns-in_err-targets-clause-told
returns-in_err-targets-clause-told g c =
    handed_up _ c.from_residual-in_err-targets.result _ c.from_residual-in_err-targets.ensures.1
    (of_words (g.F.Files.held c.args.files.now) (g.F.Files.held c.allow_file.new.files) c.args.wanted.now c.in_ok-program.program.image c.in_ok-program.program.names _ _ c.deref.ensures.value c.in_ok-allowed.ensures.stays c.in_ok-program.ensures.image c.in_err-targets.ensures.told)

pub returns-in_err-targets-clause-unprinted : goal.returns-in_err-targets-clause-unprinted
returns-in_err-targets-clause-unprinted g c =
    handed_up _ c.from_residual-in_err-targets.result _ c.from_residual-in_err-targets.ensures.1
    (words_are_not_write c.in_ok-program.program.image c.in_ok-program.program.names _ _ c.in_err-targets.ensures.told)

pub returns-in_err-check_target-clause-told : goal.returns-in_err-check_target-clause-told
returns-in_err-check_target-clause-told g c =
    handed_up _ c.from_residual-in_err-check_target.result _ c.from_residual-in_err-check_target.ensures.1 (of_program (g.F.Files.held c.args.files.now) c.args.wanted.now _ c.in_err-check_target.ensures.told)

pub returns-in_err-check_target-clause-unprinted : goal.returns-in_err-check_target-clause-unprinted
returns-in_err-check_target-clause-unprinted g c =
    handed_up _ c.from_residual-in_err-check_target.result _ c.from_residual-in_err-check_target.ensures.1 (unmade_is_not_write c.args.wanted.now.fences.write _ c.in_err-check_target.ensures.told)

pub returns-in_err-check_folder-clause-told : goal.returns-in_err-check_folder-clause-told
returns-in_err-check_folder-clause-told g c =
    handed_up _ c.from_residual-in_err-check_folder.result _ c.from_residual-in_err-check_folder.ensures.1 (of_runs (g.F.Files.held c.args.files.now) c.args.wanted.now _ c.in_err-check_folder.ensures.told)

pub returns-in_err-check_folder-clause-unprinted : goal.returns-in_err-check_folder-clause-unprinted
returns-in_err-check_folder-clause-unprinted g c =
    handed_up _ c.from_residual-in_err-check_folder.result _ c.from_residual-in_err-check_folder.ensures.1 (unmade_is_not_write c.args.wanted.now.fences.scripts _ c.in_err-check_folder.ensures.told)

pub returns-clause-of_file : goal.returns-clause-of_file
returns-clause-of_file g c =
    let targets = c.in_ok-targets.targets in
    of_file (g.F.Files.held c.args.files.now) (g.F.Files.held c.allow_file.new.files) c.args.wanted.now c.in-Some.config c.in_ok-program.program.image c.in_ok-program.program.names targets.addresses.items targets.names.items _ c.in-Ok.allowance
    c.in-Some.ensures.config.0 c.in-Some.ensures.config.1 c.in_ok-allowed.ensures.stays c.in_ok-allowed.ensures.read (subst (λ (words : List Name). AreAddressesOf c.in_ok-program.program.names words targets.addresses.items) c.deref.ensures.value c.in_ok-targets.ensures.placed)
    (subst (λ (words : List Name). targets.names.items ≡ names_of words) c.deref.ensures.value c.in_ok-targets.ensures.names) c.in_ok-program.ensures.image c.in-Ok.ensures

pub returns-clause-bytes : goal.returns-clause-bytes
returns-clause-bytes g c =
    subst (λ (held : Contents). HoldsBytes held c.args.wanted.now.fences.image.now c.in_ok-program.program.bytes.items) c.in_ok-allowed.ensures.stays c.in_ok-program.ensures.bytes

pub returns-clause-readable : goal.returns-clause-readable
returns-clause-readable g c =
    let fences = c.args.wanted.now.fences in
    let targets = c.in_ok-targets.targets in
    readable (world_of fences.subject) c.in_ok-program.program.image c.in-Some.config targets.addresses.items fences.window fences.states targets.names.items _ c.in-Ok.allowance c.entry-entry.ensures.image c.in-Ok.ensures
