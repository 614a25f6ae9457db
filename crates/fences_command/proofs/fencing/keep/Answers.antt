use Rattle.std.proofs.Common.{List, inl, inr, subst, ℕ}
use Rattle.command_files.proofs.Left.{handed_up}
use Rattle.fences_command.proofs.Shown.{program_stays}
use Rattle.fences_command.proofs.Told.{runs_fault}
use Rattle.fences_command.specs.Keeping.{IsProgramFile, IsProgramKept}
use Rattle.fences_command.specs.Witnesses.{IsFencesFile, IsNeededFile}
use Rattle.search_files.proofs.Files.{on_ok, spares_then, spares_wider}
use Rattle.search_files.specs.Folders.{IsInNamed}
use Rattle.fences_command.proofs.fencing.keep.Goals as goal

pub returns-in_err-keep_program-clause-told : goal.returns-in_err-keep_program-clause-told
returns-in_err-keep_program-clause-told g c = handed_up _ c.from_residual.result _ c.from_residual.ensures.1 (inl c.in_err-keep_program.ensures.told)

pub returns-in_err-keep_program-clause-spared : goal.returns-in_err-keep_program-clause-spared
returns-in_err-keep_program-clause-spared g c =
    let wanted = c.args.wanted in
    spares_wider (IsProgramFile wanted.write) (IsFencesFile wanted) _ _ (λ name is. inl is) c.keep_program.ensures.spared

pub returns-clause-program : goal.returns-clause-program
returns-clause-program g c =
    let held = g.F.Files.held in
    let told = c.args.told.now in
    let wanted = c.args.wanted in
    let kept = subst (λ (f : List ℕ). IsProgramKept (held c.args.files.now) (held c.keep_program.new.files) wanted told.image f told.allowance wanted.write) c.deref.ensures.value c.in_ok-keep_program.ensures.kept in
    on_ok _ _ c.keep_witnesses.result
    (λ same. program_stays (held c.args.files.now) (held c.keep_program.new.files) (held c.keep_witnesses.new.files) wanted told.image told.file.items told.allowance wanted.write same kept)
    c.keep_witnesses.ensures.written

pub returns-clause-told : goal.returns-clause-told
returns-clause-told g c = runs_fault c.args.wanted c.keep_witnesses.result c.keep_witnesses.ensures.told

pub returns-clause-spared : goal.returns-clause-spared
returns-clause-spared g c =
    let wanted = c.args.wanted in
    let held = g.F.Files.held in
    spares_then (IsFencesFile wanted) (held c.args.files.now) (held c.keep_program.new.files) (held c.keep_witnesses.new.files)
    (spares_wider (IsProgramFile wanted.write) (IsFencesFile wanted) _ _ (λ name is. inl is) c.keep_program.ensures.spared)
    (spares_wider (IsInNamed wanted.scripts IsNeededFile) (IsFencesFile wanted) _ _ (λ name is. inr is) c.keep_witnesses.ensures.spared)
