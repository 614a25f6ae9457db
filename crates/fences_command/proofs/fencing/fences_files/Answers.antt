use Rattle.std.proofs.Common.{inr, refl, subst}
use Rattle.command_files.proofs.Left.{handed_up}
use Rattle.fences_command.proofs.Told.{all_told, kept_late, memory_late, memory_told, of_kept, output_told, part_told, unbegun, whole_told}
use Rattle.fences_command.specs.Keeping.{IsProgramKept}
use Rattle.fences_command.specs.Witnesses.{IsFencesFile}
use Rattle.search_files.proofs.Files.{spared, spared_after}
use Rattle.fences_command.proofs.fencing.fences_files.Goals as goal

pub returns-in_err-told-clause-unfinished : goal.returns-in_err-told-clause-unfinished
returns-in_err-told-clause-unfinished g c = handed_up _ c.from_residual.result _ c.from_residual.ensures.1 (unbegun _ _ _ _ c.in_err-told.ensures.unprinted refl)

pub returns-in_err-print-clause-unfinished : goal.returns-in_err-print-clause-unfinished
returns-in_err-print-clause-unfinished g c =
    let told = c.in_ok-told.told in
    handed_up _ c.from_residual-in_err-print.result _ c.from_residual-in_err-print.ensures.1
    (part_told (g.F.Files.held c.args.files.now) c.args.wanted.now told.names.items c.in_ok-told.ensures.names told.symbols told.allowance told.image c.in_ok-told.ensures.of_file _ _ _ c.in_err-print.ensures.told c.in_err-print.ensures.begun)

pub returns-in_err-print-clause-told : goal.returns-in_err-print-clause-told
returns-in_err-print-clause-told g c =
    handed_up _ c.from_residual-in_err-print.result _ c.from_residual-in_err-print.ensures.1 (output_told (g.F.Files.held c.args.files.now) c.args.wanted.now _ c.in_err-print.ensures.told)

-- the files come behind the text
pub returns-in_err-keep-clause-unfinished : goal.returns-in_err-keep-clause-unfinished
returns-in_err-keep-clause-unfinished g c =
    let told = c.in_ok-told.told in
    handed_up _ c.from_residual-in_err-keep.result _ c.from_residual-in_err-keep.ensures.1
    (all_told (g.F.Files.held c.args.files.now) c.args.wanted.now told.names.items c.in_ok-told.ensures.names told.symbols told.allowance told.image c.in_ok-told.ensures.of_file _ _ _ c.in_err-keep.ensures.told c.in_ok-print.ensures.printed)

pub returns-in_err-keep-clause-told : goal.returns-in_err-keep-clause-told
returns-in_err-keep-clause-told g c =
    handed_up _ c.from_residual-in_err-keep.result _ c.from_residual-in_err-keep.ensures.1 (of_kept (g.F.Files.held c.args.files.now) c.args.wanted.now _ c.in_err-keep.ensures.told)

pub returns-in_err-keep-clause-untouched : goal.returns-in_err-keep-clause-untouched
returns-in_err-keep-clause-untouched g c =
    handed_up _ c.from_residual-in_err-keep.result _ c.from_residual-in_err-keep.ensures.1 (λ early. absurd (kept_late c.args.wanted.now.fences _ c.in_err-keep.ensures.told early))

pub returns-in_err-check_memory-clause-unfinished : goal.returns-in_err-check_memory-clause-unfinished
returns-in_err-check_memory-clause-unfinished g c =
    let told = c.in_ok-told.told in
    handed_up _ c.from_residual-in_err-check_memory.result _ c.from_residual-in_err-check_memory.ensures.1
    (memory_told (g.F.Files.held c.args.files.now) c.args.wanted.now told.names.items c.in_ok-told.ensures.names told.symbols told.allowance told.image c.in_ok-told.ensures.of_file _ _ _ c.in_err-check_memory.ensures.told c.in_ok-print.ensures.printed)

pub returns-in_err-check_memory-clause-told : goal.returns-in_err-check_memory-clause-told
returns-in_err-check_memory-clause-told g c =
    handed_up _ c.from_residual-in_err-check_memory.result _ c.from_residual-in_err-check_memory.ensures.1 (output_told (g.F.Files.held c.args.files.now) c.args.wanted.now _ (inr c.in_err-check_memory.ensures.told))

pub returns-in_err-check_memory-clause-untouched : goal.returns-in_err-check_memory-clause-untouched
returns-in_err-check_memory-clause-untouched g c =
    handed_up _ c.from_residual-in_err-check_memory.result _ c.from_residual-in_err-check_memory.ensures.1 (λ early. absurd (memory_late _ c.in_err-check_memory.ensures.told early))

pub returns-in_err-check_memory-clause-spared : goal.returns-in_err-check_memory-clause-spared
returns-in_err-check_memory-clause-spared g c = spared_after (IsFencesFile c.args.wanted.now.fences) _ _ _ c.in_ok-told.ensures.spared c.keep.ensures.spared

pub returns-in_err-keep-clause-spared : goal.returns-in_err-keep-clause-spared
returns-in_err-keep-clause-spared g c = spared_after (IsFencesFile c.args.wanted.now.fences) _ _ _ c.in_ok-told.ensures.spared c.keep.ensures.spared

pub returns-in_err-print-clause-spared : goal.returns-in_err-print-clause-spared
returns-in_err-print-clause-spared g c = spared (IsFencesFile c.args.wanted.now.fences) _ _ c.in_ok-told.ensures.spared

pub returns-in_err-told-clause-spared : goal.returns-in_err-told-clause-spared
returns-in_err-told-clause-spared g c = spared (IsFencesFile c.args.wanted.now.fences) _ _ c.in_err-told.ensures.spared

pub returns-clause-spared : goal.returns-clause-spared
returns-clause-spared g c = spared_after (IsFencesFile c.args.wanted.now.fences) _ _ _ c.in_ok-told.ensures.spared c.keep.ensures.spared

pub returns-clause-audited : goal.returns-clause-audited
returns-clause-audited g c =
    let told = c.in_ok-told.told in
    let wanted = c.args.wanted.now in
    let held = g.F.Files.held c.args.files.now in
    let left = g.F.Files.held c.keep.new.files in
    let known = c.in_ok-told.ensures in
    whole_told held wanted told.names.items known.names told.symbols told.allowance told.image known.of_file _ _ left _ told.file.items told.config c.in_ok-print.ensures.printed c.judgement_of.ensures c.in_ok-check_memory.ensures.whole known.bytes
    known.unread (subst (λ h. IsProgramKept h left wanted.fences told.image told.file.items told.allowance wanted.fences.write) known.spared c.in_ok-keep.ensures.program)
    known.named known.spare known.config c.in_ok-keep.ensures.shown (spared_after (IsFencesFile wanted.fences) _ _ _ known.spared c.keep.ensures.spared)
