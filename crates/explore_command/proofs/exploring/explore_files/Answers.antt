use Rattle.std.proofs.Common.{[], inl, inr, refl}
use Rattle.command_files.proofs.Left.{handed_up}
use Rattle.explore_command.proofs.Explored.{all_of, err_more, has, judged, memory_left, memory_told, ok_both, ok_more, refusals, spared, spared_after, whole}
use Rattle.explore_command.proofs.Faults.{first_left, first_told, folder_late, folder_left, folder_told, memory_late, output_left, output_told}
use Rattle.explore_command.proofs.Kept.{script_file, spares_wider}
use Rattle.explore_command.proofs.Refused.{begun_by, on_err_more, on_err_of, refusals_in}
use Rattle.explore_command.proofs.Sought.{ends_judged}
use Rattle.explore_command.proofs.exploring.explore_files.Goals as goal

pub returns-in_err-asked-clause-told : goal.returns-in_err-asked-clause-told
returns-in_err-asked-clause-told g c = handed_up _ c.from_residual.result _ c.from_residual.ensures.1 (first_told (g.F.Files.held c.args.files.now) c.args.wanted _ c.in_err-asked.ensures.told)

pub returns-in_err-asked-clause-unfinished : goal.returns-in_err-asked-clause-unfinished
returns-in_err-asked-clause-unfinished g c = handed_up _ c.from_residual.result _ c.from_residual.ensures.1 (first_left (g.F.Files.held c.args.files.now) c.args.wanted _ _ _ _ c.in_err-asked.ensures.told refl)

pub returns-in_err-asked-clause-spared : goal.returns-in_err-asked-clause-spared
returns-in_err-asked-clause-spared g c = spared _ _ _ c.read.ensures.stays

pub returns-in_err-print-clause-told : goal.returns-in_err-print-clause-told
returns-in_err-print-clause-told g c = handed_up _ c.from_residual-in_err-print.result _ c.from_residual-in_err-print.ensures.1 (output_told _ c.args.wanted _ c.in_err-print.ensures.told)

pub returns-in_err-print-clause-unfinished : goal.returns-in_err-print-clause-unfinished
returns-in_err-print-clause-unfinished g c =
    handed_up _ c.from_residual-in_err-print.result _ c.from_residual-in_err-print.ensures.1
    (output_left _ _ _ _ c.in_err-print.ensures.told
    (has (g.F.Files.held c.args.files.now) c.args.wanted c.in_ok-asked.asked.config c.in_ok-asked.asked.image c.in_ok-asked.asked.symbols c.in-Ok.exploration c.in_ok-asked.ensures.config.0 c.in_ok-asked.ensures.config.1 c.in_ok-asked.ensures.symbols
    c.in-Ok.ensures.found
    _ c.in_err-print.ensures.begun))

pub returns-in_err-print-clause-spared : goal.returns-in_err-print-clause-spared
returns-in_err-print-clause-spared g c = spared _ _ _ c.in_ok-asked.ensures.stays

pub returns-in_err-keep-clause-told : goal.returns-in_err-keep-clause-told
returns-in_err-keep-clause-told g c = handed_up _ c.from_residual-in_err-keep.result _ c.from_residual-in_err-keep.ensures.1 (folder_told _ c.args.wanted _ c.in_err-keep.ensures.told)

pub returns-in_err-keep-clause-unfinished : goal.returns-in_err-keep-clause-unfinished
returns-in_err-keep-clause-unfinished g c =
    let has_text = has (g.F.Files.held c.args.files.now) c.args.wanted c.in_ok-asked.asked.config c.in_ok-asked.asked.image c.in_ok-asked.asked.symbols c.in-Ok.exploration c.in_ok-asked.ensures.config.0 c.in_ok-asked.ensures.config.1 c.in_ok-asked.ensures.symbols c.in-Ok.ensures.found in
    handed_up _ c.from_residual-in_err-keep.result _ c.from_residual-in_err-keep.ensures.1
    (folder_left c.args.wanted _ _ _ _ c.in_err-keep.ensures.told (has_text _ (all_of _ _ _ c.in_ok-print.ensures.printed)) (has_text _ c.in_ok-print.ensures.printed))

pub returns-in_err-keep-clause-spared : goal.returns-in_err-keep-clause-spared
returns-in_err-keep-clause-spared g c = spared_after _ _ _ _ c.in_ok-asked.ensures.stays (spares_wider _ _ _ _ (script_file _ _ _ c.args.wanted.scripts) c.keep.ensures.spared)

pub returns-clause-explored : goal.returns-clause-explored
returns-clause-explored g c =
    ok_more _ _ c.judge-judgement.result
    (λ judgement so.
    whole (g.F.Files.held c.args.files.now) c.args.wanted c.in_ok-asked.asked.config c.in_ok-asked.asked.image c.in_ok-asked.asked.symbols c.in-Ok.exploration c.in_ok-asked.ensures.config.0 c.in_ok-asked.ensures.config.1 c.in_ok-asked.ensures.symbols
    c.in-Ok.ensures.found
    _ _ (g.F.Files.held c.keep.new.files) judgement c.in_ok-print.ensures.printed c.in_ok-asked.ensures.named c.in_ok-keep.ensures.kept (spared_after _ _ _ _ c.in_ok-asked.ensures.stays c.keep.ensures.spared) (judged _ c.args.wanted.allow _ _ _ judgement c.in_ok-asked.ensures.allowed so.0) so.1
    (ends_judged [] c.args.wanted.first c.args.wanted.seconds _ _ c.in-Ok.exploration judgement so.0 c.in-Ok.ensures.ends))
    (ok_both _ _ c.judge-judgement.result c.judge-judgement.ensures.judged c.judge-judgement.ensures.whole)

pub returns-clause-told : goal.returns-clause-told
returns-clause-told g c = err_more _ _ c.judge-judgement.result (λ fault is. memory_told _ c.args.wanted fault is) c.judge-judgement.ensures.told

pub returns-clause-unfinished : goal.returns-clause-unfinished
returns-clause-unfinished g c =
    err_more _ _ c.judge-judgement.result
    (λ fault is.
    memory_left fault _ _ _ is
    (has (g.F.Files.held c.args.files.now) c.args.wanted c.in_ok-asked.asked.config c.in_ok-asked.asked.image c.in_ok-asked.asked.symbols c.in-Ok.exploration c.in_ok-asked.ensures.config.0 c.in_ok-asked.ensures.config.1 c.in_ok-asked.ensures.symbols
    c.in-Ok.ensures.found
    _ (all_of _ _ _ c.in_ok-print.ensures.printed)))
    c.judge-judgement.ensures.told

pub returns-clause-spared : goal.returns-clause-spared
returns-clause-spared g c = spared_after _ _ _ _ c.in_ok-asked.ensures.stays (spares_wider _ _ _ _ (script_file _ _ _ c.args.wanted.scripts) c.keep.ensures.spared)

-- files are as before where the fault comes before the scripts
pub returns-in_err-asked-clause-untouched : goal.returns-in_err-asked-clause-untouched
returns-in_err-asked-clause-untouched g c = handed_up _ c.from_residual.result _ c.from_residual.ensures.1 (λ early. c.read.ensures.stays)

pub returns-in_err-print-clause-untouched : goal.returns-in_err-print-clause-untouched
returns-in_err-print-clause-untouched g c = handed_up _ c.from_residual-in_err-print.result _ c.from_residual-in_err-print.ensures.1 (λ early. c.in_ok-asked.ensures.stays)

pub returns-in_err-keep-clause-untouched : goal.returns-in_err-keep-clause-untouched
returns-in_err-keep-clause-untouched g c =
    handed_up _ c.from_residual-in_err-keep.result _ c.from_residual-in_err-keep.ensures.1 (λ early. absurd (folder_late c.args.wanted.scripts _ c.in_err-keep.ensures.told early))

pub returns-clause-untouched : goal.returns-clause-untouched
returns-clause-untouched g c = err_more _ _ c.judge-judgement.result (λ fault is early. absurd (memory_late fault is early)) c.judge-judgement.ensures.told

-- what is told of the outcomes that were printed
pub returns-clause-noted : goal.returns-clause-noted
returns-clause-noted g c =
    ok_more _ _ c.judge-judgement.result
    (λ judgement so.
    refusals (g.F.Files.held c.args.files.now) c.args.wanted c.in_ok-asked.asked.config c.in_ok-asked.asked.image c.in_ok-asked.asked.symbols c.in-Ok.exploration c.in_ok-asked.ensures.config.0 c.in_ok-asked.ensures.config.1 c.in_ok-asked.ensures.symbols
    c.in-Ok.ensures.found
    _ _ _ c.in_ok-print.ensures.printed (refusals_in _ c.args.wanted.allow _ _ _ _ c.in_ok-asked.ensures.allowed so))
    c.judge-judgement.ensures.noted

-- standard error is as before where the fault comes before the scripts
pub returns-in_err-asked-clause-silent : goal.returns-in_err-asked-clause-silent
returns-in_err-asked-clause-silent g c = handed_up _ c.from_residual.result _ c.from_residual.ensures.1 (λ early. refl)

pub returns-in_err-print-clause-silent : goal.returns-in_err-print-clause-silent
returns-in_err-print-clause-silent g c = handed_up _ c.from_residual-in_err-print.result _ c.from_residual-in_err-print.ensures.1 (λ early. refl)

pub returns-in_err-keep-clause-silent : goal.returns-in_err-keep-clause-silent
returns-in_err-keep-clause-silent g c =
    handed_up _ c.from_residual-in_err-keep.result _ c.from_residual-in_err-keep.ensures.1 (λ early. absurd (folder_late c.args.wanted.scripts _ c.in_err-keep.ensures.told early))

pub returns-clause-silent : goal.returns-clause-silent
returns-clause-silent g c = err_more _ _ c.judge-judgement.result (λ fault is early. absurd (memory_late fault is early)) c.judge-judgement.ensures.told

pub returns-in_err-keep-clause-judged_first : goal.returns-in_err-keep-clause-judged_first
returns-in_err-keep-clause-judged_first g c =
    on_err_of c.from_residual-in_err-keep.result (inr
    (refusals (g.F.Files.held c.args.files.now) c.args.wanted c.in_ok-asked.asked.config c.in_ok-asked.asked.image c.in_ok-asked.asked.symbols c.in-Ok.exploration c.in_ok-asked.ensures.config.0 c.in_ok-asked.ensures.config.1 c.in_ok-asked.ensures.symbols
    c.in-Ok.ensures.found
    _ _ _ c.in_ok-print.ensures.printed
    (refusals_in _ c.args.wanted.allow _ _ _ _ c.in_ok-asked.ensures.allowed (begun_by _ _ _ c.judge-judgement.result c.judge-judgement.ensures.noted c.judge-judgement.ensures.silent))))

pub returns-clause-judged_first : goal.returns-clause-judged_first
returns-clause-judged_first g c = on_err_more c.judge-judgement.result inl c.judge-judgement.ensures.silent
