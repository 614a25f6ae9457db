use Rattle.std.proofs.Common.{List, inl, inr, refl, subst}
use Rattle.command_files.proofs.Left.{handed_up}
use Rattle.command_files.specs.Faults.{Name}
use Rattle.explore_command.proofs.Explored.{all_of, err_more, memory_left, ok_both, ok_more, spared, spared_after}
use Rattle.explore_command.proofs.Faults.{folder_late, folder_left, folder_told, memory_late, output_left}
use Rattle.explore_command.proofs.Kept.{script_file, spares_wider}
use Rattle.explore_command.proofs.Refused.{begun_by, on_err_more, on_err_of}
use Rattle.explore_command.proofs.Asking.{asking_left, asking_told}
use Rattle.explore_command.proofs.Shown.{has, refused, show_told, shown}
use Rattle.explore_command.specs.Asking.{IsAskingFault}
use Rattle.explore_command.proofs.show.showing.show_files.Goals as goal

pub returns-in_err-words-clause-told : goal.returns-in_err-words-clause-told
returns-in_err-words-clause-told g c =
    let show = c.args.wanted.now in
    let held = g.F.Files.held c.args.files.now in
    handed_up _ c.from_residual.result _ c.from_residual.ensures.1
    (show_told held show _ (asking_told held show.explore show.words.items _ (subst (λ (w : List Name). IsAskingFault held show.explore w c.in_err-words.field-0.0) c.deref.ensures.value c.in_err-words.ensures.told)))

pub returns-in_err-words-clause-unfinished : goal.returns-in_err-words-clause-unfinished
returns-in_err-words-clause-unfinished g c = handed_up _ c.from_residual.result _ c.from_residual.ensures.1 (asking_left _ _ _ _ _ _ _ c.in_err-words.ensures.told refl)

pub returns-in_err-words-clause-spared : goal.returns-in_err-words-clause-spared
returns-in_err-words-clause-spared g c = spared _ _ _ c.read.ensures.stays

pub returns-in_err-print-clause-unfinished : goal.returns-in_err-print-clause-unfinished
returns-in_err-print-clause-unfinished g c =
    let show = c.args.wanted.now in
    let held = g.F.Files.held c.args.files.now in
    let asked = c.in_ok-words.words in
    let program = c.in_ok-words.ensures.symbols in
    handed_up _ c.from_residual-in_err-print.result _ c.from_residual-in_err-print.ensures.1
    (output_left _ _ _ _ c.in_err-print.ensures.told
    (has held show asked.config asked.image asked.symbols asked.targets.addresses.items _ _ c.in-Ok.exploration c.in_ok-words.ensures.config.0 c.in_ok-words.ensures.config.1 c.deref.ensures.value program c.in_ok-words.ensures.names
    c.in-Ok.ensures.found _ c.in_err-print.ensures.begun))

pub returns-in_err-keep-clause-told : goal.returns-in_err-keep-clause-told
returns-in_err-keep-clause-told g c =
    let show = c.args.wanted.now in
    let held = g.F.Files.held c.args.files.now in
    handed_up _ c.from_residual-in_err-keep.result _ c.from_residual-in_err-keep.ensures.1 (show_told held show _ (inl (folder_told held show.explore _ c.in_err-keep.ensures.told)))

pub returns-in_err-keep-clause-unfinished : goal.returns-in_err-keep-clause-unfinished
returns-in_err-keep-clause-unfinished g c =
    let show = c.args.wanted.now in
    let held = g.F.Files.held c.args.files.now in
    let asked = c.in_ok-words.words in
    let program = c.in_ok-words.ensures.symbols in
    let told = has held show asked.config asked.image asked.symbols asked.targets.addresses.items _ _ c.in-Ok.exploration c.in_ok-words.ensures.config.0 c.in_ok-words.ensures.config.1 c.deref.ensures.value program c.in_ok-words.ensures.names
    c.in-Ok.ensures.found in
    handed_up _ c.from_residual-in_err-keep.result _ c.from_residual-in_err-keep.ensures.1
    (folder_left show.explore _ _ _ _ c.in_err-keep.ensures.told (told _ (all_of _ _ _ c.in_ok-print.ensures.printed)) (told _ c.in_ok-print.ensures.printed))

pub returns-in_err-keep-clause-spared : goal.returns-in_err-keep-clause-spared
returns-in_err-keep-clause-spared g c = spared_after _ _ _ _ c.in_ok-words.ensures.stays (spares_wider _ _ _ _ (script_file _ _ _ c.args.wanted.now.explore.scripts) c.keep.ensures.spared)

pub returns-clause-shown : goal.returns-clause-shown
returns-clause-shown g c =
    let show = c.args.wanted.now in
    let held = g.F.Files.held c.args.files.now in
    let asked = c.in_ok-words.words in
    let program = c.in_ok-words.ensures.symbols in
    ok_more _ _ c.judge-judgement.result
    (λ judgement so.
    shown held show asked.config asked.image asked.symbols asked.targets.addresses.items _ _ c.in-Ok.exploration c.in_ok-words.ensures.config.0 c.in_ok-words.ensures.config.1 c.deref.ensures.value program c.in_ok-words.ensures.names
    c.in-Ok.ensures.found
    _ _ (g.F.Files.held c.keep.new.files) judgement _ c.in_ok-print.ensures.printed c.in_ok-words.ensures.named c.in_ok-keep.ensures.kept (spared_after _ _ _ _ c.in_ok-words.ensures.stays c.keep.ensures.spared) c.in_ok-words.ensures.allowed so.0 so.1 c.in-Ok.ensures.ends)
    (ok_both _ _ c.judge-judgement.result c.judge-judgement.ensures.judged c.judge-judgement.ensures.whole)

pub returns-clause-unfinished : goal.returns-clause-unfinished
returns-clause-unfinished g c =
    let show = c.args.wanted.now in
    let held = g.F.Files.held c.args.files.now in
    let asked = c.in_ok-words.words in
    let program = c.in_ok-words.ensures.symbols in
    err_more _ _ c.judge-judgement.result
    (λ fault is. memory_left fault _ _ _ is
    (has held show asked.config asked.image asked.symbols asked.targets.addresses.items _ _ c.in-Ok.exploration c.in_ok-words.ensures.config.0 c.in_ok-words.ensures.config.1 c.deref.ensures.value program c.in_ok-words.ensures.names
    c.in-Ok.ensures.found
    _ (all_of _ _ _ c.in_ok-print.ensures.printed)))
    c.judge-judgement.ensures.told

pub returns-clause-spared : goal.returns-clause-spared
returns-clause-spared g c = spared_after _ _ _ _ c.in_ok-words.ensures.stays (spares_wider _ _ _ _ (script_file _ _ _ c.args.wanted.now.explore.scripts) c.keep.ensures.spared)

-- files are as before where the fault comes before the scripts
pub returns-in_err-words-clause-untouched : goal.returns-in_err-words-clause-untouched
returns-in_err-words-clause-untouched g c = handed_up _ c.from_residual.result _ c.from_residual.ensures.1 (λ early. c.read.ensures.stays)

pub returns-in_err-print-clause-untouched : goal.returns-in_err-print-clause-untouched
returns-in_err-print-clause-untouched g c = handed_up _ c.from_residual-in_err-print.result _ c.from_residual-in_err-print.ensures.1 (λ early. c.in_ok-words.ensures.stays)

pub returns-in_err-keep-clause-untouched : goal.returns-in_err-keep-clause-untouched
returns-in_err-keep-clause-untouched g c =
    handed_up _ c.from_residual-in_err-keep.result _ c.from_residual-in_err-keep.ensures.1 (λ early. absurd (folder_late c.args.wanted.now.explore.scripts _ c.in_err-keep.ensures.told early))

pub returns-clause-untouched : goal.returns-clause-untouched
returns-clause-untouched g c = err_more _ _ c.judge-judgement.result (λ fault is early. absurd (memory_late fault is early)) c.judge-judgement.ensures.told

pub returns-in_err-words-clause-silent : goal.returns-in_err-words-clause-silent
returns-in_err-words-clause-silent g c = handed_up _ c.from_residual.result _ c.from_residual.ensures.1 (λ early. refl)

pub returns-in_err-print-clause-silent : goal.returns-in_err-print-clause-silent
returns-in_err-print-clause-silent g c = handed_up _ c.from_residual-in_err-print.result _ c.from_residual-in_err-print.ensures.1 (λ early. refl)

pub returns-in_err-keep-clause-silent : goal.returns-in_err-keep-clause-silent
returns-in_err-keep-clause-silent g c =
    handed_up _ c.from_residual-in_err-keep.result _ c.from_residual-in_err-keep.ensures.1 (λ early. absurd (folder_late c.args.wanted.now.explore.scripts _ c.in_err-keep.ensures.told early))

pub returns-clause-silent : goal.returns-clause-silent
returns-clause-silent g c = err_more _ _ c.judge-judgement.result (λ fault is early. absurd (memory_late fault is early)) c.judge-judgement.ensures.told

-- what is told of the outcomes that were printed
pub returns-clause-noted : goal.returns-clause-noted
returns-clause-noted g c =
    let show = c.args.wanted.now in
    let held = g.F.Files.held c.args.files.now in
    let asked = c.in_ok-words.words in
    let program = c.in_ok-words.ensures.symbols in
    ok_more _ _ c.judge-judgement.result
    (λ judgement so.
    refused held show asked.config asked.image asked.symbols asked.targets.addresses.items _ _ c.in-Ok.exploration c.in_ok-words.ensures.config.0 c.in_ok-words.ensures.config.1 c.deref.ensures.value program c.in_ok-words.ensures.names
    c.in-Ok.ensures.found
    _ _ _ _ c.in_ok-print.ensures.printed c.in_ok-words.ensures.allowed so)
    c.judge-judgement.ensures.noted

pub returns-in_err-keep-clause-judged_first : goal.returns-in_err-keep-clause-judged_first
returns-in_err-keep-clause-judged_first g c =
    let show = c.args.wanted.now in
    let held = g.F.Files.held c.args.files.now in
    let asked = c.in_ok-words.words in
    let program = c.in_ok-words.ensures.symbols in
    on_err_of c.from_residual-in_err-keep.result (inr
    (refused held show asked.config asked.image asked.symbols asked.targets.addresses.items _ _ c.in-Ok.exploration c.in_ok-words.ensures.config.0 c.in_ok-words.ensures.config.1 c.deref.ensures.value program c.in_ok-words.ensures.names
    c.in-Ok.ensures.found
    _ _ _ _ c.in_ok-print.ensures.printed c.in_ok-words.ensures.allowed
    (begun_by _ _ _ c.judge-judgement.result c.judge-judgement.ensures.noted c.judge-judgement.ensures.silent)))

pub returns-clause-judged_first : goal.returns-clause-judged_first
returns-clause-judged_first g c = on_err_more c.judge-judgement.result inl c.judge-judgement.ensures.silent
