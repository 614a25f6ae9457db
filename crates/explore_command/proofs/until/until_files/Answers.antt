use Rattle.std.proofs.Common.{◌∙◌, ap, inr, refl}
use Rattle.command_files.proofs.Left.{handed_up}
use Rattle.explore_command.proofs.Explored.{all_of}
use Rattle.explore_command.proofs.Faults.{first_left, first_told, output_left, output_told}
use Rattle.explore_command.proofs.Ways.{of_way, told_at}
use Rattle.explore_command.specs.Until.{judgement_of}
use Rattle.explore_command.proofs.until.until_files.Goals as goal

pub returns-in_err-asked-clause-told : goal.returns-in_err-asked-clause-told
returns-in_err-asked-clause-told g c = handed_up _ c.from_residual.result _ c.from_residual.ensures.1 (first_told (g.F.Files.held c.args.files.now) c.args.wanted _ c.in_err-asked.ensures.told)

pub returns-in_err-asked-clause-unfinished : goal.returns-in_err-asked-clause-unfinished
returns-in_err-asked-clause-unfinished g c = handed_up _ c.from_residual.result _ c.from_residual.ensures.1 (first_left (g.F.Files.held c.args.files.now) c.args.wanted _ _ _ _ c.in_err-asked.ensures.told refl)

pub returns-in_err-print_way-clause-told : goal.returns-in_err-print_way-clause-told
returns-in_err-print_way-clause-told g c = handed_up _ c.from_residual-in_err-print_way.result _ c.from_residual-in_err-print_way.ensures.1 (output_told _ c.args.wanted _ c.in_err-print_way.ensures.told)

pub returns-in_err-print_way-clause-unfinished : goal.returns-in_err-print_way-clause-unfinished
returns-in_err-print_way-clause-unfinished g c =
    handed_up _ c.from_residual-in_err-print_way.result _ c.from_residual-in_err-print_way.ensures.1
    (output_left _ _ _ _ c.in_err-print_way.ensures.told
    (of_way (g.F.Files.held c.args.files.now) c.args.wanted c.args.message c.in_ok-asked.asked.config c.in_ok-asked.asked.image c.searched_in-searched.result c.in_ok-asked.ensures.config.0 c.in_ok-asked.ensures.config.1
    c.in_ok-asked.ensures.image c.searched_in-searched.ensures _ c.in_err-print_way.ensures.begun))

pub returns-then-out_of_memory-clause-unfinished : goal.returns-then-out_of_memory-clause-unfinished
returns-then-out_of_memory-clause-unfinished g c =
    inr
    (of_way (g.F.Files.held c.args.files.now) c.args.wanted c.args.message c.in_ok-asked.asked.config c.in_ok-asked.asked.image c.searched_in-searched.result c.in_ok-asked.ensures.config.0 c.in_ok-asked.ensures.config.1
    c.in_ok-asked.ensures.image c.searched_in-searched.ensures _ (all_of _ _ _ c.in_ok-print_way.ensures.printed))

pub returns-clause-way : goal.returns-clause-way
returns-clause-way g c =
    of_way (g.F.Files.held c.args.files.now) c.args.wanted c.args.message c.in_ok-asked.asked.config c.in_ok-asked.asked.image c.searched_in-searched.result c.in_ok-asked.ensures.config.0 c.in_ok-asked.ensures.config.1
    c.in_ok-asked.ensures.image c.searched_in-searched.ensures _ (c.searched_in-searched.ensures.all_made c.if-out_of_memory.false, c.in_ok-print_way.ensures.printed, c.judgement_of.ensures ∙ ap judgement_of c.length-events.ensures)

pub returns-clause-noted : goal.returns-clause-noted
returns-clause-noted g c =
    of_way (g.F.Files.held c.args.files.now) c.args.wanted c.args.message c.in_ok-asked.asked.config c.in_ok-asked.asked.image c.searched_in-searched.result c.in_ok-asked.ensures.config.0 c.in_ok-asked.ensures.config.1
    c.in_ok-asked.ensures.image c.searched_in-searched.ensures _ (c.in_ok-print_way.ensures.printed, told_at _ _ _ _ _ c.tell_way.result c.length-events.ensures c.tell_way.ensures)
