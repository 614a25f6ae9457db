use Rattle.std.proofs.Common.{refl, subst, sym}
use Rattle.command_files.proofs.Left.{handed_up}
use Rattle.command_line.proofs.Carried.{all_noted, all_stay, all_told_of, check_beyond, check_came, check_silent, explore_beyond, explore_came, explore_silent, explore_written, fences_beyond, fences_came, fences_noted, fences_silent, fences_written, noted_at, run_beyond, run_came, run_silent, show_beyond, show_came, show_silent, show_written, stay_of, told_of}
use Rattle.command_line.proofs.Meant.{journal_alone, no_address, unwritten}
use Rattle.command_line.proofs.Leaving.{all_left_of, as_told, chart_inside, chart_outside, check_inside, check_outside, explore_inside, explore_outside, fences_inside, fences_outside, left_of, run_inside, run_outside, show_inside, show_outside}
use Rattle.command_line.specs.Running.{IsOutOfRange, IsDone, IsNoted, IsWritten}
use Rattle.command_line.specs.Telling.{ComesBeforeFiles}
use Rattle.trace_commands.proofs.Paged.{page_never_misused}
use Rattle.script_commands.proofs.ReplayTold.{replay_never_misused}
use Rattle.command_line.proofs.carrying.carry_out.Goals as goal

pub returns-in_ok-replay_files-in-Replay-clause-came : goal.returns-in_ok-replay_files-in-Replay-clause-came
returns-in_ok-replay_files-in-Replay-clause-came g c = subst (IsDone _ _ _ _) (sym c.in-Replay.is) c.in_ok-replay_files-in-Replay.ensures.replayed

pub returns-in_ok-replay_files-in-Replay-clause-spared : goal.returns-in_ok-replay_files-in-Replay-clause-spared
returns-in_ok-replay_files-in-Replay-clause-spared g c = unwritten _ _ _ c.in_ok-replay_files-in-Replay.ensures.spared

pub returns-in_err-replay_files-in-Replay-clause-spared : goal.returns-in_err-replay_files-in-Replay-clause-spared
returns-in_err-replay_files-in-Replay-clause-spared g c = unwritten _ _ _ c.in_err-replay_files-in-Replay.ensures.spared

pub returns-in_err-replay_files-in-Replay-clause-leaves : goal.returns-in_err-replay_files-in-Replay-clause-leaves
returns-in_err-replay_files-in-Replay-clause-leaves g c = handed_up _ c.from_residual.result _ c.from_residual.ensures.1 (left_of _ _ _ _ _ _ _ c.in-Replay.is c.in_err-replay_files-in-Replay.ensures.unfinished)

pub returns-in_err-replay_files-in-Replay-clause-outside : goal.returns-in_err-replay_files-in-Replay-clause-outside
returns-in_err-replay_files-in-Replay-clause-outside g c = handed_up _ c.from_residual.result _ c.from_residual.ensures.1 (λ out. absurd (subst IsOutOfRange c.in-Replay.is out))

pub returns-in_err-replay_files-in-Replay-clause-beyond : goal.returns-in_err-replay_files-in-Replay-clause-beyond
returns-in_err-replay_files-in-Replay-clause-beyond g c = handed_up _ c.from_residual.result _ c.from_residual.ensures.1 (λ two. absurd (replay_never_misused _ _ _ c.in_err-replay_files-in-Replay.ensures.told two))

pub returns-in_ok-explained-in-Explain-clause-came : goal.returns-in_ok-explained-in-Explain-clause-came
returns-in_ok-explained-in-Explain-clause-came g c = subst (IsDone _ _ _ _) (sym c.in-Explain.is) c.in_ok-explained-in-Explain.ensures.came

pub returns-in_ok-explained-in-Explain-clause-spared : goal.returns-in_ok-explained-in-Explain-clause-spared
returns-in_ok-explained-in-Explain-clause-spared g c = unwritten _ _ _ c.in_ok-explained-in-Explain.ensures.spared

pub returns-in_err-explained-in-Explain-clause-spared : goal.returns-in_err-explained-in-Explain-clause-spared
returns-in_err-explained-in-Explain-clause-spared g c = unwritten _ _ _ c.in_err-explained-in-Explain.ensures.spared

pub returns-in_err-explained-in-Explain-clause-leaves : goal.returns-in_err-explained-in-Explain-clause-leaves
returns-in_err-explained-in-Explain-clause-leaves g c = handed_up _ c.from_residual-in_err-explained-in-Explain.result _ c.from_residual-in_err-explained-in-Explain.ensures.1 (left_of _ _ _ _ _ _ _ c.in-Explain.is c.in_err-explained-in-Explain.ensures.unfinished)

pub returns-in_err-explained-in-Explain-clause-outside : goal.returns-in_err-explained-in-Explain-clause-outside
returns-in_err-explained-in-Explain-clause-outside g c = handed_up _ c.from_residual-in_err-explained-in-Explain.result _ c.from_residual-in_err-explained-in-Explain.ensures.1 (λ out. absurd (subst IsOutOfRange c.in-Explain.is out))

pub returns-in_err-explained-in-Explain-clause-beyond : goal.returns-in_err-explained-in-Explain-clause-beyond
returns-in_err-explained-in-Explain-clause-beyond g c = handed_up _ c.from_residual-in_err-explained-in-Explain.result _ c.from_residual-in_err-explained-in-Explain.ensures.1 (λ two. absurd (c.in_err-explained-in-Explain.ensures.fitting two))

pub returns-in_ok-page_files-in-Page-clause-came : goal.returns-in_ok-page_files-in-Page-clause-came
returns-in_ok-page_files-in-Page-clause-came g c = subst (IsDone _ _ _ _) (sym c.in-Page.is) c.in_ok-page_files-in-Page.ensures.paged

pub returns-in_ok-page_files-in-Page-clause-spared : goal.returns-in_ok-page_files-in-Page-clause-spared
returns-in_ok-page_files-in-Page-clause-spared g c = unwritten _ _ _ c.in_ok-page_files-in-Page.ensures.spared

pub returns-in_ok-page_files-in-Page-clause-inside : goal.returns-in_ok-page_files-in-Page-clause-inside
returns-in_ok-page_files-in-Page-clause-inside g c = λ out. absurd (subst IsOutOfRange c.in-Page.is out)

pub returns-in_err-page_files-in-Page-clause-spared : goal.returns-in_err-page_files-in-Page-clause-spared
returns-in_err-page_files-in-Page-clause-spared g c = unwritten _ _ _ c.in_err-page_files-in-Page.ensures.spared

pub returns-in_err-page_files-in-Page-clause-leaves : goal.returns-in_err-page_files-in-Page-clause-leaves
returns-in_err-page_files-in-Page-clause-leaves g c = handed_up _ c.from_residual-in_err-page_files-in-Page.result _ c.from_residual-in_err-page_files-in-Page.ensures.1 (left_of _ _ _ _ _ _ _ c.in-Page.is c.in_err-page_files-in-Page.ensures.unfinished)

pub returns-in_err-page_files-in-Page-clause-outside : goal.returns-in_err-page_files-in-Page-clause-outside
returns-in_err-page_files-in-Page-clause-outside g c = handed_up _ c.from_residual-in_err-page_files-in-Page.result _ c.from_residual-in_err-page_files-in-Page.ensures.1 (λ out. absurd (subst IsOutOfRange c.in-Page.is out))

pub returns-in_err-page_files-in-Page-clause-beyond : goal.returns-in_err-page_files-in-Page-clause-beyond
returns-in_err-page_files-in-Page-clause-beyond g c = handed_up _ c.from_residual-in_err-page_files-in-Page.result _ c.from_residual-in_err-page_files-in-Page.ensures.1 (λ two. absurd (page_never_misused _ _ _ _ _ c.in_err-page_files-in-Page.ensures.told two))

pub returns-in_err-page_files-in-Page-clause-told : goal.returns-in_err-page_files-in-Page-clause-told
returns-in_err-page_files-in-Page-clause-told g c = handed_up _ c.from_residual-in_err-page_files-in-Page.result _ c.from_residual-in_err-page_files-in-Page.ensures.1 (told_of _ _ _ _ _ _ c.in-Page.is c.in_err-page_files-in-Page.ensures.told)

pub returns-in_ok-chart_files-in-Chart-clause-came : goal.returns-in_ok-chart_files-in-Chart-clause-came
returns-in_ok-chart_files-in-Chart-clause-came g c = subst (IsDone _ _ _ _) (sym c.in-Chart.is) c.in_ok-chart_files-in-Chart.ensures.charted

pub returns-in_ok-chart_files-in-Chart-clause-spared : goal.returns-in_ok-chart_files-in-Chart-clause-spared
returns-in_ok-chart_files-in-Chart-clause-spared g c = unwritten _ _ _ c.in_ok-chart_files-in-Chart.ensures.spared

pub returns-in_err-chart_files-in-Chart-clause-spared : goal.returns-in_err-chart_files-in-Chart-clause-spared
returns-in_err-chart_files-in-Chart-clause-spared g c = unwritten _ _ _ c.in_err-chart_files-in-Chart.ensures.spared

pub returns-in_err-chart_files-in-Chart-clause-leaves : goal.returns-in_err-chart_files-in-Chart-clause-leaves
returns-in_err-chart_files-in-Chart-clause-leaves g c = handed_up _ c.from_residual-in_err-chart_files-in-Chart.result _ c.from_residual-in_err-chart_files-in-Chart.ensures.1 (left_of _ _ _ _ _ _ _ c.in-Chart.is c.in_err-chart_files-in-Chart.ensures.unfinished)

pub returns-in_err-chart_files-in-Chart-clause-outside : goal.returns-in_err-chart_files-in-Chart-clause-outside
returns-in_err-chart_files-in-Chart-clause-outside g c = handed_up _ c.from_residual-in_err-chart_files-in-Chart.result _ c.from_residual-in_err-chart_files-in-Chart.ensures.1 (λ out. chart_outside _ _ c.in_err-chart_files-in-Chart.ensures.unnamed (subst IsOutOfRange c.in-Chart.is out))

pub returns-in_err-chart_files-in-Chart-clause-beyond : goal.returns-in_err-chart_files-in-Chart-clause-beyond
returns-in_err-chart_files-in-Chart-clause-beyond g c = handed_up _ c.from_residual-in_err-chart_files-in-Chart.result _ c.from_residual-in_err-chart_files-in-Chart.ensures.1 (λ two. let it = c.in_err-chart_files-in-Chart.ensures.misused two in (subst IsOutOfRange (sym c.in-Chart.is) (no_address _ _ it.0), it.1))

pub returns-in-Run-clause-came : goal.returns-in-Run-clause-came
returns-in-Run-clause-came g c = run_came _ _ _ _ _ c.in-Run.run' c.run_files.result c.in-Run.is c.run_files.ensures.ran

pub returns-in-Run-clause-leaves : goal.returns-in-Run-clause-leaves
returns-in-Run-clause-leaves g c = all_left_of _ _ _ _ _ _ c.run_files.result c.in-Run.is c.run_files.ensures.unfinished

pub returns-in-Run-clause-outside : goal.returns-in-Run-clause-outside
returns-in-Run-clause-outside g c = run_outside _ c.in-Run.run' c.run_files.result c.in-Run.is c.run_files.ensures.outside

pub returns-in-Run-clause-inside : goal.returns-in-Run-clause-inside
returns-in-Run-clause-inside g c = run_inside _ c.in-Run.run' c.run_files.result c.in-Run.is c.run_files.ensures.outside

pub returns-in-Run-clause-beyond : goal.returns-in-Run-clause-beyond
returns-in-Run-clause-beyond g c = run_beyond _ _ _ _ c.in-Run.run' _ c.run_files.result c.in-Run.is c.run_files.ensures.told c.run_files.ensures.unfinished

pub returns-in-Run-clause-spared : goal.returns-in-Run-clause-spared
returns-in-Run-clause-spared g c = λ name changed. subst (IsWritten name) (sym c.in-Run.is) (journal_alone _ _ _ _ c.run_files.ensures.spared c.run_files.ensures.image name changed)

pub returns-in-Run-clause-told : goal.returns-in-Run-clause-told
returns-in-Run-clause-told g c = all_told_of _ _ _ _ _ c.run_files.result c.in-Run.is c.run_files.ensures.told

pub returns-in-Run-clause-untouched : goal.returns-in-Run-clause-untouched
returns-in-Run-clause-untouched g c = stay_of _ _ _ _ c.run_files.result c.in-Run.is c.run_files.ensures.untouched

pub returns-in-Run-clause-noted : goal.returns-in-Run-clause-noted
returns-in-Run-clause-noted g c = all_noted _ _ _ _ _ _ _ _ c.run_files.result c.in-Run.is c.run_files.ensures.ends

pub returns-in-Run-clause-silent : goal.returns-in-Run-clause-silent
returns-in-Run-clause-silent g c = run_silent _ _ _ _ _ _ c.in-Run.run' c.run_files.result c.in-Run.is c.run_files.ensures.silent

pub returns-in-Explore-clause-came : goal.returns-in-Explore-clause-came
returns-in-Explore-clause-came g c = explore_came _ _ _ _ _ c.in-Explore.explore c.explored.result c.in-Explore.is c.explored.ensures.came

pub returns-in-Explore-clause-leaves : goal.returns-in-Explore-clause-leaves
returns-in-Explore-clause-leaves g c = all_left_of _ _ _ _ _ _ c.explored.result c.in-Explore.is c.explored.ensures.unfinished

pub returns-in-Explore-clause-outside : goal.returns-in-Explore-clause-outside
returns-in-Explore-clause-outside g c = explore_outside _ c.in-Explore.explore c.explored.result c.in-Explore.is c.explored.ensures.outside

pub returns-in-Explore-clause-beyond : goal.returns-in-Explore-clause-beyond
returns-in-Explore-clause-beyond g c = explore_beyond _ _ _ _ c.in-Explore.explore _ c.explored.result c.in-Explore.is c.explored.ensures.told c.explored.ensures.unfinished

pub returns-in-Explore-clause-spared : goal.returns-in-Explore-clause-spared
returns-in-Explore-clause-spared g c = explore_written _ _ _ c.in-Explore.explore c.in-Explore.is c.explored.ensures.spared

pub returns-in-Check-clause-came : goal.returns-in-Check-clause-came
returns-in-Check-clause-came g c = check_came _ _ _ _ _ c.in-Check.check c.checked.result c.in-Check.is c.checked.ensures.came

pub returns-in-Check-clause-leaves : goal.returns-in-Check-clause-leaves
returns-in-Check-clause-leaves g c = all_left_of _ _ _ _ _ _ c.checked.result c.in-Check.is c.checked.ensures.unfinished

pub returns-in-Check-clause-outside : goal.returns-in-Check-clause-outside
returns-in-Check-clause-outside g c = check_outside _ c.in-Check.check c.checked.result c.in-Check.is

pub returns-in-Check-clause-beyond : goal.returns-in-Check-clause-beyond
returns-in-Check-clause-beyond g c = check_beyond _ _ _ c.checked.result c.checked.ensures.fitting

pub returns-in-Check-clause-spared : goal.returns-in-Check-clause-spared
returns-in-Check-clause-spared g c = unwritten _ _ _ c.checked.ensures.spared

pub returns-in_err-replay_files-in-Replay-clause-told : goal.returns-in_err-replay_files-in-Replay-clause-told
returns-in_err-replay_files-in-Replay-clause-told g c = handed_up _ c.from_residual.result _ c.from_residual.ensures.1 (told_of _ _ _ _ _ _ c.in-Replay.is c.in_err-replay_files-in-Replay.ensures.told)

pub returns-in_err-explained-in-Explain-clause-told : goal.returns-in_err-explained-in-Explain-clause-told
returns-in_err-explained-in-Explain-clause-told g c = handed_up _ c.from_residual-in_err-explained-in-Explain.result _ c.from_residual-in_err-explained-in-Explain.ensures.1
    (told_of _ _ _ _ _ _ c.in-Explain.is c.in_err-explained-in-Explain.ensures.told)

pub returns-in_err-chart_files-in-Chart-clause-told : goal.returns-in_err-chart_files-in-Chart-clause-told
returns-in_err-chart_files-in-Chart-clause-told g c = handed_up _ c.from_residual-in_err-chart_files-in-Chart.result _ c.from_residual-in_err-chart_files-in-Chart.ensures.1 (told_of _ _ _ _ _ _ c.in-Chart.is c.in_err-chart_files-in-Chart.ensures.told)

pub returns-in-Explore-clause-told : goal.returns-in-Explore-clause-told
returns-in-Explore-clause-told g c = all_told_of _ _ _ _ _ c.explored.result c.in-Explore.is c.explored.ensures.told

pub returns-in-Check-clause-told : goal.returns-in-Check-clause-told
returns-in-Check-clause-told g c = all_told_of _ _ _ _ _ c.checked.result c.in-Check.is c.checked.ensures.told

pub returns-in-Show-clause-came : goal.returns-in-Show-clause-came
returns-in-Show-clause-came g c = show_came _ _ _ _ _ c.in-Show.show c.shown.result c.in-Show.is c.shown.ensures.came

pub returns-in-Show-clause-leaves : goal.returns-in-Show-clause-leaves
returns-in-Show-clause-leaves g c = all_left_of _ _ _ _ _ _ c.shown.result c.in-Show.is c.shown.ensures.unfinished

pub returns-in-Show-clause-outside : goal.returns-in-Show-clause-outside
returns-in-Show-clause-outside g c = show_outside _ c.in-Show.show c.shown.result c.in-Show.is c.shown.ensures.outside c.shown.ensures.elsewhere

pub returns-in-Show-clause-beyond : goal.returns-in-Show-clause-beyond
returns-in-Show-clause-beyond g c = show_beyond _ _ _ _ c.in-Show.show _ c.shown.result c.in-Show.is c.shown.ensures.told c.shown.ensures.unfinished

pub returns-in-Show-clause-spared : goal.returns-in-Show-clause-spared
returns-in-Show-clause-spared g c = show_written _ _ _ c.in-Show.show c.in-Show.is c.shown.ensures.spared

pub returns-in-Show-clause-told : goal.returns-in-Show-clause-told
returns-in-Show-clause-told g c = all_told_of _ _ _ _ _ c.shown.result c.in-Show.is c.shown.ensures.told

-- what is done is in range
pub returns-in_ok-replay_files-in-Replay-clause-inside : goal.returns-in_ok-replay_files-in-Replay-clause-inside
returns-in_ok-replay_files-in-Replay-clause-inside g c = λ out. absurd (subst IsOutOfRange c.in-Replay.is out)

pub returns-in_ok-explained-in-Explain-clause-inside : goal.returns-in_ok-explained-in-Explain-clause-inside
returns-in_ok-explained-in-Explain-clause-inside g c = λ out. absurd (subst IsOutOfRange c.in-Explain.is out)

pub returns-in_ok-chart_files-in-Chart-clause-inside : goal.returns-in_ok-chart_files-in-Chart-clause-inside
returns-in_ok-chart_files-in-Chart-clause-inside g c = λ out. chart_inside _ _ c.in_ok-chart_files-in-Chart.ensures.charted.named (subst IsOutOfRange c.in-Chart.is out)

pub returns-in-Explore-clause-inside : goal.returns-in-Explore-clause-inside
returns-in-Explore-clause-inside g c = explore_inside _ c.in-Explore.explore c.explored.result c.in-Explore.is c.explored.ensures.outside

pub returns-in-Show-clause-inside : goal.returns-in-Show-clause-inside
returns-in-Show-clause-inside g c = show_inside _ c.in-Show.show c.shown.result c.in-Show.is c.shown.ensures.outside c.shown.ensures.elsewhere

pub returns-in-Check-clause-inside : goal.returns-in-Check-clause-inside
returns-in-Check-clause-inside g c = check_inside _ c.in-Check.check c.checked.result c.in-Check.is

-- files are as before where the fault comes before them
pub returns-in_err-replay_files-in-Replay-clause-untouched : goal.returns-in_err-replay_files-in-Replay-clause-untouched
returns-in_err-replay_files-in-Replay-clause-untouched g c = handed_up _ c.from_residual.result _ c.from_residual.ensures.1 (λ early. c.in_err-replay_files-in-Replay.ensures.spared)

pub returns-in_err-explained-in-Explain-clause-untouched : goal.returns-in_err-explained-in-Explain-clause-untouched
returns-in_err-explained-in-Explain-clause-untouched g c = handed_up _ c.from_residual-in_err-explained-in-Explain.result _ c.from_residual-in_err-explained-in-Explain.ensures.1 (λ early. c.in_err-explained-in-Explain.ensures.spared)

pub returns-in_err-chart_files-in-Chart-clause-untouched : goal.returns-in_err-chart_files-in-Chart-clause-untouched
returns-in_err-chart_files-in-Chart-clause-untouched g c = handed_up _ c.from_residual-in_err-chart_files-in-Chart.result _ c.from_residual-in_err-chart_files-in-Chart.ensures.1 (λ early. c.in_err-chart_files-in-Chart.ensures.spared)

pub returns-in-Explore-clause-untouched : goal.returns-in-Explore-clause-untouched
returns-in-Explore-clause-untouched g c = stay_of _ _ _ _ c.explored.result c.in-Explore.is c.explored.ensures.untouched

pub returns-in-Show-clause-untouched : goal.returns-in-Show-clause-untouched
returns-in-Show-clause-untouched g c = stay_of _ _ _ _ c.shown.result c.in-Show.is c.shown.ensures.untouched

pub returns-in-Check-clause-untouched : goal.returns-in-Check-clause-untouched
returns-in-Check-clause-untouched g c = all_stay _ _ _ c.checked.result c.checked.ensures.spared

-- what stands on standard error
pub returns-in_err-page_files-in-Page-clause-untouched : goal.returns-in_err-page_files-in-Page-clause-untouched
returns-in_err-page_files-in-Page-clause-untouched g c = handed_up _ c.from_residual-in_err-page_files-in-Page.result _ c.from_residual-in_err-page_files-in-Page.ensures.1 (λ early. c.in_err-page_files-in-Page.ensures.spared)

pub returns-in_ok-page_files-in-Page-clause-noted : goal.returns-in_ok-page_files-in-Page-clause-noted
returns-in_ok-page_files-in-Page-clause-noted g c = subst (IsNoted _ _ _ _ _ _ _) (sym c.in-Page.is) refl

pub returns-in_ok-replay_files-in-Replay-clause-noted : goal.returns-in_ok-replay_files-in-Replay-clause-noted
returns-in_ok-replay_files-in-Replay-clause-noted g c = subst (IsNoted _ _ _ _ _ _ _) (sym c.in-Replay.is) c.in_ok-replay_files-in-Replay.ensures.ends

pub returns-in_ok-explained-in-Explain-clause-noted : goal.returns-in_ok-explained-in-Explain-clause-noted
returns-in_ok-explained-in-Explain-clause-noted g c = subst (IsNoted _ _ _ _ _ _ _) (sym c.in-Explain.is) refl

pub returns-in_ok-chart_files-in-Chart-clause-noted : goal.returns-in_ok-chart_files-in-Chart-clause-noted
returns-in_ok-chart_files-in-Chart-clause-noted g c = subst (IsNoted _ _ _ _ _ _ _) (sym c.in-Chart.is) refl

pub returns-in-Explore-clause-noted : goal.returns-in-Explore-clause-noted
returns-in-Explore-clause-noted g c = all_noted _ _ _ _ _ _ _ _ c.explored.result c.in-Explore.is c.explored.ensures.noted

pub returns-in-Show-clause-noted : goal.returns-in-Show-clause-noted
returns-in-Show-clause-noted g c = all_noted _ _ _ _ _ _ _ _ c.shown.result c.in-Show.is c.shown.ensures.noted

pub returns-in-Check-clause-noted : goal.returns-in-Check-clause-noted
returns-in-Check-clause-noted g c = all_noted _ _ _ _ _ _ _ _ c.checked.result c.in-Check.is c.checked.ensures.noted

-- an audit of orderings
pub returns-in-Fences-clause-came : goal.returns-in-Fences-clause-came
returns-in-Fences-clause-came g c = fences_came _ _ _ _ _ c.in-Fences.audit c.fences_files.result c.in-Fences.is c.fences_files.ensures.audited

pub returns-in-Fences-clause-leaves : goal.returns-in-Fences-clause-leaves
returns-in-Fences-clause-leaves g c = all_left_of _ _ _ _ _ _ c.fences_files.result c.in-Fences.is c.fences_files.ensures.unfinished

pub returns-in-Fences-clause-outside : goal.returns-in-Fences-clause-outside
returns-in-Fences-clause-outside g c = fences_outside _ c.in-Fences.audit c.fences_files.result c.in-Fences.is c.fences_files.ensures.outside

pub returns-in-Fences-clause-inside : goal.returns-in-Fences-clause-inside
returns-in-Fences-clause-inside g c = fences_inside _ c.in-Fences.audit c.fences_files.result c.in-Fences.is c.fences_files.ensures.outside

pub returns-in-Fences-clause-beyond : goal.returns-in-Fences-clause-beyond
returns-in-Fences-clause-beyond g c = fences_beyond _ _ _ _ c.in-Fences.audit _ c.fences_files.result c.in-Fences.is c.fences_files.ensures.told c.fences_files.ensures.unfinished

pub returns-in-Fences-clause-spared : goal.returns-in-Fences-clause-spared
returns-in-Fences-clause-spared g c = fences_written _ _ _ c.in-Fences.audit c.in-Fences.is c.fences_files.ensures.spared

pub returns-in-Fences-clause-told : goal.returns-in-Fences-clause-told
returns-in-Fences-clause-told g c = all_told_of _ _ _ _ _ c.fences_files.result c.in-Fences.is c.fences_files.ensures.told

pub returns-in-Fences-clause-untouched : goal.returns-in-Fences-clause-untouched
returns-in-Fences-clause-untouched g c = stay_of _ _ _ _ c.fences_files.result c.in-Fences.is c.fences_files.ensures.untouched

pub returns-in-Fences-clause-noted : goal.returns-in-Fences-clause-noted
returns-in-Fences-clause-noted g c = fences_noted _ _ _ _ _ _ _ c.in-Fences.audit c.fences_files.result c.in-Fences.is refl

-- ---- what stands on standard error before a fault

pub returns-in_err-replay_files-in-Replay-clause-silent : goal.returns-in_err-replay_files-in-Replay-clause-silent
returns-in_err-replay_files-in-Replay-clause-silent g c = handed_up _ c.from_residual.result _ c.from_residual.ensures.1 (noted_at _ _ _ _ _ _ _ _ c.in-Replay.is c.in_err-replay_files-in-Replay.ensures.silent)

pub returns-in_err-explained-in-Explain-clause-silent : goal.returns-in_err-explained-in-Explain-clause-silent
returns-in_err-explained-in-Explain-clause-silent g c = handed_up _ c.from_residual-in_err-explained-in-Explain.result _ c.from_residual-in_err-explained-in-Explain.ensures.1 (noted_at _ _ _ _ _ _ _ _ c.in-Explain.is refl)

pub returns-in_err-chart_files-in-Chart-clause-silent : goal.returns-in_err-chart_files-in-Chart-clause-silent
returns-in_err-chart_files-in-Chart-clause-silent g c = handed_up _ c.from_residual-in_err-chart_files-in-Chart.result _ c.from_residual-in_err-chart_files-in-Chart.ensures.1 (noted_at _ _ _ _ _ _ _ _ c.in-Chart.is refl)

pub returns-in_err-page_files-in-Page-clause-silent : goal.returns-in_err-page_files-in-Page-clause-silent
returns-in_err-page_files-in-Page-clause-silent g c = handed_up _ c.from_residual-in_err-page_files-in-Page.result _ c.from_residual-in_err-page_files-in-Page.ensures.1 (noted_at _ _ _ _ _ _ _ _ c.in-Page.is refl)

pub returns-in-Explore-clause-silent : goal.returns-in-Explore-clause-silent
returns-in-Explore-clause-silent g c = explore_silent _ _ _ _ _ _ c.in-Explore.explore c.explored.result c.in-Explore.is c.explored.ensures.silent c.explored.ensures.judged_first

pub returns-in-Show-clause-silent : goal.returns-in-Show-clause-silent
returns-in-Show-clause-silent g c = show_silent _ _ _ _ _ _ c.in-Show.show c.shown.result c.in-Show.is c.shown.ensures.silent c.shown.ensures.judged_first

pub returns-in-Fences-clause-silent : goal.returns-in-Fences-clause-silent
returns-in-Fences-clause-silent g c = fences_silent _ _ _ _ _ _ c.in-Fences.audit c.fences_files.result c.in-Fences.is refl

pub returns-in-Check-clause-silent : goal.returns-in-Check-clause-silent
returns-in-Check-clause-silent g c = check_silent _ _ _ _ _ _ c.in-Check.check c.checked.result c.in-Check.is c.checked.ensures.silent
