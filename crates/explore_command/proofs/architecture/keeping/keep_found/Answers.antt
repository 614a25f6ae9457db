use Rattle.std.proofs.Common.{All, subst, sym}
use Rattle.explore_command.specs.ModelKeeping.{HasText}
use Rattle.explore_command.proofs.Kept.{on_ok}
use Rattle.explore_command.proofs.ModelKept.{all_kept, all_spared, outcomes_spared}
use Rattle.explore_command.proofs.architecture.keeping.keep_found.Goals as goal

pub keep_outcomes-requires-clause-readable : goal.keep_outcomes-requires-clause-readable
keep_outcomes-requires-clause-readable g c = subst (All (λ o. HasText o.way)) (sym c.deref.ensures.value) c.requires.readable.outcomes

pub keep_stops-requires-clause-readable : goal.keep_stops-requires-clause-readable
keep_stops-requires-clause-readable g c = subst (All (λ f. HasText f.way)) (sym c.deref-2.ensures.value) c.requires.readable.failures

pub returns-clause-kept : goal.returns-clause-kept
returns-clause-kept g c =
    on_ok _ _ c.keep_stops.result
    (all_kept (g.F.Files.held c.keep_outcomes.new.files) (g.F.Files.held c.keep_stops.new.files) c.args.folder.config c.args.folder.kib c.args.folder.name.now c.args.found.now c.deref.result.now c.deref-2.result.now c.deref.ensures.value c.deref-2.ensures.value
    c.keep_stops.ensures.spared c.in_ok-keep_outcomes.ensures.kept)
    c.keep_stops.ensures.kept

pub returns-clause-spared : goal.returns-clause-spared
returns-clause-spared g c =
    all_spared c.args.found.now c.deref.result.now c.deref-2.result.now c.args.folder.name.now (g.F.Files.held c.args.files.now) (g.F.Files.held c.keep_outcomes.new.files) (g.F.Files.held c.keep_stops.new.files) c.deref.ensures.value c.deref-2.ensures.value
    c.keep_outcomes.ensures.spared c.keep_stops.ensures.spared

pub returns-in_err-keep_outcomes-clause-spared : goal.returns-in_err-keep_outcomes-clause-spared
returns-in_err-keep_outcomes-clause-spared g c = outcomes_spared c.args.found.now c.deref.result.now c.args.folder.name.now (g.F.Files.held c.args.files.now) (g.F.Files.held c.keep_outcomes.new.files) c.deref.ensures.value c.keep_outcomes.ensures.spared
