use Rattle.std.proofs.Common.{◌∙◌, ap, inr}
use Rattle.std.specs.Prelude.{is_some}
use Rattle.explore_command.proofs.Kept.{all_kept, failures_spared, none_stuck_kept, on_ok, outcomes_still, spares_more}
use Rattle.explore_command.proofs.keeping.keep_exploration.Goals as goal

pub returns-clause-kept : goal.returns-clause-kept
returns-clause-kept g c =
    let folder = c.args.folder.name.now in
    on_ok _ _ c.keep_at.result
    (all_kept (g.F.Files.held c.keep_failures.new.files) (g.F.Files.held c.keep_at.new.files) c.args.folder.config c.args.folder.kib folder c.deref-3.result.now c.args.found.now c.deref.result.now c.deref-2.result.now c.in-Some.stuck
    c.keep_at.ensures.others (c.deref-3.ensures ∙ c.in-Ok.ensures) c.deref.ensures.value c.deref-2.ensures.value c.in-Some.is
    (outcomes_still (g.F.Files.held c.keep_outcomes.new.files) (g.F.Files.held c.keep_failures.new.files) c.args.folder.config c.args.folder.kib folder _ c.deref.result.now c.keep_failures.ensures.spared c.in_ok-keep_outcomes.ensures.kept)
    c.in_ok-keep_failures.ensures.kept)
    c.keep_at.ensures.kept

pub returns-clause-spared : goal.returns-clause-spared
returns-clause-spared g c =
    spares_more (g.F.Files.held c.keep_failures.new.files) (g.F.Files.held c.keep_at.new.files) c.deref-3.result.now c.keep_at.ensures.others
    _ (g.F.Files.held c.args.files.now) (inr (inr (ap is_some c.in-Some.is, c.deref-3.ensures ∙ c.in-Ok.ensures)))
    (failures_spared _ _ c.args.found.now c.args.folder.name.now _ _ _ c.deref.ensures.value c.deref-2.ensures.value c.keep_outcomes.ensures.spared c.keep_failures.ensures.spared)

pub returns-in_default-clause-kept : goal.returns-in_default-clause-kept
returns-in_default-clause-kept g c =
    let folder = c.args.folder.name.now in
    none_stuck_kept (g.F.Files.held c.keep_failures.new.files) c.args.folder.config c.args.folder.kib folder c.args.found.now c.deref.result.now c.deref-2.result.now
    c.deref.ensures.value c.deref-2.ensures.value c.in_default.is
    (outcomes_still (g.F.Files.held c.keep_outcomes.new.files) (g.F.Files.held c.keep_failures.new.files) c.args.folder.config c.args.folder.kib folder _ c.deref.result.now c.keep_failures.ensures.spared c.in_ok-keep_outcomes.ensures.kept)
    c.in_ok-keep_failures.ensures.kept

pub returns-in_default-clause-spared : goal.returns-in_default-clause-spared
returns-in_default-clause-spared g c =
    failures_spared _ _ c.args.found.now c.args.folder.name.now _ _ _ c.deref.ensures.value c.deref-2.ensures.value c.keep_outcomes.ensures.spared c.keep_failures.ensures.spared

pub returns-in_err-keep_failures-clause-spared : goal.returns-in_err-keep_failures-clause-spared
returns-in_err-keep_failures-clause-spared g c =
    failures_spared _ _ c.args.found.now c.args.folder.name.now _ _ _ c.deref.ensures.value c.deref-2.ensures.value c.keep_outcomes.ensures.spared c.keep_failures.ensures.spared
