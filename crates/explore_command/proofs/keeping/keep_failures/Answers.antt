use Rattle.std.proofs.Common.{◌∙◌, ◌<◌, ◌^◌, length, rules}
use Rattle.explore_command.proofs.Kept.{last_is, none_kept, one_more, one_of, one_failure, spares_more}
use Rattle.explore_command.specs.Keeping.{failure_path}
use Rattle.explorer.specs.declared.found.FoundFailure.{FoundFailure}
use Rattle.explore_command.proofs.keeping.keep_failures.Goals as goal

pub loop-rest-init : goal.loop-rest-init
loop-rest-init g c = none_kept (failure_path c.args.folder.name.now) (λ (f : FoundFailure). f.script) _ _ _ _

pub returns-in_err-keep_at-clause-spared : goal.returns-in_err-keep_at-clause-spared
returns-in_err-keep_at-clause-spared g c =
    let path = failure_path c.args.folder.name.now in
    spares_more (g.F.Files.held c.loop-rest.files) (g.F.Files.held c.keep_at.new.files) c.deref.result.now c.keep_at.ensures.others
    _ (g.F.Files.held c.args.files.now)
    (one_of path (λ (f : FoundFailure). f.script) c.loop-rest.rest.now _ c.args.failures.now c.loop-rest.invariant.done c.deref.result.now c.last-item.result
    (last_is path (λ (f : FoundFailure). f.script) c.loop-rest.rest.now c.last-item.result _ c.in-len1-up.len_at_least c.last-item.is) c.loop-rest.invariant.whole (c.deref.ensures ∙ c.in-Ok.ensures))
    c.loop-rest.invariant.spared

pub loop-rest-preserved : goal.loop-rest-preserved
loop-rest-preserved g c =
    let small : length c.args.failures.now < 2 ^ 64 = search rules in
    let path = failure_path c.args.folder.name.now in
    one_more path (λ (f : FoundFailure). f.script) (one_failure c.args.folder.name.now) (g.F.Files.held c.args.files.now) (g.F.Files.held c.loop-rest.files) (g.F.Files.held c.keep_at.new.files) c.args.folder.config c.args.folder.kib c.deref.result.now
    c.loop-rest.rest.now _ c.args.failures.now c.last-item.result small
    (last_is path (λ (f : FoundFailure). f.script) c.loop-rest.rest.now c.last-item.result _ c.in-len1-up.len_at_least c.last-item.is)
    (c.deref.ensures ∙ c.in-Ok.ensures) c.keep_at.ensures.others c.in_ok-keep_at.ensures.kept c.loop-rest.invariant
