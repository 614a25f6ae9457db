use Rattle.std.proofs.Common.{◌∙◌, ◌<◌, ◌^◌, length, rules}
use Rattle.explore_command.specs.ModelKeeping.{HasText, failing_way, failure_stem}
use Rattle.explore_command.proofs.ModelKept.{last_is, last_of_left, none_kept, one_more, spares_one}
use Rattle.explore_command.proofs.architecture.keeping.keep_stops.Goals as goal

pub loop-rest-init : goal.loop-rest-init
loop-rest-init g c = none_kept failure_stem failing_way _ _ _ _ _

pub returns-in_err-keep_at-clause-spared : goal.returns-in_err-keep_at-clause-spared
returns-in_err-keep_at-clause-spared g c =
    spares_one failure_stem failing_way (g.F.Files.held c.args.files.now) (g.F.Files.held c.loop-rest.files) (g.F.Files.held c.keep_at.new.files) c.args.folder.name.now c.deref.result.now c.loop-rest.rest.now _ c.loop-rest.invariant.done c.args.failings.now c.last-item.result
    (last_is failure_stem failing_way c.loop-rest.rest.now c.last-item.result _ c.in-len1-up.len_at_least c.last-item.is) c.loop-rest.invariant.whole
    (c.deref.ensures ∙ c.in-Ok.ensures) c.keep_at.ensures.others c.loop-rest.invariant.spared

pub loop-rest-preserved : goal.loop-rest-preserved
loop-rest-preserved g c =
    let small : length c.args.failings.now < 2 ^ 64 = search rules in
    one_more failure_stem failing_way (g.F.Files.held c.args.files.now) (g.F.Files.held c.loop-rest.files) (g.F.Files.held c.keep_at.new.files) c.args.folder.config c.args.folder.kib c.args.folder.name.now c.deref.result.now
    c.loop-rest.rest.now _ c.args.failings.now c.last-item.result small
    (last_is failure_stem failing_way c.loop-rest.rest.now c.last-item.result _ c.in-len1-up.len_at_least c.last-item.is)
    (c.deref.ensures ∙ c.in-Ok.ensures) c.keep_at.ensures.others c.in_ok-keep_at.ensures.kept c.loop-rest.invariant

pub keep_at-requires-clause-readable : goal.keep_at-requires-clause-readable
keep_at-requires-clause-readable g c =
    last_of_left failure_stem failing_way (λ x. HasText x.way) c.loop-rest.rest.now _ c.loop-rest.invariant.done c.args.failings.now c.last-item.result c.loop-rest.invariant.whole
    (last_is failure_stem failing_way c.loop-rest.rest.now c.last-item.result _ c.in-len1-up.len_at_least c.last-item.is) c.requires.readable
