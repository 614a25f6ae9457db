use Rattle.std.proofs.Common.{rules, ◌≡◌}
use Rattle.machine_model.specs.Views.{node_at}
use Rattle.schedules.proofs.Told.{told_next}
use Rattle.schedules.proofs.results.are_results.Goals as goal

pub loop-hart-preserved : goal.loop-hart-preserved
loop-hart-preserved c =
    told_next c.args.views.now c.args.goal.now c.loop-hart.hart _ c.index-goal-hart.result c.index-goal-hart.is c.loop-hart-test.true (search rules) (let s : c.index-goal-hart.result.status ≡ (node_at c.args.views.now c.loop-hart.hart).hart.status = search rules in s) (let o : c.index-goal-hart.result.output.items ≡ (node_at c.args.views.now c.loop-hart.hart).output = search rules in o) c.loop-hart.invariant
