use Rattle.std.proofs.Common.{◌≡◌, ◌+◌, ◌<◌, suc, take, true, sym, ap, subst, ◌∙◌, arith, length}
use Rattle.flat_exploration.specs.Laws.{none_runs}
use Rattle.hart.specs.declared.state.Hart.{Hart}
use Rattle.hart.specs.Run.{is_running}
use Rattle.flat_model.specs.Views.{no_node}
use Rattle.explorer.proofs.Drained.{ended_more, still_runs}
use Rattle.explorer.proofs.final_words.reading.none_runs.Goals as goal

pub loop-hart-preserved : goal.loop-hart-preserved
loop-hart-preserved c =
    let nodes = c.args.views.now.views.nodes in
    let h = c.loop-hart.hart in
    let inside : h < length nodes = omega (arith, c.loop-hart-test.true, c.harts-hart-end.ensures) in
    let next : suc h ≡ h + 1 = omega arith in
    subst (λ n. none_runs (take n nodes) ≡ true) next
    (ended_more nodes (no_node c.args.views.now) h inside (ap (λ (k : Hart). is_running k.status) (sym c.hart.ensures) ∙ sym c.if-is_running.ensures) c.loop-hart.invariant)

pub returns-then-is_running : goal.returns-then-is_running
returns-then-is_running c =
    let s = c.args.views.now in
    let h = c.loop-hart.hart in
    let inside : h < length s.views.nodes = omega (arith, c.loop-hart-test.true, c.harts-hart-end.ensures) in
    sym (still_runs s.views.nodes (no_node s) h inside (ap (λ (k : Hart). is_running k.status) (sym c.hart.ensures) ∙ sym c.if-is_running.ensures))
