use Rattle.std.proofs.Common.{◌≡◌, ◌+◌, ◌<◌, suc, sym, ap, subst, ◌∙◌, arith, length}
use Rattle.std.proofs.lemmas.Bool.{false≢true}
use Rattle.hart.specs.declared.state.Hart.{Hart}
use Rattle.hart.specs.Run.{is_running}
use Rattle.flat_model.specs.Views.{no_node}
use Rattle.store_buffer.specs.Groups.{is_empty}
use Rattle.explorer.proofs.Drained.{IsIdleBelow, idle_more, one_runs, one_waits}
use Rattle.explorer.proofs.final_words.reading.has_drained.Goals as goal
use Rattle.explorer.proofs.final_words.reading.has_drained.Goals.{then-is_running-via-then-is_running, then-is_running-via-else-is_running+then-not-is_empty}

pub loop-hart-preserved : goal.loop-hart-preserved
loop-hart-preserved c =
    let nodes = c.args.views.now.views.nodes in
    let h = c.loop-hart.hart in
    let inside : h < length nodes = omega (arith, c.loop-hart-test.true, c.harts-hart-end.ensures) in
    let next : suc h ≡ h + 1 = omega arith in
    subst (IsIdleBelow nodes) next
    (idle_more nodes (no_node c.args.views.now) h inside (ap (λ (k : Hart). is_running k.status) (sym c.hart.ensures) ∙ sym c.if-is_running.ensures) (ap is_empty (sym c.buffer.ensures) ∙ sym c.if-not-is_empty.ensures) c.loop-hart.invariant)

pub returns-then-is_running : goal.returns-then-is_running
returns-then-is_running c =
    let s = c.args.views.now in
    let h = c.loop-hart.hart in
    let inside : h < length s.views.nodes = omega (arith, c.loop-hart-test.true, c.harts-hart-end.ensures) in (
      λ is. absurd (false≢true is),
      λ drained. elim c.then-is_running.branch [
        | then-is_running-via-then-is_running w ↦ absurd (one_runs s h inside (ap (λ (k : Hart). is_running k.status) (sym c.hart.ensures) ∙ sym w.if-is_running.ensures) drained)
        | then-is_running-via-else-is_running+then-not-is_empty w ↦ absurd (one_waits s h inside (ap is_empty (sym w.buffer.ensures) ∙ sym w.if-not-is_empty.ensures) drained)
      ],
    )
