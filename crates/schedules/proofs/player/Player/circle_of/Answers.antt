use Rattle.std.proofs.Common.{◌≡◌}
use Rattle.machine_model.specs.Views.{node_at}
use Rattle.schedules.proofs.Leading.{leads_on}
use Rattle.schedules.proofs.Rounds.{goes_round, leads_of, noted_here, noted_on, of_some}
use Rattle.schedules.proofs.player.Player.circle_of.Goals as goal
use Rattle.schedules.proofs.player.Player.circle_of.Goals.{then-left-eq0, else-left-eq0}

pub returns-in_default-2-clause-leads : goal.returns-in_default-2-clause-leads
returns-in_default-2-clause-leads c = leads_on _ _ _ (leads_of _ _ _ _ _ c.loop-step.invariant) c.in_ok-now.ensures.leads

pub returns-then-is_back-clause-leads : goal.returns-then-is_back-clause-leads
returns-then-is_back-clause-leads c = leads_on _ _ _ (leads_of _ _ _ _ _ c.loop-step.invariant) c.in_ok-now.ensures.leads

pub returns-then-is_back-clause-real : goal.returns-then-is_back-clause-real
returns-then-is_back-clause-real c =
    goes_round _ _ _ _ _ (noted_on _ _ _ _ _ _ c.loop-step.invariant c.in_ok-now.ensures.leads) (c.is_back.ensures.back c.if-is_back.true) (c.is_back.ensures.longer c.if-is_back.true)

pub loop-step-preserved : goal.loop-step-preserved
loop-step-preserved c =
    let leads = leads_on _ _ _ (leads_of _ _ _ _ _ c.loop-step.invariant) c.in_ok-now.ensures.leads in
    let stands = of_some (λ found. found ≡ (node_at c.step_alone.new.self.machine c.args.hart).hart) _ _ c.in-Some-2.is c.in_ok-now.ensures.stands in
    elim c.if-left-eq0.branch [
      | then-left-eq0 w ↦ rw (w.stood-is, w.count-is) (noted_here _ _ _ _ _ leads stands w.retired-count-then-left-eq0.ensures)
      | else-left-eq0 w ↦ rw (w.stood-is, w.count-is) (noted_on _ _ _ _ _ _ c.loop-step.invariant c.in_ok-now.ensures.leads)
    ]
