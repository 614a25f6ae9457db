use Rattle.schedules.proofs.Leading.{leads_on}
use Rattle.schedules.proofs.Rounds.{if_round_from}
use Rattle.schedules.proofs.player.Player.all_circles.Goals as goal

pub loop-hart-preserved : goal.loop-hart-preserved
loop-hart-preserved c = record {
  leads = leads_on _ _ _ c.loop-hart.invariant.leads c.in-Ok.ensures.leads;
  real = c.in_ok-add.ensures c.args.self.now.machine c.loop-hart.invariant.real (if_round_from _ _ c.in-Ok.circle c.loop-hart.invariant.leads c.in-Ok.ensures.real);
}
