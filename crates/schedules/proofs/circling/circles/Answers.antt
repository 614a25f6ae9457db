use Rattle.std.proofs.Common.{ap}
use Rattle.machine_model.specs.Views.{opening}
use Rattle.schedules.specs.Schedules.{Played}
use Rattle.schedules.proofs.Rounds.{each_from}
use Rattle.schedules.proofs.circling.circles.Goals as goal

pub returns : goal.returns
returns c = record {
  real = each_from (λ found. found.items) (opening c.args.image c.args.config) _ _ c.args.events.now c.all_circles.result (ap (λ (p : Played). p.machine) c.in_ok-player.ensures.ok) c.in-Ok.ensures.ok c.all_circles.ensures.real;
}
