use Rattle.std.proofs.Common.{◌≡◌, subst, true}
use Rattle.flat_exploration.specs.Failures.{HasStopped, machine_stops}
use Rattle.explorer.proofs.failing.StoppingGoal.is_met.Goals as goal

pub returns : goal.returns
returns c e =
    let met : c.has_stopped.result ≡ true = cc in
    subst (λ s. HasStopped (machine_stops s) c.args.self.now.failure) c.views.ensures (c.has_stopped.ensures met)
