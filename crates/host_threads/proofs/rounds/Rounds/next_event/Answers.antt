use Rattle.std.proofs.Common.{◌<◌, arith, subst}
use Rattle.std.proofs.lemmas.Grind.{elements}
use Rattle.host_threads.proofs.Round.{idle}
use Rattle.host_threads.specs.Route.{Route}
use Rattle.machine_model.specs.Views.{node_at}
use Rattle.host_threads.proofs.rounds.Rounds.next_event.Goals as goal

pub returns-clause-idle : goal.returns-clause-idle
returns-clause-idle c =
    idle c.args.self.now (node_at c.args.views.now c.args.self.now.hart) (subst (λ (r : Route). r.place < 8) c.self.view_is c.self.invariant)
    (λ k below. c.loop-steps.invariant.skipped k (omega (arith, below, c.loop-steps-test.false)))

pub loop-steps-preserved : goal.loop-steps-preserved
loop-steps-preserved c = grind (arith, elements)
