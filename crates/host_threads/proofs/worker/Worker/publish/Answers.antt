use Rattle.std.proofs.Common.{ap}
use Rattle.host_threads.proofs.Pace.{paced_lent}
use Rattle.progress_board.specs.declared.view.View.{View}
use Rattle.host_threads.proofs.worker.Worker.publish.Goals as goal

pub invariant_of-self-clause-paced : goal.invariant_of-self-clause-paced
invariant_of-self-clause-paced g c =
    paced_lent c.args.self.now.common.now.limit c.args.self.now.port c.seat.result.now c.publish.new.seat c.seat.ensures.now (ap (λ (v : View). v.drawn) c.publish.ensures.longest) c.args.self.now.paced
