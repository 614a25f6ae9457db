use Rattle.std.proofs.Common.{◌+◌, ◌%◌, arith}
use Rattle.host_threads.specs.Route.{Route}
use Rattle.host_threads.proofs.Round.{went_on}
use Rattle.host_threads.proofs.rounds.Rounds.go_on.Goals as goal

pub returns : goal.returns
returns c =
    let i = c.self.inside in
    let r : Route = record { hart = i.hart; image = i.image.now; config = i.config; place = i.next; picked = i.picked; full = i.full } in
    rw (← c.self.view_is) (went_on r c.args.steps (((i.next + c.args.steps) % 8 + 1) % 8) c.args.event c.remembered-self-inside.result (omega arith) c.remembered-self-inside.ensures)
