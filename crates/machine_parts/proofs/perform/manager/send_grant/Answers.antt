use Rattle.machine_model.specs.Deliveries.{grant_body, line_in_memory}
use Rattle.machine_parts.proofs.Rooms.{had_room}
use Rattle.machine_parts.proofs.perform.manager.send_grant.Goals as goal

pub send-requires-clause-queue : goal.send-requires-clause-queue
send-requires-clause-queue c =
    let s = c.args.parts.now.state in
    rw c.grant_body-body.ensures (had_room c.args.grant.hart (record { line = c.args.line; body = grant_body c.args.grant (line_in_memory s c.args.line) }) s c.requires.hart c.requires.queues)
