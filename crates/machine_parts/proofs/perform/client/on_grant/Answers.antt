use Rattle.client_cache.specs.Cache.{granted}
use Rattle.machine_model.specs.Views.{node_at}
use Rattle.tl_types.specs.declared.message.Body.TheVariants.{GrantAck}
use Rattle.machine_parts.proofs.Rooms.{had_room_after}
use Rattle.machine_parts.proofs.perform.client.on_grant.Goals as goal

pub send-requires-clause-queue : goal.send-requires-clause-queue
send-requires-clause-queue c =
    let s = c.args.parts.now.state in
    let n = node_at s c.args.hart in
    had_room_after c.args.hart (record { line = c.args.line; body = GrantAck }) (record n { cache = granted n.cache c.args.line c.args.cap c.args.bytes }) s _ c.install.ensures.state c.requires.hart c.requires.queues
