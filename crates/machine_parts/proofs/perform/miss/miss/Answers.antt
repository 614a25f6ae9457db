use Rattle.tl_types.specs.declared.message.Body.TheVariants.{AcquireBlock}
use Rattle.machine_parts.proofs.Rooms.{had_room_after}
use Rattle.machine_parts.proofs.perform.miss.miss.Goals as goal

pub send-requires-clause-queue : goal.send-requires-clause-queue
send-requires-clause-queue c = had_room_after c.args.hart (record { line = c.args.line; body = AcquireBlock c.args.grow }) _ c.args.parts.now.state c.ask.new.parts.state c.ask.ensures.state c.requires.hart c.requires.room_in_queue
