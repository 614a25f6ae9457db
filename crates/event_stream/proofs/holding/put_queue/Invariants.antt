use Rattle.std.proofs.Common.{◌-◌, ◌++◌, drop}
use Rattle.std.specs.List.{flat_map}
use Rattle.text_fields.proofs.Pages.{Spelling}
use Rattle.tilelink_channels.specs.Queues.{queue_of}
use Rattle.event_stream.specs.Holding.{message_line, queue_lines}
use Rattle.event_stream.proofs.holding.put_queue.Given as goal

abbrev pub invariant-loop-place : goal.invariant-loop-place
invariant-loop-place g l =
    Spelling (g.W.Write.contents l.initial.out) (g.W.Write.contents l.out) l.page (flat_map (message_line l.hart l.channel) (drop l.place (queue_of l.queues l.channel))) (l.initial.page ++ queue_lines l.hart l.channel l.queues)

abbrev pub decreases-loop-place : goal.decreases-loop-place
decreases-loop-place g l = l.count - l.place
