use Rattle.std.proofs.Common.{◌++◌, drop}
use Rattle.std.specs.List.{flat_map}
use Rattle.text_fields.proofs.Pages.{Spelling}
use Rattle.event_stream.specs.Holding.{waiting_lines}
use Rattle.event_stream.proofs.holding.put_queues.Given as goal

abbrev pub invariant-loop-channel : goal.invariant-loop-channel
invariant-loop-channel g l =
    Spelling (g.W.Write.contents l.initial.out) (g.W.Write.contents l.out) l.page (flat_map (waiting_lines l.hart l.queues) (drop l.channel-index l.channels)) (l.initial.page ++ flat_map (waiting_lines l.hart l.queues) l.channels)
