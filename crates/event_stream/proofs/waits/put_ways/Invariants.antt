use Rattle.std.proofs.Common.{◌-◌, ◌++◌, drop, length}
use Rattle.std.specs.List.{flat_map, range_with_len}
use Rattle.text_fields.proofs.Pages.{Spelling}
use Rattle.event_stream.specs.Closing.{way_of_set, ways_of_set}
use Rattle.event_stream.proofs.waits.put_ways.Given as goal

abbrev pub invariant-loop-number : goal.invariant-loop-number
invariant-loop-number g l =
    Spelling (g.W.Write.contents l.initial.out) (g.W.Write.contents l.out) l.page (flat_map (way_of_set l.machine l.cache l.wanted) (drop l.number (range_with_len 0 (length l.machine.views.memory)))) (l.initial.page ++ ways_of_set l.machine l.cache l.wanted)

abbrev pub decreases-loop-number : goal.decreases-loop-number
decreases-loop-number g l = l.count - l.number
