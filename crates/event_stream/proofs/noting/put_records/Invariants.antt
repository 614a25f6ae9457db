use Rattle.std.proofs.Common.{◌-◌, ◌++◌, drop}
use Rattle.std.specs.List.{flat_map, range_with_len}
use Rattle.text_fields.proofs.Pages.{Spelling}
use Rattle.event_stream.specs.Noted.{record_at, records_of}
use Rattle.event_stream.proofs.noting.put_records.Given as goal

abbrev pub invariant-loop-hart : goal.invariant-loop-hart
invariant-loop-hart g l =
    Spelling (g.W.Write.contents l.initial.out) (g.W.Write.contents l.out) l.page (flat_map (record_at l.machine l.number) (drop l.hart (range_with_len 0 l.machine.views.notes.harts))) (l.initial.page ++ records_of l.machine l.number)

abbrev pub decreases-loop-hart : goal.decreases-loop-hart
decreases-loop-hart g l = l.count - l.hart
