use Rattle.std.proofs.Common.{◌-◌, ◌++◌, drop}
use Rattle.std.specs.List.{flat_map, range_with_len}
use Rattle.text_fields.proofs.Pages.{Spelling}
use Rattle.event_stream.specs.Stalls.{notes_at, probed_hart, probed_harts}
use Rattle.event_stream.proofs.stalls.put_probed.Given as goal

abbrev pub invariant-loop-hart : goal.invariant-loop-hart
invariant-loop-hart g l =
    Spelling (g.W.Write.contents l.initial.out) (g.W.Write.contents l.out) l.page (flat_map (probed_hart (notes_at l.machine l.line)) (drop l.hart (range_with_len 0 l.machine.views.notes.harts))) (l.initial.page ++ probed_harts l.machine l.line)

abbrev pub decreases-loop-hart : goal.decreases-loop-hart
decreases-loop-hart g l = l.count - l.hart
