use Rattle.std.proofs.Common.{◌-◌, ◌++◌, drop, length}
use Rattle.std.specs.List.{flat_map, range_with_len}
use Rattle.text_fields.proofs.Pages.{Spelling}
use Rattle.event_stream.specs.States.{changed_at, changed_lines}
use Rattle.event_stream.proofs.state.put_changed.Given as goal

abbrev pub invariant-loop-number : goal.invariant-loop-number
invariant-loop-number g l =
    Spelling (g.W.Write.contents l.initial.out) (g.W.Write.contents l.out) l.page (flat_map (changed_at l.machine) (drop l.number (range_with_len 0 (length l.machine.views.memory)))) (l.initial.page ++ changed_lines l.machine)

abbrev pub decreases-loop-number : goal.decreases-loop-number
decreases-loop-number g l = l.count - l.number
