use Rattle.std.proofs.Common.{◌-◌, ◌++◌, drop}
use Rattle.std.specs.List.{flat_map, range_with_len}
use Rattle.text_fields.proofs.Pages.{Spelling}
use Rattle.event_stream.specs.Holding.{register_line}
use Rattle.event_stream.proofs.holding.put_file.Given as goal

abbrev pub invariant-loop-number : goal.invariant-loop-number
invariant-loop-number g l =
    Spelling (g.W.Write.contents l.initial.out) (g.W.Write.contents l.out) l.page (flat_map (register_line l.hart l.registers) (drop l.number (range_with_len 0 32))) (l.initial.page ++ flat_map (register_line l.hart l.registers) (range_with_len 0 32))

abbrev pub decreases-loop-number : goal.decreases-loop-number
decreases-loop-number g l = 32 - l.number
