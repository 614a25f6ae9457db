use Rattle.std.proofs.Common.{◌-◌, ◌++◌, drop}
use Rattle.store_buffer.specs.Groups.{groups_of}
use Rattle.text_fields.specs.Fields.{numbered}
use Rattle.text_fields.proofs.Pages.{Spelling}
use Rattle.event_stream.specs.Holding.{buffer_lines, group_lines}
use Rattle.event_stream.proofs.holding.put_buffer.Given as goal

abbrev pub invariant-loop-index : goal.invariant-loop-index
invariant-loop-index g l =
    Spelling (g.W.Write.contents l.initial.out) (g.W.Write.contents l.out) l.page (numbered (group_lines l.hart) l.index (drop l.index (groups_of l.buffer))) (l.initial.page ++ buffer_lines l.hart l.buffer)

abbrev pub decreases-loop-index : goal.decreases-loop-index
decreases-loop-index g l = l.count - l.index
