use Rattle.std.proofs.Common.{◌≡◌, ◌+◌, ◌++◌, length}
use Rattle.text_fields.specs.Fields.{numbered}
use Rattle.text_fields.proofs.Pages.{Spelling}
use Rattle.event_stream.specs.Closing.{closing_line}
use Rattle.event_stream.proofs.ClosingLines.{Sized}
use Rattle.event_stream.proofs.closing.put_statuses.Given as goal

abbrev pub invariant-loop-rest : goal.invariant-loop-rest
invariant-loop-rest g l = record {
  place : l.hart + length l.rest ≡ length l.machine.trace.statuses;
  sized : Sized l.machine;
  told : Spelling (g.W.Write.contents l.initial.out) (g.W.Write.contents l.out) l.page (numbered (closing_line l.names l.machine) l.hart l.rest) (l.initial.page ++ numbered (closing_line l.names l.machine) 0 l.machine.trace.statuses);
}

abbrev pub decreases-loop-rest : goal.decreases-loop-rest
decreases-loop-rest g l = length l.rest
