use Rattle.std.proofs.Common.{◌≡◌, ◌+◌, length}
use Rattle.coherent_machine.specs.Machine.{IsReached}
use Rattle.event_stream.specs.Disassembly.{AreKept}
use Rattle.event_stream.proofs.Telling.{Told}
use Rattle.event_stream.proofs.writing.tell.Given as goal

abbrev pub invariant-loop-rest : goal.invariant-loop-rest
invariant-loop-rest g l = record {
  told : Told l.fn.names l.fn.strictness l.fn.machine l.fn.events l.index l.machine l.rest (g.W.Write.contents l.initial.out) (g.W.Write.contents l.out) l.initial.page l.page;
  place : l.index + length l.rest ≡ length l.fn.events;
  reached : IsReached l.machine;
  kept : AreKept l.fn.names l.instructions;
}

abbrev pub decreases-loop-rest : goal.decreases-loop-rest
decreases-loop-rest g l = length l.rest
