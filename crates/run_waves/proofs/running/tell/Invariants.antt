use Rattle.std.proofs.Common.{◌≡◌, ◌+◌, ◌++◌, length}
use Rattle.text_fields.proofs.Pages.{Spelling}
use Rattle.run_waves.specs.Waves.{lines_from}
use Rattle.run_waves.proofs.running.tell.Given as goal

abbrev pub invariant-loop-rest : goal.invariant-loop-rest
invariant-loop-rest g l = record {
  spelled : Spelling (g.W.Write.contents l.initial.out) (g.W.Write.contents l.out) l.page (lines_from l.index l.machine l.rest) (l.initial.page ++ lines_from 0 l.initial.machine l.fn.events);
  place : l.index + length l.rest ≡ length l.fn.events;
}

abbrev pub decreases-loop-rest : goal.decreases-loop-rest
decreases-loop-rest g l = length l.rest
