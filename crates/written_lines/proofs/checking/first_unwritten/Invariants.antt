use Rattle.written_lines.proofs.Passed.{IsPassed}
use Rattle.written_lines.proofs.checking.first_unwritten.Given as goal

abbrev pub invariant-loop-index : goal.invariant-loop-index
invariant-loop-index l = IsPassed l.performed l.log l.granted l.index
