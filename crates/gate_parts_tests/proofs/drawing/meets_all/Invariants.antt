use Rattle.progress_board.specs.Seat.{IsSeatOf}
use Rattle.gate_parts_tests.proofs.drawing.meets_all.Given as goal

abbrev pub invariant-loop-hart : goal.invariant-loop-hart
invariant-loop-hart l = IsSeatOf l.board l.seat
