use Rattle.progress_board.specs.Seat.{IsSeatOf}
use Rattle.gate_parts_tests.proofs.drawing.sees_all_halted.Given as goal

abbrev pub invariant-loop : goal.invariant-loop
invariant-loop l = IsSeatOf l.board l.seat
