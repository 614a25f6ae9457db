use Rattle.std.proofs.Common.{◌≡◌, map}
use Rattle.std.specs.List.{All}
use Rattle.std.specs.Vec.Iter.{into_iter_items}
use Rattle.progress_board.proofs.Settling.{Gathers}
use Rattle.progress_board.specs.Seat.{IsSeatOf, harts_of, view}
use Rattle.progress_board.proofs.board.Board.settle.Given as goal

abbrev pub invariant-loop-seat : goal.invariant-loop-seat
invariant-loop-seat l = record {
  next : goal.iterator-loop-seat.can_next l.seat-iterator;
  finite : goal.iterator-loop-seat.is_finite l.seat-iterator;
  same : l.all.table_id ≡ l.self.table.shared.table_id;
  board : All (IsSeatOf l.self) (into_iter_items l.seat-iterator);
  gathers : Gathers (harts_of l.self) (map view l.fn.seats.items) l.all.me.0 (map view (into_iter_items l.seat-iterator));
}
