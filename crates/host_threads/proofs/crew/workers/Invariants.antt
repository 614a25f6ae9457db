use Rattle.std.proofs.Common.{◌≡◌, ◌+◌, ◌++◌, ◌≤◌, map, reverse, vec_len, vec_capacity}
use Rattle.std.specs.List.{All}
use Rattle.progress_board.specs.Seat.{AreFresh, IsSeatOf, view}
use Rattle.host_threads.specs.Workers.{common_of, counted_by, told_by, turn_of}
use Rattle.host_threads.proofs.crew.workers.Given as goal

abbrev pub invariant-loop-hart : goal.invariant-loop-hart
invariant-loop-hart g l = record {
  board : All (λ seat. IsSeatOf l.common.board seat) l.seats.items;
  opening : All (λ share. share ≡ 0) l.shares.items;
  common : All (λ worker. common_of worker ≡ l.common) l.made.items;
  opened : All (λ worker. counted_by worker ≡ 0) l.made.items;
  told : map view l.seats.items ++ reverse (map told_by l.made.items) ≡ map view l.initial.seats.items;
  dealt : l.turns.items ++ reverse (map turn_of l.made.items) ≡ l.initial.turns.items;
  fresh : AreFresh l.seats.items;
  seats : vec_len l.seats ≡ l.hart;
  shares : vec_len l.shares ≡ l.hart;
  turns : vec_len l.turns ≡ l.hart;
  made : vec_len l.made + l.hart ≡ l.harts;
  room : l.harts ≤ vec_capacity l.made;
}
