use Rattle.std.proofs.Common.{◌≡◌, ◌||◌, ◌+◌, ◌≤◌, ◌++◌, length, map, vec_len, vec_capacity}
use Rattle.std.specs.Vec.Iter.{into_iter_items}
use Rattle.host_threads.specs.Faults.{first_fault, was_stopped}
use Rattle.host_threads.proofs.running.handed_back.Given as goal

abbrev pub invariant-loop-one : goal.invariant-loop-one
invariant-loop-one g l = record {
  next : (goal.iterator-loop-one g).can_next l.one-iterator;
  finite : (goal.iterator-loop-one g).is_finite l.one-iterator;
  all : vec_len l.shares + length (into_iter_items l.one-iterator) ≡ vec_len l.fn.done;
  both : vec_len l.seats ≡ vec_len l.shares;
  seats : l.seats.items ++ map (λ one. one.seat) (into_iter_items l.one-iterator) ≡ map (λ one. one.seat) l.fn.done.items;
  shares : l.shares.items ++ map (λ one. one.share) (into_iter_items l.one-iterator) ≡ map (λ one. one.share) l.fn.done.items;
  sound : first_fault (into_iter_items l.one-iterator) ≡ first_fault l.fn.done.items;
  whole : (l.stopped || was_stopped (into_iter_items l.one-iterator)) ≡ was_stopped l.fn.done.items;
  room : vec_len l.fn.done ≤ vec_capacity l.shares;
  seat_room : vec_len l.fn.done ≤ vec_capacity l.seats;
}
