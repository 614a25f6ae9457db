use Rattle.std.proofs.Common.{◌≡◌, ◌≤◌, ◌<◌, ◌+◌, ℕ, length, max, take}
use Rattle.std.specs.Prelude.{slice_index_or, sum_by}
use Rattle.memory_model.specs.Operations.{addresses_of}
use Rattle.rvwmo_order.specs.Looks.{looks_at}
use Rattle.rvwmo_order.specs.Sourcing.{latest_at}
use Rattle.rvwmo_order.proofs.sourcing.ranks_found.Given as goal

-- the bytes so far have their ranks, with as many looks
abbrev pub invariant-loop-offset : goal.invariant-loop-offset
invariant-loop-offset g l = record {
  long : length l.ranks ≡ 4;
  known : (i : ℕ) → i < l.offset → slice_index_or l.ranks i 0 ≡ max (latest_at l.latest.words (l.a.address + i)) (slice_index_or l.own i 0);
  looks : (most : ℕ → ℕ) → ((i : ℕ) → i < l.a.size → looks_at (latest_at l.latest.words (l.a.address + i)) (slice_index_or l.own i 0) ≤ most (l.a.address + i))
      → l.ticks ≤ l.fn.ticks + sum_by most (take l.offset (addresses_of l.a));
}
