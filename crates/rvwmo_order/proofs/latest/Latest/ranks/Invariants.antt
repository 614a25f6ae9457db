use Rattle.std.proofs.Common.{◌≡◌, ℕ, ◌+◌, ◌<◌, length}
use Rattle.std.specs.Prelude.{slice_index_or}
use Rattle.rvwmo_order.specs.Sourcing.{latest_at}
use Rattle.rvwmo_order.proofs.latest.Latest.ranks.Given as goal

abbrev pub invariant-loop-offset : goal.invariant-loop-offset
invariant-loop-offset l = record {
  known : (i : ℕ) → i < l.offset → i < l.a.size → slice_index_or l.ranks i 0 ≡ latest_at l.self.words (l.a.address + i);
  long : length l.ranks ≡ 4;
}
