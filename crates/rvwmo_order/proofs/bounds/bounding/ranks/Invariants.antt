use Rattle.std.proofs.Common.{◌≡◌, ℕ, ◌+◌, ◌<◌, get_or, vec_len}
use Rattle.rvwmo_order.proofs.bounds.bounding.ranks.Given as goal

abbrev pub invariant-loop-place : goal.invariant-loop-place
invariant-loop-place l = record {
  long : vec_len l.ranks ≡ l.place;
  ranked : (k : ℕ) → k < l.place → get_or l.ranks.items k 0 ≡ k + 1;
}
