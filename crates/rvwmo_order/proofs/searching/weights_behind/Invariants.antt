use Rattle.std.proofs.Common.{◌≡◌, ℕ, ◌-◌, ◌<◌, get_or, vec_len}
use Rattle.rvwmo_order.proofs.searching.weights_behind.Given as goal

abbrev pub invariant-loop-other : goal.invariant-loop-other
invariant-loop-other l = record {
  long : vec_len l.weights ≡ l.other;
  weighed : (k : ℕ) → l.fn.place < k → k < l.other → get_or l.weights.items k 0 ≡ l.fn.count - k;
}
