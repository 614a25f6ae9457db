use Rattle.std.proofs.Common.{◌≡◌, ℕ, ◌-◌, ◌≤◌, max}
use Rattle.rvwmo_order.specs.Sourcing.{latest_at}
use Rattle.rvwmo_order.proofs.Words.{passed}
use Rattle.rvwmo_order.proofs.latest.Latest.raise.Given as goal

-- the bytes so far have the rank
abbrev pub invariant-loop-x : goal.invariant-loop-x
invariant-loop-x l = record {
  raised : (q : ℕ) → latest_at l.self.words q ≡ passed (λ y n. max n l.rank) l.a.address l.x q (latest_at l.fn.self.words q);
  from : l.a.address ≤ l.x;
  up_to : l.x ≤ l.end;
}

abbrev pub decreases-loop-x : goal.decreases-loop-x
decreases-loop-x l = l.end - l.x
