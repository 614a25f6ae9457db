use Rattle.std.proofs.Common.{ℕ, ◌<◌, ◌≤◌}
use Rattle.rvwmo_order.specs.Touched.{touch_in}
use Rattle.rvwmo_order.proofs.bounds.walking.Walk.accesses.Given as goal

abbrev pub invariant-loop-x : goal.invariant-loop-x
invariant-loop-x l = (q : ℕ) → l.b.address ≤ q → q < l.x → (touch_in l.self.touches q).all ≤ l.most
