use Rattle.std.proofs.Common.{◌≡◌, ℕ, ◌-◌, ◌≤◌}
use Rattle.rvwmo_order.specs.Touched.{touch_in, touched}
use Rattle.rvwmo_order.proofs.Words.{passed}
use Rattle.rvwmo_order.proofs.bounds.touched.pass_bytes.Given as goal

-- the bytes so far have the operation
abbrev pub invariant-loop-x : goal.invariant-loop-x
invariant-loop-x l = record {
  touched : (q : ℕ) → touch_in l.touches q ≡ passed (λ y t. touched l.ranking y l.own l.a t) l.a.address l.x q (touch_in l.fn.touches q);
  from : l.a.address ≤ l.x;
  up_to : l.x ≤ l.end;
}

abbrev pub decreases-loop-x : goal.decreases-loop-x
decreases-loop-x l = l.end - l.x
