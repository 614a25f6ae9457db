use Rattle.std.proofs.Common.{◌≡◌, ◌≤◌, ◌+◌, ℕ, length, take}
use Rattle.std.specs.Prelude.{nat_lt, sum_by}
use Rattle.rvwmo_order.specs.Looks.{stores_read}
use Rattle.rvwmo_order.specs.Sourcing.{IsLast, latest_at}
use Rattle.rvwmo_order.proofs.Kept.{EachGiven}
use Rattle.rvwmo_order.proofs.sourcing.last_stores.Given as goal

abbrev pub invariant-loop-position : goal.invariant-loop-position
invariant-loop-position g l = record {
  latest : (x : ℕ) → IsLast l.order x (λ j s. nat_lt j l.position) (latest_at l.latest.words x);
  many : length l.sources.items ≡ l.position;
  each : EachGiven l.order l.sources.items;
  looks : l.ticks ≤ l.fn.ticks + sum_by (stores_read l.order) (take l.position l.order);
}
