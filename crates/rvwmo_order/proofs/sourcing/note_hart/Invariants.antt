use Rattle.std.proofs.Common.{ℕ}
use Rattle.rvwmo_order.specs.Sourcing.{GivesOwn, IsLast, is_come, is_own_before, latest_at}
use Rattle.rvwmo_order.proofs.sourcing.note_hart.Given as goal

abbrev pub invariant-loop-place : goal.invariant-loop-place
invariant-loop-place l = record {
  latest : (x : ℕ) → IsLast l.order x (is_own_before l.hart l.place) (latest_at l.latest.words x);
  gives : GivesOwn l.order l.own (is_come l.hart l.place);
}
