use Rattle.rvwmo_order.specs.Sourcing.{GivesOwn, is_come}
use Rattle.rvwmo_order.proofs.sourcing.own_stores.Given as goal

abbrev pub invariant-loop-hart : goal.invariant-loop-hart
invariant-loop-hart l = GivesOwn l.order l.own.items (is_come l.hart 0)
