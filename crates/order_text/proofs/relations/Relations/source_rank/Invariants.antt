use Rattle.std.proofs.Common.{◌&&◌, ◌||◌}
use Rattle.std.specs.Prelude.{nat_lt}
use Rattle.memory_model.specs.Operations.{precedes}
use Rattle.rvwmo_order.specs.Sourcing.{IsLast}
use Rattle.order_text.proofs.relations.Relations.source_rank.Given as goal

abbrev pub invariant-loop-place : goal.invariant-loop-place
invariant-loop-place l = IsLast l.store-items l.x (λ j s. nat_lt j l.place && (nat_lt j l.position || precedes s l.load)) l.rank
