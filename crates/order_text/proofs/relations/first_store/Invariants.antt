use Rattle.std.proofs.Common.{◌≡◌, find, length}
use Rattle.order_text.specs.Links.{is_other_store}
use Rattle.order_text.proofs.relations.first_store.Given as goal

abbrev pub invariant-loop-rest : goal.invariant-loop-rest
invariant-loop-rest l = find (is_other_store l.x l.a) l.order ≡ find (is_other_store l.x l.a) l.rest

abbrev pub decreases-loop-rest : goal.decreases-loop-rest
decreases-loop-rest l = length l.rest
