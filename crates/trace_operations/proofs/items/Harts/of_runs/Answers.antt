use Rattle.std.proofs.Common.{sym, subst}
use Rattle.memory_model.specs.Rules.{items_of}
use Rattle.trace_operations.specs.Placed.{GivesOwn}
use Rattle.trace_operations.proofs.Owned.{instructions_own}
use Rattle.trace_operations.proofs.items.Harts.of_runs.Goals as goal

pub invariant_of-result : goal.invariant_of-result
invariant_of-result c =
    let own = rw c.in-Some.is at c.in_ok-lists.ensures.all in
    (c.none.ensures, λ hart. subst (λ lists. GivesOwn hart (items_of lists hart)) (sym own) (instructions_own c.args.trace.now.history hart))
