use Rattle.std.proofs.Common.{sym, subst}
use Rattle.memory_model.specs.Rules.{items_of}
use Rattle.trace_operations.specs.Placed.{GivesOwn}
use Rattle.trace_operations.proofs.Owned.{instructions_own}
use Rattle.trace_operations.proofs.items.Harts.of.Goals as goal

pub invariant_of-result : goal.invariant_of-result
invariant_of-result c = (c.none.ensures, λ hart. subst (λ lists. GivesOwn hart (items_of lists hart)) (sym c.in_ok-instructions.ensures) (instructions_own c.args.trace.now.history hart))
