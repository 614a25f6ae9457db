use Rattle.std.proofs.Common.{◌≡◌, ◌++◌, length}
use Rattle.fence_audit.specs.Text.{ordering_texts}
use Rattle.fence_audit.proofs.spelling.spell_orderings.Given as goal

abbrev pub invariant-loop-rest : goal.invariant-loop-rest
invariant-loop-rest l = l.into.items ++ ordering_texts l.names l.symbols l.audit l.previous l.rest ≡ l.initial.into.items ++ ordering_texts l.names l.symbols l.audit 0 l.audit.orderings.items

abbrev pub decreases-loop-rest : goal.decreases-loop-rest
decreases-loop-rest l = length l.rest
