use Rattle.std.proofs.Common.{◌≡◌, ◌++◌, codes, length}
use Rattle.fence_audit.specs.Text.{items_text}
use Rattle.fence_audit.proofs.spelling.spell_items.Given as goal

abbrev pub invariant-loop-rest : goal.invariant-loop-rest
invariant-loop-rest l = l.into.items ++ items_text l.before l.last l.rest ≡ l.initial.into.items ++ items_text (codes ": ") l.last l.orderings

abbrev pub decreases-loop-rest : goal.decreases-loop-rest
decreases-loop-rest l = length l.rest
