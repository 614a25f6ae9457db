use Rattle.std.proofs.Common.{◌≡◌, ◌++◌, length}
use Rattle.std.specs.Prelude.{filter}
use Rattle.order_text.specs.Neighbours.{is_asked, rules_between}
use Rattle.order_text.proofs.rules.rules_between.Given as goal

abbrev pub invariant-loop-left : goal.invariant-loop-left
invariant-loop-left l =
    l.rules.items ++ filter (is_asked l.model l.items l.relations l.a l.b) l.left ≡ rules_between l.model l.items l.relations l.a l.b

abbrev pub decreases-loop-left : goal.decreases-loop-left
decreases-loop-left l = length l.left
