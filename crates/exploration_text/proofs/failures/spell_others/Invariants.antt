use Rattle.std.proofs.Common.{◌≡◌, ◌++◌, length}
use Rattle.exploration_text.specs.Failures.{others_text}
use Rattle.exploration_text.proofs.failures.spell_others.Given as goal

abbrev pub invariant-loop-rest : goal.invariant-loop-rest
invariant-loop-rest l = l.into.items ++ others_text l.symbols l.stopped l.rest ≡ l.fn.into.items ++ others_text l.symbols l.stopped l.harts

abbrev pub decreases-loop-rest : goal.decreases-loop-rest
decreases-loop-rest l = length l.rest
