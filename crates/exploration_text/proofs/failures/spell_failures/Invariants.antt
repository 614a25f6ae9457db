use Rattle.std.proofs.Common.{◌≡◌, ◌++◌, ◌+◌, length}
use Rattle.exploration_text.specs.Failures.{failure_lines}
use Rattle.exploration_text.proofs.failures.spell_failures.Given as goal

abbrev pub invariant-loop-rest : goal.invariant-loop-rest
invariant-loop-rest l = record {
  told : l.into.items ++ failure_lines l.symbols l.number l.rest ≡ l.fn.into.items ++ failure_lines l.symbols 1 l.failures;
  count : l.number + length l.rest ≡ 1 + length l.failures;
}

abbrev pub decreases-loop-rest : goal.decreases-loop-rest
decreases-loop-rest l = length l.rest
