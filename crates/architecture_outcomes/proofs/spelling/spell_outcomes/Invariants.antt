use Rattle.std.proofs.Common.{◌≡◌, ◌++◌, ◌+◌, length}
use Rattle.architecture_outcomes.specs.Text.{outcome_lines}
use Rattle.architecture_outcomes.proofs.spelling.spell_outcomes.Given as goal

abbrev pub invariant-loop-rest : goal.invariant-loop-rest
invariant-loop-rest l = record {
  told : l.into.items ++ outcome_lines l.model l.names l.number l.rest ≡ l.fn.into.items ++ outcome_lines l.model l.names 1 l.outcomes;
  count : l.number + length l.rest ≡ 1 + length l.outcomes;
}

abbrev pub decreases-loop-rest : goal.decreases-loop-rest
decreases-loop-rest l = length l.rest
