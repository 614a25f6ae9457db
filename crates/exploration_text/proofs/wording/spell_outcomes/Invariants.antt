use Rattle.std.proofs.Common.{◌≡◌, ◌++◌, ◌+◌, length}
use Rattle.exploration_text.specs.Words.{end_lines}
use Rattle.explorer.specs.Ends.{outcomes_of}
use Rattle.exploration_text.proofs.wording.spell_outcomes.Given as goal

abbrev pub invariant-loop-rest : goal.invariant-loop-rest
invariant-loop-rest l = record {
  told : l.into.items ++ end_lines l.names l.number (outcomes_of l.rest) ≡ l.fn.into.items ++ end_lines l.names 1 (outcomes_of l.outcomes);
  count : l.number + length l.rest ≡ 1 + length l.outcomes;
}

abbrev pub decreases-loop-rest : goal.decreases-loop-rest
decreases-loop-rest l = length l.rest
