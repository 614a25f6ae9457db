use Rattle.std.proofs.Common.{◌≡◌, ◌++◌, ◌+◌, length}
use Rattle.exploration_text.specs.Sampling.{counted_lines}
use Rattle.explorer.specs.Ends.{outcomes_of}
use Rattle.exploration_text.proofs.sampling.spell_ends.Given as goal

abbrev pub invariant-loop-rest : goal.invariant-loop-rest
invariant-loop-rest l = record {
  told : l.into.items ++ counted_lines l.number (outcomes_of l.rest) l.counts ≡ l.fn.into.items ++ counted_lines 1 (outcomes_of l.ends) l.times;
  count : l.number + length l.rest ≡ 1 + length l.ends;
}

abbrev pub decreases-loop-rest : goal.decreases-loop-rest
decreases-loop-rest l = length l.rest
