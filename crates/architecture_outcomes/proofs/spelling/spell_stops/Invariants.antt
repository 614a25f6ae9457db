use Rattle.std.proofs.Common.{◌≡◌, ◌++◌, ◌+◌, length}
use Rattle.architecture_outcomes.specs.Text.{stop_lines}
use Rattle.architecture_outcomes.proofs.spelling.spell_stops.Given as goal

abbrev pub invariant-loop-rest : goal.invariant-loop-rest
invariant-loop-rest l = record {
  told : l.into.items ++ stop_lines l.model l.symbols l.number l.rest ≡ l.fn.into.items ++ stop_lines l.model l.symbols 1 l.failings;
  count : l.number + length l.rest ≡ 1 + length l.failings;
}

abbrev pub decreases-loop-rest : goal.decreases-loop-rest
decreases-loop-rest l = length l.rest
