use Rattle.std.proofs.Common.{◌≡◌, ◌++◌, ◌+◌, length, map}
use Rattle.explore_command.specs.Judging.{refusal_lines}
use Rattle.explore_command.proofs.judging.refusals_of.Given as goal

-- what is told of the outcomes before is there, and that of the others is still to be told
abbrev pub invariant-loop-rest : goal.invariant-loop-rest
invariant-loop-rest g l = record {
  told : l.lines.items ++ refusal_lines l.text (l.number + 1) (map (g.T.Findings.line l.found) l.rest) ≡ refusal_lines l.text 1 (map (g.T.Findings.line l.found) (g.T.Findings.outcomes l.found));
  count : l.number + length l.rest ≡ length (g.T.Findings.outcomes l.found);
}

abbrev pub decreases-loop-rest : goal.decreases-loop-rest
decreases-loop-rest g l = length l.rest
