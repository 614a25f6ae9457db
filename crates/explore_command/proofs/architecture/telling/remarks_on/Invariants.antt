use Rattle.std.proofs.Common.{◌≡◌, ◌+◌, length}
use Rattle.explore_command.proofs.Remarked.{HasToldWays}
use Rattle.explore_command.proofs.architecture.telling.remarks_on.Given as goal

abbrev pub invariant-loop-rest : goal.invariant-loop-rest
invariant-loop-rest l = record {
  told : HasToldWays l.number l.lines.items l.rest l.outcomes;
  count : l.number + length l.rest ≡ 1 + length l.outcomes;
}

abbrev pub decreases-loop-rest : goal.decreases-loop-rest
decreases-loop-rest l = length l.rest
