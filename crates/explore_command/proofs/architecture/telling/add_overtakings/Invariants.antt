use Rattle.std.proofs.Common.{length}
use Rattle.explore_command.proofs.Remarked.{HasTold}
use Rattle.explore_command.proofs.architecture.telling.add_overtakings.Given as goal

abbrev pub invariant-loop-rest : goal.invariant-loop-rest
invariant-loop-rest l = HasTold l.number l.initial.lines.items l.lines.items l.rest l.pairs

abbrev pub decreases-loop-rest : goal.decreases-loop-rest
decreases-loop-rest l = length l.rest
