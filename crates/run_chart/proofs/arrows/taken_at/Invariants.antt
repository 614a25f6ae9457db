use Rattle.std.proofs.Common.{◌≡◌, length}
use Rattle.run_chart.specs.Arrows.{taken_at}
use Rattle.run_chart.proofs.arrows.taken_at.Given as goal

abbrev pub invariant-loop-rest : goal.invariant-loop-rest
invariant-loop-rest l = taken_at l.queue_number l.turns l.rest ≡ taken_at l.queue_number l.turn l.posts

abbrev pub decreases-loop-rest : goal.decreases-loop-rest
decreases-loop-rest l = length l.rest
