use Rattle.std.proofs.Common.{◌≡◌, ◌+◌, length}
use Rattle.run_chart.proofs.playing.events_enough.Given as goal

abbrev pub invariant-loop-rest : goal.invariant-loop-rest
invariant-loop-rest l = l.count + length l.rest ≡ length l.events

abbrev pub decreases-loop-rest : goal.decreases-loop-rest
decreases-loop-rest l = length l.rest
