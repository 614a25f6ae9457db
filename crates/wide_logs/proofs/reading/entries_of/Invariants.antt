use Rattle.std.proofs.Common.{length}
use Rattle.wide_logs.specs.Stops.{Passed}
use Rattle.wide_logs.proofs.reading.entries_of.Given as goal

abbrev pub invariant-loop-rest : goal.invariant-loop-rest
invariant-loop-rest l = Passed l.shape l.bytes l.entries.items l.rest

abbrev pub decreases-loop-rest : goal.decreases-loop-rest
decreases-loop-rest l = length l.rest
