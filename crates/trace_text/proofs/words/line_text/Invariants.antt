use Rattle.std.proofs.Common.{length}
use Rattle.trace_text.specs.Causes.{is_feed}
use Rattle.trace_text.proofs.Found.{Sought}
use Rattle.trace_text.proofs.words.line_text.Given as goal

abbrev pub invariant-loop-rest : goal.invariant-loop-rest
invariant-loop-rest l = Sought is_feed l.bytes l.rest

abbrev pub decreases-loop-rest : goal.decreases-loop-rest
decreases-loop-rest l = length l.rest
