use Rattle.std.proofs.Common.{length}
use Rattle.trace_text.specs.Causes.{ends_word}
use Rattle.trace_text.proofs.Found.{Sought}
use Rattle.trace_text.proofs.words.word_text.Given as goal

abbrev pub invariant-loop-rest : goal.invariant-loop-rest
invariant-loop-rest l = Sought ends_word l.bytes l.rest

abbrev pub decreases-loop-rest : goal.decreases-loop-rest
decreases-loop-rest l = length l.rest
