use Rattle.std.proofs.Common.{◌≡◌, length}
use Rattle.text_words.specs.Words.{skip}
use Rattle.text_words.proofs.blanks.skip_blanks.Given as goal

abbrev pub invariant-loop-rest : goal.invariant-loop-rest
invariant-loop-rest l = skip l.rest ≡ skip l.bytes

abbrev pub decreases-loop-rest : goal.decreases-loop-rest
decreases-loop-rest l = length l.rest
