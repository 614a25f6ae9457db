use Rattle.std.proofs.Common.{◌≡◌, length, reverse}
use Rattle.text_words.specs.Words.{skip}
use Rattle.litmus_command.proofs.files.unpadded.Given as goal

abbrev pub invariant-loop-rest : goal.invariant-loop-rest
invariant-loop-rest l = skip (reverse l.rest) ≡ skip (reverse l.line)

abbrev pub decreases-loop-rest : goal.decreases-loop-rest
decreases-loop-rest l = length l.rest
