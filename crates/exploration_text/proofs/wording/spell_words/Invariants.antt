use Rattle.std.proofs.Common.{◌≡◌, ◌++◌, length}
use Rattle.exploration_text.specs.Words.{word_fields}
use Rattle.exploration_text.proofs.wording.spell_words.Given as goal

abbrev pub invariant-loop-rest : goal.invariant-loop-rest
invariant-loop-rest l = l.into.items ++ word_fields l.rest l.values ≡ l.fn.into.items ++ word_fields l.names l.words

abbrev pub decreases-loop-rest : goal.decreases-loop-rest
decreases-loop-rest l = length l.rest
