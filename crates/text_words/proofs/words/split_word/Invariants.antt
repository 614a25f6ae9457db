use Rattle.std.proofs.Common.{◌≡◌, ◌++◌, length, take, drop}
use Rattle.text_words.specs.Words.{word, past_word}
use Rattle.text_words.proofs.words.split_word.Given as goal

abbrev pub invariant-loop-byte : goal.invariant-loop-byte
invariant-loop-byte l = (l.length ≡ l.byte-index) × (word l.bytes ≡ take l.byte-index l.bytes ++ word (drop l.byte-index l.bytes)) × (past_word l.bytes ≡ past_word (drop l.byte-index l.bytes))
