use Rattle.std.proofs.Common.{◌≡◌, length, take, drop}
use Rattle.text_words.specs.Comments.{uncommented, behind}
use Rattle.text_words.specs.declared.comments.Place.TheVariants.{Text}
use Rattle.text_words.proofs.comments.text_length.Given as goal

abbrev pub invariant-loop-byte : goal.invariant-loop-byte
invariant-loop-byte l = (l.length ≡ l.byte-index) × (uncommented Text l.bytes ≡ behind (take l.byte-index l.bytes) (uncommented Text (drop l.byte-index l.bytes)))
