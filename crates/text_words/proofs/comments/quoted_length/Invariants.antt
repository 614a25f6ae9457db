use Rattle.std.proofs.Common.{◌≡◌, length, take, drop}
use Rattle.text_words.specs.Comments.{uncommented, behind}
use Rattle.text_words.specs.declared.comments.Place.TheVariants.{Quotation}
use Rattle.text_words.proofs.comments.quoted_length.Given as goal

abbrev pub invariant-loop-byte : goal.invariant-loop-byte
invariant-loop-byte l = (l.length ≡ l.byte-index) × (uncommented Quotation l.bytes ≡ behind (take l.byte-index l.bytes) (uncommented Quotation (drop l.byte-index l.bytes)))
