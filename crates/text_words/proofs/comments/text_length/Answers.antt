use Rattle.text_words.proofs.Blanking.{text_more}
use Rattle.std.proofs.Common.{arith}
use Rattle.text_words.proofs.comments.text_length.Goals as goal

pub loop-byte-preserved : goal.loop-byte-preserved
loop-byte-preserved c = (omega arith, text_more c.args.bytes.now c.loop-byte.byte-index c.loop-byte-test.true c.if-byte-eq34.false c.if-byte-eq40.false c.loop-byte.invariant.1)
