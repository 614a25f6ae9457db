use Rattle.text_words.proofs.Blanking.{quoted_more}
use Rattle.std.proofs.Common.{arith}
use Rattle.text_words.proofs.comments.quoted_length.Goals as goal

pub loop-byte-preserved : goal.loop-byte-preserved
loop-byte-preserved c = (omega arith, quoted_more c.args.bytes.now c.loop-byte.byte-index c.loop-byte-test.true c.if-byte-eq34.false c.if-byte-eq10.false c.loop-byte.invariant.1)
