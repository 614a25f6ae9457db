use Rattle.assembly_reading.proofs.Suffixing.{split_more}
use Rattle.assembly_reading.proofs.suffix.split_suffix.Goals as goal

pub loop-length-preserved : goal.loop-length-preserved
loop-length-preserved c = split_more c.args.word.now c.loop-length.length c.is_suffix.result c.loop-length-test.true c.is_suffix.ensures c.if-is_suffix.false c.loop-length.invariant.0 c.loop-length.invariant.1
