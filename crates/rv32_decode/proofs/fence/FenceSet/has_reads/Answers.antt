use Rattle.std.proofs.Common.{◌∙◌}
use Rattle.rv32_decode.proofs.Masks.{has_second_bit}
use Rattle.rv32_decode.proofs.fence.FenceSet.has_reads.Goals as goal

pub returns : goal.returns
returns c = c.contains.ensures tt ∙ has_second_bit c.args.self.0
