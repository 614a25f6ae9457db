use Rattle.std.proofs.Common.{◌∙◌}
use Rattle.elf_loader.specs.Image.{byte_at}
use Rattle.rvwmo_order.proofs.Bytes.{bytes_returned}
use Rattle.rvwmo_order.proofs.judging.has_source_bytes.Goals as goal

pub returns : goal.returns
returns c = c.has_bytes.ensures ∙ bytes_returned c.args.ranking.now (byte_at c.args.image.now) c.args.a.now c.ranks_of.result c.ranks_of.ensures
