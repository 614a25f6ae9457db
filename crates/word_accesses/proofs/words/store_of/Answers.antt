use Rattle.machine_model.specs.Width.{byte_count}
use Rattle.word_accesses.proofs.Numbers.{stored-again}
use Rattle.word_accesses.proofs.words.store_of.Goals as goal

pub returns : goal.returns
returns c = stored-again c.args.address (byte_count c.args.size) c.args.value c.args.op c.word_of.result c.marks_of.result c.to_le_bytes.result c.word_of.ensures c.marks_of.ensures c.to_le_bytes.ensures
