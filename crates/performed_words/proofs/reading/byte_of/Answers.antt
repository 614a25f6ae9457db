use Rattle.std.proofs.Common.{sym, arith}
use Rattle.trace_operations.proofs.Bytes.{far_byte}
use Rattle.performed_words.proofs.reading.byte_of.Goals as goal

pub returns-in_default : goal.returns-in_default
returns-in_default c = sym (far_byte c.args.word c.args.index (omega arith) (omega arith))
