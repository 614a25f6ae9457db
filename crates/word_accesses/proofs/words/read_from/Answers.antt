use Rattle.std.proofs.Common.{rules, arith, ◌%◌}
use Rattle.word_accesses.proofs.Numbers.{read-byte, read-half, read-word}
use Rattle.word_accesses.proofs.words.read_from.Goals as goal

pub returns-in-Byte : goal.returns-in-Byte
returns-in-Byte c = rw (c.in-Byte.is) (read-byte c.args.word (c.args.address % 4) c.from_le_bytes.result (search rules) (omega arith) c.from_le_bytes.ensures)

pub returns-in-Half : goal.returns-in-Half
returns-in-Half c = rw (c.in-Half.is) (read-half c.args.word (c.args.address % 4) c.from_le_bytes.result (search rules) (omega arith) c.from_le_bytes.ensures)

pub returns-in-Word : goal.returns-in-Word
returns-in-Word c = rw (c.in-Word.is) (read-word c.args.word (c.args.address % 4) c.from_le_bytes.result (search rules) (omega arith) (search rules) (search rules) c.from_le_bytes.ensures)
