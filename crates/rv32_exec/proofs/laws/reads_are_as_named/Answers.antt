use Rattle.rv32_exec.proofs.ReadRegisters.{address, data_read, meaning_read}
use Rattle.rv32_exec.proofs.laws.reads_are_as_named.Goals as goal

pub returns-clause-address : goal.returns-clause-address
returns-clause-address c = address

pub returns-clause-data : goal.returns-clause-data
returns-clause-data c = data_read

pub returns-clause-meaning : goal.returns-clause-meaning
returns-clause-meaning c = meaning_read
