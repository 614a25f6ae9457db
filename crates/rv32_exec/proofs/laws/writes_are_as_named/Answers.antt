use Rattle.rv32_exec.proofs.WrittenRegisters.{only_named}
use Rattle.rv32_exec.proofs.laws.writes_are_as_named.Goals as goal

pub returns : goal.returns
returns c = only_named
