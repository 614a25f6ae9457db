use Rattle.rv32_exec.proofs.StopLaws.{decided_first}
use Rattle.rv32_exec.proofs.laws.stops_are_decided_first.Goals as goal

pub returns : goal.returns
returns c = decided_first
