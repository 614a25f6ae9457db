use Rattle.rv32_exec.proofs.call.Call.in_registers.Goals as goal

pub returns : goal.returns
returns c = cc
