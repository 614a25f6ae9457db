use Rattle.std.proofs.lemmas.Grind.{common_steps}
use Rattle.std.proofs.Common.{arith}
use Rattle.rv32_exec.proofs.arithmetic.computed.Goals as goal

pub overflow_mul-from-in-Mulhsu : goal.overflow_mul-from-in-Mulhsu
overflow_mul-from-in-Mulhsu c = grind (arith, common_steps)

pub returns-in-Sll : goal.returns-in-Sll
returns-in-Sll c = grind (arith, common_steps)

pub returns-in-Srl : goal.returns-in-Srl
returns-in-Srl c = grind (arith, common_steps)

pub returns-in-Sra : goal.returns-in-Sra
returns-in-Sra c = grind (arith, common_steps)

pub returns-in-Mulh : goal.returns-in-Mulh
returns-in-Mulh c = grind (arith, common_steps)

pub returns-in-Mulhsu : goal.returns-in-Mulhsu
returns-in-Mulhsu c = grind (arith, common_steps)
