use Rattle.std.proofs.lemmas.Grind.{common_steps}
use Rattle.std.proofs.Common.{arith}
use Rattle.rv32_exec.proofs.planning.plan.Goals as goal

pub returns-in-Jalr-clause-value : goal.returns-in-Jalr-clause-value
returns-in-Jalr-clause-value c = grind (arith, common_steps)

pub returns-in-Jalr-clause-of_meaning : goal.returns-in-Jalr-clause-of_meaning
returns-in-Jalr-clause-of_meaning c = grind (arith, common_steps)
