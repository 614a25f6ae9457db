use Rattle.std.proofs.lemmas.Grind.{common_steps}
use Rattle.std.proofs.Common.{arith}
use Rattle.rv32_exec.proofs.planning.plan_store.Goals as goal

pub returns-in-Sb : goal.returns-in-Sb
returns-in-Sb c = grind (arith, common_steps)

pub returns-in-Sh : goal.returns-in-Sh
returns-in-Sh c = grind (arith, common_steps)
