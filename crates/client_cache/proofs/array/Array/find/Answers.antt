use Rattle.std.proofs.Common.{arith}
use Rattle.std.proofs.lemmas.Grind.{common_steps}
use Rattle.client_cache.proofs.array.Array.find.Goals as goal

pub returns-clause-looks : goal.returns-clause-looks
returns-clause-looks g c = grind (arith, common_steps)
