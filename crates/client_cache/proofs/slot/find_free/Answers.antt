use Rattle.client_cache.proofs.Rows.{free_at}
use Rattle.std.proofs.Common.{arith, ◌∙◌, sym}
use Rattle.std.proofs.lemmas.Grind.{common_steps}
use Rattle.client_cache.proofs.slot.find_free.Goals as goal

pub loop-way-preserved : goal.loop-way-preserved
loop-way-preserved g c = grind (arith, common_steps)

pub returns-clause-full : goal.returns-clause-full
returns-clause-full g c = grind (arith, common_steps)

pub returns-then-not-is_used-clause-found : goal.returns-then-not-is_used-clause-found
returns-then-not-is_used-clause-found g c = free_at c.args.row.now c.loop-way.way _ c.look-place.result.now (omega arith) c.look-place.ensures.place (sym c.is_used.ensures ∙ c.if-not-is_used.true)
