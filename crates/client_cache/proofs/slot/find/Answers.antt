use Rattle.std.proofs.lemmas.Grind.{common_steps}
use Rattle.std.proofs.Common.{arith, ◌∙◌, sym}
use Rattle.client_cache.proofs.Rows.{found_at}
use Rattle.client_cache.proofs.slot.find.Goals as goal

pub returns-then-holds-clause-found : goal.returns-then-holds-clause-found
returns-then-holds-clause-found g c = found_at c.args.line c.args.row.now c.loop-way.way _ c.look-place.result.now (omega arith) c.look-place.ensures.place (sym c.holds.ensures ∙ c.if-holds.true) c.loop-way.invariant.rest

pub loop-way-preserved : goal.loop-way-preserved
loop-way-preserved g c = grind (arith, common_steps)

pub returns-clause-missing : goal.returns-clause-missing
returns-clause-missing g c = grind (arith, common_steps)
