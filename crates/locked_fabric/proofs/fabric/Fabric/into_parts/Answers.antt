use Rattle.std.proofs.Common.{arith, rules}
use Rattle.std.proofs.lemmas.Grind.{common_steps}
use Rattle.locked_fabric.proofs.fabric.Fabric.into_parts.Goals as goal

pub returns-clause-machine : goal.returns-clause-machine
returns-clause-machine g c = search rules

pub returns-clause-journal : goal.returns-clause-journal
returns-clause-journal g c = search rules

pub returns-clause-kept : goal.returns-clause-kept
returns-clause-kept g c = search rules

pub loop-share-init : goal.loop-share-init
loop-share-init g c = search rules

pub push_reserved-requires : goal.push_reserved-requires
push_reserved-requires g c = grind (arith, common_steps)

pub loop-share-smaller : goal.loop-share-smaller
loop-share-smaller g c = search rules

pub loop-share-preserved : goal.loop-share-preserved
loop-share-preserved g c = grind (arith, common_steps)

pub returns-clause-counts : goal.returns-clause-counts
returns-clause-counts g c = grind (arith, common_steps)

pub returns-clause-total : goal.returns-clause-total
returns-clause-total g c = grind (arith, common_steps)
