use Rattle.std.proofs.Common.{arith, rules, ap, length, List, ℕ}
use Rattle.std.proofs.lemmas.Grind.{common_steps}
use Rattle.std.proofs.lemmas.List.{map-append}
use Rattle.coherent_machine.proofs.outputs.Outputs.of.Goals as goal

pub loop-node-init : goal.loop-node-init
loop-node-init c = search rules

pub push_reserved-requires : goal.push_reserved-requires
push_reserved-requires c = grind (arith, common_steps, ap (λ (l : List (List ℕ)). length l) c.loop-node.invariant.0)

pub loop-node-smaller : goal.loop-node-smaller
loop-node-smaller c = search rules

pub loop-node-preserved : goal.loop-node-preserved
loop-node-preserved c = grind (arith, common_steps, map-append)

pub returns : goal.returns
returns c = grind (arith, common_steps)
