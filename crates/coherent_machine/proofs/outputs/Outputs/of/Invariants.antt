use Rattle.std.proofs.Common.{◌≡◌, ◌++◌, ◌≤◌, map, ℕ, Vec, Global}
use Rattle.std.specs.Vec.{vec_capacity}
use Rattle.std.specs.Vec.Iter.{into_iter_items}
use Rattle.machine_model.specs.Views.{Node}
use Rattle.coherent_machine.proofs.outputs.Outputs.of.Given as goal

abbrev pub invariant-loop-node : goal.invariant-loop-node
invariant-loop-node l =
    (map (λ (output : Vec ℕ Global). output.items) l.lists.items ++ map (λ (node : Node). node.output) (into_iter_items l.node-iterator) ≡ map (λ (node : Node). node.output) l.fn.nodes.items)
    × (8 ≤ vec_capacity l.lists)
