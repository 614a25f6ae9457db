use Rattle.std.proofs.Common.{◌∙◌}
use Rattle.machine_model.specs.Views.{Node}
use Rattle.machine_parts.specs.Parts.{standing_of}
use Rattle.store_buffer.specs.Groups.{Groups, after_seal}
use Rattle.machine_parts.proofs.Nodes.{changed, lists_kept}
use Rattle.machine_parts.proofs.perform.deed.seal.Goals as goal

pub returns-clause-state : goal.returns-clause-state
returns-clause-state c = changed c.args.hart (standing_of c.parts.inside) c.args.parts.now _ _ (λ (b : Groups) (n : Node). record n { buffer = b }) (λ (n : Node). after_seal n.buffer) c.seal.new.self c.parts.view_is c.requires.hart (c.behind-parts.view_is ∙ c.index_mut.ensures.value) c.seal.ensures

pub returns-clause-kept : goal.returns-clause-kept
returns-clause-kept c = lists_kept c.args.hart _ (standing_of c.parts.inside) c.args.parts.now c.parts.view_is
