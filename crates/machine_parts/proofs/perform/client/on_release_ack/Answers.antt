use Rattle.std.proofs.Common.{◌∙◌}
use Rattle.client_cache.specs.Cache.{Cache, answered}
use Rattle.machine_model.specs.Views.{Node}
use Rattle.machine_parts.specs.Parts.{standing_of}
use Rattle.machine_parts.proofs.Nodes.{changed}
use Rattle.machine_parts.proofs.perform.client.on_release_ack.Goals as goal

pub returns : goal.returns
returns c = changed c.args.hart (standing_of c.parts.inside) c.args.parts.now _ _ (λ (cache : Cache) (n : Node). record n { cache = cache }) (λ (n : Node). answered n.cache c.args.line) c.on_release_ack.new.self c.parts.view_is c.requires (c.behind-parts.view_is ∙ c.index_mut.ensures.value) c.on_release_ack.ensures
