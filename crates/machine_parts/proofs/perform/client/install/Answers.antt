use Rattle.std.proofs.Common.{◌∙◌}
use Rattle.client_cache.specs.Cache.{Cache, granted}
use Rattle.machine_model.specs.Views.{Node}
use Rattle.machine_parts.specs.Parts.{standing_of}
use Rattle.machine_parts.proofs.Nodes.{changed}
use Rattle.machine_parts.proofs.perform.client.install.Goals as goal

pub returns-clause-state : goal.returns-clause-state
returns-clause-state c = changed c.args.hart (standing_of c.parts.inside) c.args.parts.now _ _ (λ (cache : Cache) (n : Node). record n { cache = cache }) (λ (n : Node). granted n.cache c.args.line c.args.cap c.args.bytes) c.on_grant.new.self c.parts.view_is c.requires.hart (c.behind-parts.view_is ∙ c.index_mut.ensures.value) c.on_grant.ensures
