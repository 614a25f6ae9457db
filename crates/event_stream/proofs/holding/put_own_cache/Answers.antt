use Rattle.std.proofs.Common.{ap, subst, ◌∙◌}
use Rattle.client_cache.specs.Cache.{Cache}
use Rattle.machine_model.specs.Views.{State, node_at}
use Rattle.text_fields.specs.Pages.{Spells}
use Rattle.event_stream.specs.Holding.{cache_lines}
use Rattle.event_stream.proofs.holding.put_own_cache.Goals as goal

pub returns : goal.returns
returns g c =
    let W = g.W.Write.contents in
    subst (λ (x : Cache). Spells (W c.args.out.now) (W c.put_cache.new.out) c.args.page.now c.put_cache.new.page (cache_lines c.args.machine.now c.args.hart x) c.put_cache.result)
    (c.cache.ensures ∙ ap (λ (s : State). (node_at s c.args.hart).cache) c.views.ensures) c.put_cache.ensures
