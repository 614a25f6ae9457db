use Rattle.std.proofs.Common.{ap, subst, ◌∙◌}
use Rattle.hart.specs.declared.state.Hart.{Hart}
use Rattle.machine_model.specs.Views.{State, node_at}
use Rattle.text_fields.specs.Pages.{Spells}
use Rattle.event_stream.specs.Holding.{registers}
use Rattle.event_stream.proofs.holding.put_own_registers.Goals as goal

pub returns : goal.returns
returns g c =
    let W = g.W.Write.contents in
    subst (λ (x : Hart). Spells (W c.args.out.now) (W c.put_registers.new.out) c.args.page.now c.put_registers.new.page (registers c.args.hart x) c.put_registers.result)
    (c.hart.ensures ∙ ap (λ (s : State). (node_at s c.args.hart).hart) c.views.ensures) c.put_registers.ensures
