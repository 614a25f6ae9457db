use Rattle.std.proofs.Common.{ℕ, Option, ap, subst, ◌∙◌}
use Rattle.machine_model.specs.Views.{State, node_at}
use Rattle.text_fields.specs.Pages.{Spells}
use Rattle.event_stream.specs.Holding.{reservation_line}
use Rattle.event_stream.proofs.holding.put_own_reservation.Goals as goal

pub returns : goal.returns
returns g c =
    let W = g.W.Write.contents in
    subst (λ (x : Option ℕ). Spells (W c.args.out.now) (W c.put_reservation.new.out) c.args.page.now c.put_reservation.new.page (reservation_line c.args.hart x) c.put_reservation.result)
    (c.reserved.ensures ∙ ap (λ (s : State). (node_at s c.args.hart).reserved) c.views.ensures) c.put_reservation.ensures
