use Rattle.std.proofs.Common.{◌∙◌, ap, sym}
use Rattle.machine_model.specs.Views.{State}
use Rattle.schedules.proofs.Played.{moves, played_moved, played_still, still}
use Rattle.schedules.proofs.player.Player.apply.Goals as goal

pub invariant_of-self-then-changes : goal.invariant_of-self-then-changes
invariant_of-self-then-changes c =
    let after = c.changes.ensures ∙ ap (λ (s : State). s.views.changes) c.views-in-Ok.ensures in
    let before = c.changes-changes.ensures ∙ ap (λ (s : State). s.views.changes) c.views.ensures in
    let is = moves c.self.inside.machine c.args.event c.in-Ok.outcome c.apply.new.self c.in-Ok.ensures.answers (λ same. c.if-changes.true (after ∙ same ∙ sym before)) in
    rw (c.push_reserved.ensures.items, c.reserve.ensures.items)
    (played_moved c.self.inside.machine c.self.inside.events.items c.args.event c.in-Ok.outcome c.apply.new.self is c.apply.ensures.stays c.self.invariant)

pub invariant_of-self-else-changes : goal.invariant_of-self-else-changes
invariant_of-self-else-changes c =
    let after = c.changes.ensures ∙ ap (λ (s : State). s.views.changes) c.views-in-Ok.ensures in
    let before = c.changes-changes.ensures ∙ ap (λ (s : State). s.views.changes) c.views.ensures in
    let is = still c.changes_are_counted.ensures c.self.inside.machine c.args.event c.apply.new.self c.in-Ok.ensures.ok (sym after ∙ c.if-changes.false ∙ before) in
    rw c.reserve.ensures.items (played_still c.self.inside.machine c.self.inside.events.items c.apply.new.self is c.self.invariant)
