use Rattle.std.proofs.Common.{ℕ, ◌<◌, ◌∙◌, None, ap, subst, sym}
use Rattle.machine_model.specs.Changing.{with_reservation}
use Rattle.machine_parts.proofs.Nodes.{kept_on}
use Rattle.machine_parts.proofs.perform.deed.store_conditional.Goals as goal

pub end_reservation-requires : goal.end_reservation-requires
end_reservation-requires c = record { hart = subst (λ (n : ℕ). c.args.hart < n) (sym c.update.ensures.kept.nodes) c.requires.hart }

pub returns-clause-state : goal.returns-clause-state
returns-clause-state c = c.end_reservation.ensures.state ∙ ap (with_reservation c.args.hart None) c.update.ensures.state

pub returns-clause-kept : goal.returns-clause-kept
returns-clause-kept c = kept_on c.args.parts.now c.update.new.parts c.end_reservation.new.parts c.update.ensures.kept c.end_reservation.ensures.kept
