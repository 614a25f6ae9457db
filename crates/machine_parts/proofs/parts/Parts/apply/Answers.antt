use Rattle.std.proofs.Common.{◌∙◌, ◌+◌, ◌<◌, ◌≤◌, length, arith, ap, refl, subst, sym, Ok}
use Rattle.machine_types.specs.declared.limits.TheConstants.{MAX_ENTRIES}
use Rattle.machine_model.specs.Changing.{next_place}
use Rattle.machine_model.specs.Events.{counted, entries_by}
use Rattle.machine_model.specs.Changing.{acted}
use Rattle.machine_model.specs.Ready.{IsReady, IsSound}
use Rattle.machine_model.specs.Views.{State}
use Rattle.machine_parts.proofs.Changes.{acted_keeps_changes}
use Rattle.machine_parts.proofs.Decided.{answers_kept, answers_moved, answers_refused, answers_wanting, in_list, ready, there, unstalled}
use Rattle.machine_parts.specs.Needs.{HasNeeded, needs_of}
use Rattle.machine_parts.specs.Standing.{Standing}
use Rattle.machine_parts.specs.Unstalled.{IsUnstalled}
use Rattle.machine_parts.proofs.parts.Parts.apply.Goals as goal

pub returns-in-Err : goal.returns-in-Err
returns-in-Err c = answers_refused c.args.self.now.state c.args.event.now c.in-Err.error (sym c.in-Err.ensures)

pub returns-in-Ok-Stays : goal.returns-in-Ok-Stays
returns-in-Ok-Stays c = answers_kept c.args.self.now.state c.args.event.now c.in-Ok-Stays.outcome (sym c.in-Ok-Stays.ensures ∙ ap Ok c.in-Ok-Stays.field-0-is)

pub outcome_of-outcome-requires : goal.outcome_of-outcome-requires
outcome_of-outcome-requires c = record { hart = there c.args.self.now.state c.hart_of-hart.result c.args.event.now c.in-Ok-Changes.act c.hart_of-hart.ensures (sym c.in-Ok-Changes.ensures ∙ ap Ok c.in-Ok-Changes.field-0-is) }

pub reserve-requires-clause-hart : goal.reserve-requires-clause-hart
reserve-requires-clause-hart c = there c.args.self.now.state c.hart_of-hart.result c.args.event.now c.in-Ok-Changes.act c.hart_of-hart.ensures (sym c.in-Ok-Changes.ensures ∙ ap Ok c.in-Ok-Changes.field-0-is)

pub perform-requires-clause-sound : goal.perform-requires-clause-sound
perform-requires-clause-sound c = subst IsSound (sym c.reserve.ensures.same) c.requires.sound

pub perform-requires-clause-hart : goal.perform-requires-clause-hart
perform-requires-clause-hart c =
    subst (λ (s : State). c.hart_of-hart.result < length s.views.nodes) (sym c.reserve.ensures.same)
    (there c.args.self.now.state c.hart_of-hart.result c.args.event.now c.in-Ok-Changes.act c.hart_of-hart.ensures (sym c.in-Ok-Changes.ensures ∙ ap Ok c.in-Ok-Changes.field-0-is))

pub perform-requires-clause-room : goal.perform-requires-clause-room
perform-requires-clause-room c = subst (λ (s : State). HasNeeded c.hart_of-hart.result (needs_of s c.hart_of-hart.result c.in-Ok-Changes.act) c.reserve.new.parts.room) (sym c.reserve.ensures.same) c.in_ok-reserve.ensures.room

pub reserve-requires-clause-ready : goal.reserve-requires-clause-ready
reserve-requires-clause-ready c =
    (ready c.args.self.now.state c.hart_of-hart.result c.args.event.now c.in-Ok-Changes.act c.hart_of-hart.ensures c.requires.ready (sym c.in-Ok-Changes.ensures ∙ ap Ok c.in-Ok-Changes.field-0-is)).act

pub returns-in_err-reserve : goal.returns-in_err-reserve
returns-in_err-reserve c =
    answers_wanting c.args.self.now.state c.reserve.new.parts.state c.hart_of-hart.result c.args.event.now c.in-Ok-Changes.act c.from_residual.result c.hart_of-hart.ensures (sym c.in-Ok-Changes.ensures ∙ ap Ok c.in-Ok-Changes.field-0-is)
    c.from_residual.ensures.1 c.reserve.ensures.same (λ code q. cc (c.in_err-reserve.ensures.stop code q))

pub perform-requires-clause-ready : goal.perform-requires-clause-ready
perform-requires-clause-ready c =
    subst (IsReady c.hart_of-hart.result c.in-Ok-Changes.act) (sym c.reserve.ensures.same)
    (ready c.args.self.now.state c.hart_of-hart.result c.args.event.now c.in-Ok-Changes.act c.hart_of-hart.ensures c.requires.ready (sym c.in-Ok-Changes.ensures ∙ ap Ok c.in-Ok-Changes.field-0-is))

pub perform-requires-clause-fits : goal.perform-requires-clause-fits
perform-requires-clause-fits c =
    subst (λ (s : State). next_place s c.hart_of-hart.result + entries_by c.in-Ok-Changes.act ≤ MAX_ENTRIES) (sym c.reserve.ensures.same)
    (in_list c.args.self.now.state c.hart_of-hart.result c.args.event.now c.in-Ok-Changes.act c.hart_of-hart.ensures (sym c.in-Ok-Changes.ensures ∙ ap Ok c.in-Ok-Changes.field-0-is))

pub returns-in_err-perform : goal.returns-in_err-perform
returns-in_err-perform c =
    answers_wanting c.args.self.now.state c.perform.new.parts.state c.hart_of-hart.result c.args.event.now c.in-Ok-Changes.act c.from_residual-in_err-perform.result c.hart_of-hart.ensures (sym c.in-Ok-Changes.ensures ∙ ap Ok c.in-Ok-Changes.field-0-is)
    c.from_residual-in_err-perform.ensures.1 (c.in_err-perform.ensures.err ∙ c.reserve.ensures.same) (λ code q. cc (c.in_err-perform.ensures.stop code q))

pub perform-requires-clause-unstalled : goal.perform-requires-clause-unstalled
perform-requires-clause-unstalled c =
    subst (IsUnstalled c.hart_of-hart.result c.in-Ok-Changes.act) (sym c.reserve.ensures.same)
    (unstalled c.args.self.now.state c.hart_of-hart.result c.args.event.now c.in-Ok-Changes.act c.hart_of-hart.ensures (sym c.in-Ok-Changes.ensures ∙ ap Ok c.in-Ok-Changes.field-0-is))

pub overflow_add-self : goal.overflow_add-self
overflow_add-self c =
    let same = ap (λ (p : Standing). p.state.views.changes) c.self.view_is
    ∙ ap (λ (s : State). s.views.changes) c.in_ok-perform.ensures.ok
    ∙ acted_keeps_changes c.hart_of-hart.result c.in-Ok-Changes.act c.reserve.new.parts.state
    ∙ ap (λ (s : State). s.views.changes) c.reserve.ensures.same in
    omega (arith, same, c.requires.sound.changes)

pub returns : goal.returns
returns c =
    answers_moved c.args.self.now.state _ c.hart_of-hart.result c.args.event.now c.in-Ok-Changes.act c.outcome_of-outcome.result _ c.hart_of-hart.ensures (sym c.in-Ok-Changes.ensures ∙ ap Ok c.in-Ok-Changes.field-0-is) c.outcome_of-outcome.ensures
    refl (ap counted (ap (λ (p : Standing). p.state) c.self.view_is ∙ c.in_ok-perform.ensures.ok ∙ ap (acted c.hart_of-hart.result c.in-Ok-Changes.act) c.reserve.ensures.same))
