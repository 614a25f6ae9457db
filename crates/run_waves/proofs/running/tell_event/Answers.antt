use Rattle.std.proofs.Common.{◌∙◌, ◌++◌, ℕ, List, subst}
use Rattle.text_fields.specs.Pages.{Paged}
use Rattle.text_fields.specs.Writing.{Begins}
use Rattle.text_fields.proofs.Pages.{page_stops}
use Rattle.run_waves.proofs.Paging.{spells_nothing}
use Rattle.run_waves.proofs.Stepping.{event_told}
use Rattle.run_waves.proofs.running.tell_event.Goals as goal

pub returns-in_err-step-clause-told : goal.returns-in_err-step-clause-told
returns-in_err-step-clause-told g c = spells_nothing _ _ _ _ _ c.from_residual.ensures.0

pub returns-in_err-put_event-clause-told : goal.returns-in_err-put_event-clause-told
returns-in_err-put_event-clause-told g c =
    page_stops _ _ _ _ _ _ c.from_residual-in_err-put_event.ensures.0
    (subst (λ (t : List ℕ). Begins (g.W.Write.contents c.args.out.now) (g.W.Write.contents c.put_event.new.out) (c.args.page.now ++ t))
    (event_told c.args.index c.args.machine.now _ c.args.event _ c.in_ok-step.ensures.moved (c.as_slice.ensures.value ∙ c.in_ok-step.ensures.seen)) c.in_err-put_event.ensures)

pub returns-clause-told : goal.returns-clause-told
returns-clause-told g c =
    subst (λ (t : List ℕ). Paged (g.W.Write.contents c.args.out.now) (g.W.Write.contents c.put_event.new.out) c.args.page.now c.put_event.new.page t)
    (event_told c.args.index c.args.machine.now _ c.args.event _ c.in_ok-step.ensures.moved (c.as_slice.ensures.value ∙ c.in_ok-step.ensures.seen)) c.in_ok-put_event.ensures
