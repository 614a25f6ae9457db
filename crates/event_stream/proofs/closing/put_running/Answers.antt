use Rattle.std.proofs.Common.{[], sym, subst, ◌∙◌, ◌++◌, ◌∷◌, append_assoc, Result}
use Rattle.std.specs.Prelude.{codes}
use Rattle.hart.specs.declared.status.Status.TheVariants.{Running}
use Rattle.machine_types.specs.declared.outcome.Outcome.{Outcome}
use Rattle.coherent_machine.specs.ApplyError.{ApplyError}
use Rattle.text_fields.specs.Pages.{Paged}
use Rattle.text_fields.specs.Writing.{Begins}
use Rattle.text_fields.proofs.Pages.{page_fails, page_more, page_stops}
use Rattle.trace_text.specs.Traces.{status_ended}
use Rattle.event_stream.specs.Closing.{answer, foreseen, next_text}
use Rattle.event_stream.proofs.ClosingLines.{running_line}
use Rattle.event_stream.proofs.Paging.{page_last, room_fails, room_spelled}
use Rattle.event_stream.proofs.closing.put_running.Goals as goal

pub returns-in_err-make_room : goal.returns-in_err-make_room
returns-in_err-make_room g c = room_fails _ _ _ _ _ _ c.from_residual.ensures.0 c.in_err-make_room.ensures.sent

pub returns-in_err-put_answer : goal.returns-in_err-put_answer
returns-in_err-put_answer g c =
    let W = g.W.Write.contents in
    let s = c.args.machine.now in
    let h = c.args.hart in
    let lead = status_ended 32 h Running ++ codes "; " in
    let next = next_text c.args.names.now s h ++ 10 ∷ [] in
    page_stops _ _ _ _ _ _ c.from_residual-in_err-put_answer.ensures.0
    (page_fails _ _ _ _ (foreseen s h) next _
    (room_spelled _ _ _ _ _ lead (foreseen s h ++ next) _ (running_line c.args.names.now s h ∙ sym (append_assoc (status_ended 32 h Running) (codes "; ") (foreseen s h ++ next))) c.in_ok-make_room.ensures.sent c.spell_lead.ensures.value)
    (subst (λ (a : Result Outcome ApplyError). Begins (W c.make_room.new.out) (W c.put_answer.new.out) (c.spell_lead.new.page ++ answer s h a)) c.foresee-answer.ensures c.in_err-put_answer.ensures))

pub returns : goal.returns
returns g c =
    let W = g.W.Write.contents in
    let s = c.args.machine.now in
    let h = c.args.hart in
    let lead = status_ended 32 h Running ++ codes "; " in
    let next = next_text c.args.names.now s h ++ 10 ∷ [] in
    page_last _ _ _ _ _ _ _ _ _
    (page_more _ _ _ _ _ (foreseen s h) next _
    (room_spelled _ _ _ _ _ lead (foreseen s h ++ next) _ (running_line c.args.names.now s h ∙ sym (append_assoc (status_ended 32 h Running) (codes "; ") (foreseen s h ++ next))) c.in_ok-make_room.ensures.sent c.spell_lead.ensures.value)
    (subst (λ (a : Result Outcome ApplyError). Paged (W c.make_room.new.out) (W c.put_answer.new.out) c.spell_lead.new.page c.put_answer.new.page (answer s h a)) c.foresee-answer.ensures c.in_ok-put_answer.ensures))
    c.put_next.ensures
