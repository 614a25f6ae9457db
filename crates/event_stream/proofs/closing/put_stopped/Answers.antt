use Rattle.std.proofs.Common.{[], sym, ◌∙◌, ◌++◌, ◌∷◌, append_assoc}
use Rattle.std.specs.Prelude.{codes}
use Rattle.hart.specs.declared.status.Status.TheVariants.{Stopped}
use Rattle.trace_text.specs.Traces.{status_ended}
use Rattle.event_stream.specs.Closing.{next_text, reason}
use Rattle.event_stream.proofs.ClosingLines.{stopped_line}
use Rattle.event_stream.proofs.Paging.{page_last, room_fails, room_spelled}
use Rattle.event_stream.proofs.closing.put_stopped.Goals as goal

pub returns-in_err-make_room : goal.returns-in_err-make_room
returns-in_err-make_room g c = room_fails _ _ _ _ _ _ c.from_residual.ensures.0 c.in_err-make_room.ensures.sent

pub returns : goal.returns
returns g c =
    let lead = status_ended 32 c.args.hart (Stopped c.args.code) in
    let rest = next_text c.args.names.now c.args.machine.now c.args.hart ++ 10 ∷ [] in
    page_last _ _ _ _ _ _ _ _ _
    (room_spelled _ _ _ _ _ ((lead ++ codes "; ") ++ reason c.args.code) rest _
    (stopped_line c.args.names.now c.args.machine.now c.args.hart c.args.code ∙ (sym (append_assoc lead (codes "; ") (reason c.args.code ++ rest)) ∙ sym (append_assoc (lead ++ codes "; ") (reason c.args.code) rest)))
    c.in_ok-make_room.ensures.sent c.spell_stop.ensures)
    c.put_next.ensures
