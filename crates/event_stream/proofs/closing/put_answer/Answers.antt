use Rattle.std.proofs.Common.{refl}
use Rattle.text_fields.proofs.Pages.{paged_none}
use Rattle.event_stream.specs.Closing.{error_name, waited}
use Rattle.event_stream.specs.Outcomes.{outcome}
use Rattle.event_stream.proofs.Paging.{room_whole, spells_behind}
use Rattle.event_stream.proofs.closing.put_answer.Goals as goal

pub returns-in-Ok : goal.returns-in-Ok
returns-in-Ok g c =
    rw c.in-Ok.is
    (spells_behind _ _ _ _ _ (outcome c.in-Ok.outcome) (waited c.args.machine.now c.args.hart c.in-Ok.outcome) _ c.spell_outcome.ensures.value c.put_waited.ensures)

pub returns-in-Err : goal.returns-in-Err
returns-in-Err g c =
    rw c.in-Err.is
    (room_whole _ _ c.args.page.now c.args.page.now c.text.new.self (error_name c.in-Err.error) (paged_none _ _) (rw (c.text.ensures.value, c.as_bytes.ensures.value, c.error_name.ensures.value) refl))
