use Rattle.event_stream.proofs.Paging.{spells_fails, spells_then}
use Rattle.event_stream.proofs.stalls.put_until_answered.Goals as goal

pub returns-in_err-put_lead : goal.returns-in_err-put_lead
returns-in_err-put_lead g c = spells_fails _ _ _ _ _ _ _ c.from_residual.ensures.0 c.in_err-put_lead.ensures

pub returns : goal.returns
returns g c = spells_then _ _ _ _ _ _ _ _ _ c.in_ok-put_lead.ensures c.put_message_of.ensures
