use Rattle.event_stream.proofs.Paging.{spells_fails, spells_then}
use Rattle.event_stream.proofs.noting.put_notes.Goals as goal

pub returns-in_err-put_records : goal.returns-in_err-put_records
returns-in_err-put_records g c = spells_fails _ _ _ _ _ _ _ c.from_residual.ensures.0 c.in_err-put_records.ensures

pub returns : goal.returns
returns g c = spells_then _ _ _ _ _ _ _ _ _ c.in_ok-put_records.ensures c.put_transaction.ensures
