use Rattle.run_waves.proofs.Paging.{spells_fails, spells_then}
use Rattle.run_waves.proofs.running.put_event.Goals as goal

pub returns-in_err-put_time : goal.returns-in_err-put_time
returns-in_err-put_time g c = spells_fails _ _ _ _ _ _ _ c.from_residual.ensures.0 c.in_err-put_time.ensures

pub returns : goal.returns
returns g c = spells_then _ _ _ _ _ _ _ _ _ c.in_ok-put_time.ensures c.put_all_changes.ensures
