use Rattle.event_stream.proofs.Paging.{spells_fails, spells_then}
use Rattle.event_stream.proofs.holding.put_hart.Goals as goal

pub returns-in_err-put_own_registers : goal.returns-in_err-put_own_registers
returns-in_err-put_own_registers g c = spells_fails _ _ _ _ _ _ _ c.from_residual.ensures.0 c.in_err-put_own_registers.ensures

pub returns-in_err-put_own_buffer : goal.returns-in_err-put_own_buffer
returns-in_err-put_own_buffer g c =
    spells_then _ _ _ _ _ _ _ _ _ c.in_ok-put_own_registers.ensures
    (spells_fails _ _ _ _ _ _ _ c.from_residual-in_err-put_own_buffer.ensures.0 c.in_err-put_own_buffer.ensures)

pub returns-in_err-put_own_reservation : goal.returns-in_err-put_own_reservation
returns-in_err-put_own_reservation g c =
    spells_then _ _ _ _ _ _ _ _ _ c.in_ok-put_own_registers.ensures
    (spells_then _ _ _ _ _ _ _ _ _ c.in_ok-put_own_buffer.ensures
    (spells_fails _ _ _ _ _ _ _ c.from_residual-in_err-put_own_reservation.ensures.0 c.in_err-put_own_reservation.ensures))

pub returns-in_err-put_own_cache : goal.returns-in_err-put_own_cache
returns-in_err-put_own_cache g c =
    spells_then _ _ _ _ _ _ _ _ _ c.in_ok-put_own_registers.ensures
    (spells_then _ _ _ _ _ _ _ _ _ c.in_ok-put_own_buffer.ensures
    (spells_then _ _ _ _ _ _ _ _ _ c.in_ok-put_own_reservation.ensures
    (spells_fails _ _ _ _ _ _ _ c.from_residual-in_err-put_own_cache.ensures.0 c.in_err-put_own_cache.ensures)))

pub returns : goal.returns
returns g c =
    spells_then _ _ _ _ _ _ _ _ _ c.in_ok-put_own_registers.ensures
    (spells_then _ _ _ _ _ _ _ _ _ c.in_ok-put_own_buffer.ensures
    (spells_then _ _ _ _ _ _ _ _ _ c.in_ok-put_own_reservation.ensures
    (spells_then _ _ _ _ _ _ _ _ _ c.in_ok-put_own_cache.ensures c.put_own_queues.ensures)))
