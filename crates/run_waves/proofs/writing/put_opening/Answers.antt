use Rattle.run_waves.proofs.Paging.{spells_fails, spells_then}
use Rattle.run_waves.proofs.writing.put_opening.Goals as goal

pub returns-in_err-put_head : goal.returns-in_err-put_head
returns-in_err-put_head g c = spells_fails _ _ _ _ _ _ _ c.from_residual.ensures.0 c.in_err-put_head.ensures

pub returns-in_err-put_all_declared : goal.returns-in_err-put_all_declared
returns-in_err-put_all_declared g c =
    spells_then _ _ _ _ _ _ _ _ _ c.in_ok-put_head.ensures
    (spells_fails _ _ _ _ _ _ _ c.from_residual-in_err-put_all_declared.ensures.0 c.in_err-put_all_declared.ensures)

pub returns-in_err-put_text : goal.returns-in_err-put_text
returns-in_err-put_text g c =
    spells_then _ _ _ _ _ _ _ _ _ c.in_ok-put_head.ensures
    (spells_then _ _ _ _ _ _ _ _ _ c.in_ok-put_all_declared.ensures
    (spells_fails _ _ _ _ _ _ _ c.from_residual-in_err-put_text.ensures.0 c.in_err-put_text.ensures))

pub returns-in_err-put_all_dumped : goal.returns-in_err-put_all_dumped
returns-in_err-put_all_dumped g c =
    spells_then _ _ _ _ _ _ _ _ _ c.in_ok-put_head.ensures
    (spells_then _ _ _ _ _ _ _ _ _ c.in_ok-put_all_declared.ensures
    (spells_then _ _ _ _ _ _ _ _ _ c.in_ok-put_text.ensures
    (spells_fails _ _ _ _ _ _ _ c.from_residual-in_err-put_all_dumped.ensures.0 c.in_err-put_all_dumped.ensures)))

pub returns : goal.returns
returns g c =
    spells_then _ _ _ _ _ _ _ _ _ c.in_ok-put_head.ensures
    (spells_then _ _ _ _ _ _ _ _ _ c.in_ok-put_all_declared.ensures
    (spells_then _ _ _ _ _ _ _ _ _ c.in_ok-put_text.ensures
    (spells_then _ _ _ _ _ _ _ _ _ c.in_ok-put_all_dumped.ensures c.put_text-2.ensures)))
