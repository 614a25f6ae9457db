use Rattle.std.proofs.Common.{Ok}
use Rattle.run_waves.specs.declared.errors.TellError.{TellError}
use Rattle.text_fields.proofs.Pages.{page_stops}
use Rattle.run_waves.proofs.Paging.{all_stops, all_written, out_fails, paged_then, spells_fails, spells_then}
use Rattle.run_waves.proofs.writing.put_waves.Goals as goal

pub returns-in_err-put_opening : goal.returns-in_err-put_opening
returns-in_err-put_opening g c =
    let failed = c.from_residual.ensures.0 in
    all_stops _ _ c.new-page.result c.put_opening.new.page _ _ c.new-page.ensures failed (spells_fails _ _ _ _ _ _ _ failed c.in_err-put_opening.ensures)

pub returns-in_err-tell : goal.returns-in_err-tell
returns-in_err-tell g c =
    let failed = c.from_residual-in_err-tell.ensures.0 in
    all_stops _ _ c.new-page.result c.tell.new.page _ _ c.new-page.ensures failed (spells_then _ _ _ _ _ _ _ _ _ c.in_ok-put_opening.ensures (page_stops _ _ _ _ _ _ failed c.in_err-tell.ensures))

pub returns-in_err-hand_on : goal.returns-in_err-hand_on
returns-in_err-hand_on g c =
    out_fails _ _ _ c.new-page.result c.tell.new.page _ _ c.new-page.ensures c.from_residual-in_err-hand_on.ensures.0 (paged_then _ _ _ _ _ _ _ _ c.in_ok-put_opening.ensures c.in_ok-tell.ensures) c.in_err-hand_on.ensures.sent

pub returns : goal.returns
returns g c =
    all_written {T = Unit {0}} {E = TellError} _ _ _ c.new-page.result c.tell.new.page _ (Ok tt) c.new-page.ensures (paged_then _ _ _ _ _ _ _ _ c.in_ok-put_opening.ensures c.in_ok-tell.ensures) c.in_ok-hand_on.ensures.sent
