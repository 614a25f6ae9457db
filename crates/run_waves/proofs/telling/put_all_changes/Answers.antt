use Rattle.std.proofs.Common.{arith}
use Rattle.text_fields.proofs.Pages.{item_next, item_none, page_as, page_ends, page_fails, page_more, page_stops}
use Rattle.run_waves.specs.Telling.{changes_since}
use Rattle.run_waves.proofs.telling.put_all_changes.Goals as goal

pub returns-in_err-put_changes : goal.returns-in_err-put_changes
returns-in_err-put_changes g c =
    page_stops _ _ _ _ _ _ c.from_residual.ensures.0
    (page_fails _ _ _ _ _ _ _ (page_as _ _ _ _ _ _ (item_next (changes_since c.args.machine.now) c.args.seen.now c.loop-part.part-index _ c.loop-part-test.true) c.loop-part.invariant) c.in_err-put_changes.ensures)

pub loop-part-preserved : goal.loop-part-preserved
loop-part-preserved g c =
    page_more _ _ _ _ _ _ _ _ (page_as _ _ _ _ _ _ (item_next (changes_since c.args.machine.now) c.args.seen.now c.loop-part.part-index _ c.loop-part-test.true) c.loop-part.invariant) c.in_ok-put_changes.ensures

pub returns : goal.returns
returns g c = page_ends _ _ _ _ _ (page_as _ _ _ _ _ _ (item_none (changes_since c.args.machine.now) c.args.seen.now c.loop-part.part-index (omega (arith, c.loop-part-test.false))) c.loop-part.invariant)
