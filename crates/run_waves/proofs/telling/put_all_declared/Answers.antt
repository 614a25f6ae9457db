use Rattle.std.proofs.Common.{arith}
use Rattle.text_fields.proofs.Pages.{item_next, item_none, page_as, page_ends, page_fails, page_more, page_stops}
use Rattle.run_waves.specs.Naming.{declared}
use Rattle.run_waves.proofs.telling.put_all_declared.Goals as goal

pub returns-in_err-put_declared : goal.returns-in_err-put_declared
returns-in_err-put_declared g c =
    page_stops _ _ _ _ _ _ c.from_residual.ensures.0
    (page_fails _ _ _ _ _ _ _ (page_as _ _ _ _ _ _ (item_next (declared) c.args.groups.now c.loop-group.group-index _ c.loop-group-test.true) c.loop-group.invariant) c.in_err-put_declared.ensures)

pub loop-group-preserved : goal.loop-group-preserved
loop-group-preserved g c =
    page_more _ _ _ _ _ _ _ _ (page_as _ _ _ _ _ _ (item_next (declared) c.args.groups.now c.loop-group.group-index _ c.loop-group-test.true) c.loop-group.invariant) c.in_ok-put_declared.ensures

pub returns : goal.returns
returns g c = page_ends _ _ _ _ _ (page_as _ _ _ _ _ _ (item_none (declared) c.args.groups.now c.loop-group.group-index (omega (arith, c.loop-group-test.false))) c.loop-group.invariant)
