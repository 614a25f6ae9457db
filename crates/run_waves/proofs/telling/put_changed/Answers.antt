use Rattle.std.proofs.Common.{[], arith}
use Rattle.text_fields.proofs.Pages.{item_next, item_none, page_as, page_ends, page_fails, page_more, page_spelled, page_stops}
use Rattle.run_waves.specs.Telling.{changed}
use Rattle.run_waves.proofs.telling.put_changed.Goals as goal

pub returns-in_err-make_room : goal.returns-in_err-make_room
returns-in_err-make_room g c = page_stops _ _ _ _ _ _ c.from_residual.ensures.0 (page_fails _ _ _ _ [] _ _ c.loop-signal.invariant c.in_err-make_room.ensures.sent)

pub loop-signal-preserved : goal.loop-signal-preserved
loop-signal-preserved g c =
    page_spelled _ _ _ _ _ _ _ (page_as _ _ _ _ _ _ (item_next (changed c.args.seen.now.group c.args.seen.now.values c.args.values.now) c.args.signals.now c.loop-signal.signal-index _ c.loop-signal-test.true) (page_more _ _ _ _ _ [] _ _ c.loop-signal.invariant c.in_ok-make_room.ensures.sent)) c.spell_changed.ensures

pub returns : goal.returns
returns g c = page_ends _ _ _ _ _ (page_as _ _ _ _ _ _ (item_none (changed c.args.seen.now.group c.args.seen.now.values c.args.values.now) c.args.signals.now c.loop-signal.signal-index (omega (arith, c.loop-signal-test.false))) c.loop-signal.invariant)
