use Rattle.std.proofs.Common.{[], arith}
use Rattle.text_fields.proofs.Pages.{page_as, page_ends, page_fails, page_more, page_spelled, page_starts, page_stops}
use Rattle.event_stream.specs.Holding.{register_line}
use Rattle.event_stream.proofs.Counting.{numbered_next, numbered_none}
use Rattle.event_stream.proofs.holding.put_file.Goals as goal

pub loop-number-init : goal.loop-number-init
loop-number-init g c = page_starts _ _ _

pub returns-in_err-make_room : goal.returns-in_err-make_room
returns-in_err-make_room g c = page_stops _ _ _ _ _ _ c.from_residual.ensures.0 (page_fails _ _ _ _ [] _ _ c.loop-number.invariant c.in_err-make_room.ensures.sent)

pub loop-number-preserved : goal.loop-number-preserved
loop-number-preserved g c =
    let f = register_line c.args.hart c.args.registers.now in
    page_spelled _ _ _ _ _ _ _ (page_as _ _ _ _ _ _ (numbered_next f 32 c.loop-number.number c.loop-number-test.true) (page_more _ _ _ _ _ [] _ _ c.loop-number.invariant c.in_ok-make_room.ensures.sent)) c.spell_register.ensures

pub returns : goal.returns
returns g c =
    let f = register_line c.args.hart c.args.registers.now in
    page_ends _ _ _ _ _ (page_as _ _ _ _ _ _ (numbered_none f 32 c.loop-number.number (omega (arith, c.loop-number-test.false))) c.loop-number.invariant)
