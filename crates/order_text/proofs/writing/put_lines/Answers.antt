use Rattle.std.proofs.Common.{[], arith}
use Rattle.text_fields.proofs.Pages.{page_stops, page_fails, page_more, page_as, page_ends, item_next, item_none}
use Rattle.order_text.specs.Text.{line}
use Rattle.order_text.proofs.writing.put_lines.Goals as goal

pub returns-in_err-put_line : goal.returns-in_err-put_line
returns-in_err-put_line g c =
    page_stops _ _ _ _ _ _ c.from_residual.ensures.0 (page_fails _ _ _ _ _ _ _ (page_as _ _ _ _ _ _ (item_next (line c.args.names.now) c.args.lines.now c.loop-line.line-index _ c.loop-line-test.true) c.loop-line.invariant) c.in_err-put_line.ensures)

pub loop-line-preserved : goal.loop-line-preserved
loop-line-preserved g c =
    page_more _ _ _ _ _ _ _ _ (page_as _ _ _ _ _ _ (item_next (line c.args.names.now) c.args.lines.now c.loop-line.line-index _ c.loop-line-test.true) c.loop-line.invariant) c.in_ok-put_line.ensures

pub returns : goal.returns
returns g c = page_ends _ _ _ _ _ (page_as _ _ _ _ _ _ (item_none (line c.args.names.now) c.args.lines.now c.loop-line.line-index (omega (arith, c.loop-line-test.false))) c.loop-line.invariant)
