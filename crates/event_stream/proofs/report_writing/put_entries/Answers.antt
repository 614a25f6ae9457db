use Rattle.std.proofs.Common.{arith}
use Rattle.text_fields.proofs.Pages.{page_stops, page_fails, page_more, page_as, page_ends, item_next, item_none}
use Rattle.event_stream.specs.Lines.{retired_line}
use Rattle.event_stream.proofs.report_writing.put_entries.Goals as goal

pub returns-in_err-put_entry-clause-lines : goal.returns-in_err-put_entry-clause-lines
returns-in_err-put_entry-clause-lines g c =
    page_stops _ _ _ _ _ _ c.from_residual.ensures.0
    (page_fails _ _ _ _ _ _ _ (page_as _ _ _ _ _ _ (item_next (retired_line c.args.names.now c.args.hart c.args.action) c.args.entries.now c.loop-entry.entry-index _ c.loop-entry-test.true) c.loop-entry.invariant.spelled) c.in_err-put_entry.ensures.line)

pub loop-entry-preserved : goal.loop-entry-preserved
loop-entry-preserved g c = record {
  spelled = page_more _ _ _ _ _ _ _ _ (page_as _ _ _ _ _ _ (item_next (retired_line c.args.names.now c.args.hart c.args.action) c.args.entries.now c.loop-entry.entry-index _ c.loop-entry-test.true) c.loop-entry.invariant.spelled) c.in_ok-put_entry.ensures.line;
  kept = c.put_entry.ensures.kept;
}

pub returns-clause-lines : goal.returns-clause-lines
returns-clause-lines g c = page_ends _ _ _ _ _ (page_as _ _ _ _ _ _ (item_none (retired_line c.args.names.now c.args.hart c.args.action) c.args.entries.now c.loop-entry.entry-index (omega (arith, c.loop-entry-test.false))) c.loop-entry.invariant.spelled)
