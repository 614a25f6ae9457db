use Rattle.std.proofs.Common.{◌+◌, [], sym, arith}
use Rattle.text_fields.proofs.Pages.{page_stops, page_fails, page_more, page_as, page_spelled}
use Rattle.text_fields.proofs.Written.{numbered_first}
use Rattle.trace_text.specs.Traces.{status}
use Rattle.trace_text.proofs.TraceWriting.{numbered_tail}
use Rattle.trace_text.proofs.trace_writing.put_statuses.Goals as goal

pub returns-in_err-make_room : goal.returns-in_err-make_room
returns-in_err-make_room g c = page_stops _ _ _ _ _ _ c.from_residual.ensures.0 (page_fails _ _ _ _ [] _ _ c.loop-rest.invariant.1 c.in_err-make_room.ensures.sent)

pub loop-rest-preserved : goal.loop-rest-preserved
loop-rest-preserved g c = (
  omega (arith, c.loop-rest.invariant.0, c.in-len1-up.len_at_least),
  page_as _ _ _ _ _ _ (sym (numbered_tail status (c.loop-rest.hart + 1) c.loop-rest.rest.now))
      (page_spelled _ _ _ _ _ _ _ (page_as _ _ _ _ _ _ (numbered_first status c.loop-rest.hart c.loop-rest.rest.now _ (omega (arith, c.in-len1-up.len_at_least))) (page_more _ _ _ _ _ [] _ _ c.loop-rest.invariant.1 c.in_ok-make_room.ensures.sent)) c.spell_status.ensures.value),
)
