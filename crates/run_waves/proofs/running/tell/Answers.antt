use Rattle.std.proofs.Common.{refl}
use Rattle.text_fields.proofs.Pages.{page_as, page_ends, page_fails, page_more, page_stops}
use Rattle.run_waves.proofs.Stepping.{lines_next, lines_none, rest_place}
use Rattle.run_waves.proofs.running.tell.Goals as goal

pub returns-in_err-tell_event : goal.returns-in_err-tell_event
returns-in_err-tell_event g c =
    page_stops _ _ _ _ _ _ c.from_residual.ensures.0
    (page_fails _ _ _ _ _ _ _ (page_as _ _ _ _ _ _ (lines_next _ _ _ c.loop-rest.rest.now _ c.in-len1-up.len_at_least refl) c.loop-rest.invariant.spelled) c.in_err-tell_event.ensures.told)

pub loop-rest-preserved : goal.loop-rest-preserved
loop-rest-preserved g c = record {
  spelled =
      page_more _ _ _ _ _ _ _ _ (page_as _ _ _ _ _ _ (lines_next _ _ _ c.loop-rest.rest.now _ c.in-len1-up.len_at_least c.in_ok-tell_event.ensures.moved) c.loop-rest.invariant.spelled)
      c.in_ok-tell_event.ensures.told;
  place = rest_place c.loop-rest.rest.now _ _ c.in-len1-up.len_at_least c.loop-rest.invariant.place;
}

pub returns : goal.returns
returns g c = page_ends _ _ _ _ _ (page_as _ _ _ _ _ _ (lines_none _ _ c.loop-rest.rest.now c.in_default.len_below) c.loop-rest.invariant.spelled)
