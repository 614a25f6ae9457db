use Rattle.std.proofs.Common.{◌≡◌, ◌∙◌, arith, length, map, sym}
use Rattle.std.proofs.lemmas.List.{length-map}
use Rattle.run_chart.specs.Rows.{told}
use Rattle.run_chart.proofs.Limits.{given_up, line_next, rows_fit, rows_full}
use Rattle.run_chart.proofs.Telling.{rest_place, rows_next}
use Rattle.run_chart.proofs.gathering.rows_of.Goals as goal

pub returns-in_err-tell-clause-full : goal.returns-in_err-tell-clause-full
returns-in_err-tell-clause-full c =
    given_up _ c.from_residual.result _ c.from_residual.ensures.1
    (λ why. rows_full _ _ _ _ _ _ c.loop-rest.rest.now _ (map told c.loop-rest.gathered.rows.items) _ _ c.in-len1-up.len_at_least (sym (length-map c.loop-rest.gathered.rows.items told)) c.loop-rest.invariant.line c.loop-rest.invariant.rows (c.in_err-tell.ensures.full why))

pub loop-rest-preserved : goal.loop-rest-preserved
loop-rest-preserved c = record {
  rows = rows_next _ _ _ _ _ _ _ _ c.loop-rest.rest.now _ _ _ _ c.in-len1-up.len_at_least c.in_ok-tell.ensures.told.rows_are c.in_ok-tell.ensures.told.line_is c.in_ok-tell.ensures.told.leads c.loop-rest.invariant.rows;
  line = line_next _ _ (map told c.loop-rest.gathered.rows.items) _ _ c.loop-rest.invariant.line c.in_ok-tell.ensures.told.rows_are c.in_ok-tell.ensures.told.line_is;
  low = c.in_ok-tell.ensures.low;
  count = c.in_ok-tell.ensures.count;
  place = rest_place c.loop-rest.rest.now c.loop-rest.index _ c.in-len1-up.len_at_least c.loop-rest.invariant.place;
}

pub returns-clause-fits : goal.returns-clause-fits
returns-clause-fits c =
    rows_fit (map told c.loop-rest.gathered.rows.items) c.loop-rest.gathered.line (omega (arith, length-map c.loop-rest.gathered.rows.items told, c.loop-rest.invariant.count)) c.loop-rest.invariant.low c.loop-rest.invariant.line
