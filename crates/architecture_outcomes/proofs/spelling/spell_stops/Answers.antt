use Rattle.std.proofs.Common.{arith}
use Rattle.architecture_outcomes.proofs.StopLines.{one_more}
use Rattle.architecture_outcomes.proofs.spelling.spell_stops.Goals as goal

pub loop-rest-preserved : goal.loop-rest-preserved
loop-rest-preserved c = record {
  told = one_more c.args.model c.args.symbols.now c.loop-rest.number c.loop-rest.rest.now c.first-item.result _ c.loop-rest.into.items _ _ c.in-len1-up.len_at_least c.first-item.is c.in_ok-spell_stop.ensures c.loop-rest.invariant.told;
  count = omega arith;
}
