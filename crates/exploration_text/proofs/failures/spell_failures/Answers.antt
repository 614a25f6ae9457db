use Rattle.std.proofs.Common.{arith}
use Rattle.exploration_text.proofs.FailureLines.{one_more}
use Rattle.exploration_text.proofs.failures.spell_failures.Goals as goal

pub loop-rest-preserved : goal.loop-rest-preserved
loop-rest-preserved c = record {
  told = one_more c.args.symbols.now c.loop-rest.number c.loop-rest.rest.now c.first-item.result _ c.loop-rest.into.items _ _ c.in-len1-up.len_at_least c.first-item.is c.in_ok-spell_failure.ensures c.loop-rest.invariant.told;
  count = omega arith;
}
