use Rattle.std.proofs.Common.{arith}
use Rattle.std.proofs.lemmas.Grind.{common_steps}
use Rattle.litmus_answers.proofs.Counts.{tally_step}
use Rattle.litmus_answers.proofs.answer.tally_of.Goals as goal

pub loop-rest-preserved : goal.loop-rest-preserved
loop-rest-preserved c = record {
  counted = rw (c.counted-tally.ensures.value, c.in_ok-truth.ensures, c.deref.ensures.value) (tally_step c.args.names.now c.args.told.now c.args.steps.now c.loop-rest.tally _ c.loop-rest.rest.now c.state-item.result c.in-len1-up.len_at_least c.state-item.is c.loop-rest.invariant.counted);
  count = grind (arith, common_steps, c.counted-tally.ensures.total, c.loop-rest.invariant.count, c.in-len1-up.len_at_least);
}
