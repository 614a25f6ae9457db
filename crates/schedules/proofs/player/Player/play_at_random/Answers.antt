use Rattle.std.proofs.Common.{◌∙◌, arith}
use Rattle.schedules.proofs.Shorter.{at_most_one}
use Rattle.schedules.proofs.player.Player.play_at_random.Goals as goal

pub returns-in_err-event : goal.returns-in_err-event
returns-in_err-event c = record {
  start = c.loop-left.invariant.start;
  within = omega arith;
}

pub returns-in_default : goal.returns-in_default
returns-in_default c = record {
  start = c.loop-left.invariant.start;
  within = omega arith;
}

pub returns-in_err-outcome : goal.returns-in_err-outcome
returns-in_err-outcome c = record {
  start = c.apply.ensures.start ∙ c.loop-left.invariant.start;
  within = omega (arith, at_most_one _ _ _ c.apply.ensures.kept);
}

pub returns-in_err-learn : goal.returns-in_err-learn
returns-in_err-learn c = record {
  start = c.apply.ensures.start ∙ c.loop-left.invariant.start;
  within = omega (arith, at_most_one _ _ _ c.apply.ensures.kept);
}

pub loop-left-preserved : goal.loop-left-preserved
loop-left-preserved c = record { start = c.apply.ensures.start ∙ c.loop-left.invariant.start; within = omega (arith, at_most_one _ _ _ c.apply.ensures.kept) }

pub returns : goal.returns
returns c = record {
  start = c.loop-left.invariant.start;
  within = omega arith;
}
