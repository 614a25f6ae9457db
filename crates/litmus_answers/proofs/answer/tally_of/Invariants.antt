use Rattle.std.proofs.Common.{◌≡◌, ◌+◌, length}
use Rattle.litmus_answers.specs.Answers.{tally_on, none}
use Rattle.litmus_answers.proofs.answer.tally_of.Given as goal

abbrev pub invariant-loop-rest : goal.invariant-loop-rest
invariant-loop-rest l = record {
  counted : tally_on l.names l.told l.steps l.tally l.rest ≡ tally_on l.names l.told l.steps none l.states;
  count : l.tally.positive + l.tally.negative + length l.rest ≡ length l.states;
}

abbrev pub decreases-loop-rest : goal.decreases-loop-rest
decreases-loop-rest l = length l.rest
