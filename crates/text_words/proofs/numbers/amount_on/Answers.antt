use Rattle.text_words.proofs.Digits.{cut_more, cut_none, cut_end}
use Rattle.std.proofs.Common.{arith, ◌^◌}
use Rattle.text_words.proofs.numbers.amount_on.Goals as goal

pub loop-digit-preserved : goal.loop-digit-preserved
loop-digit-preserved c = (
  grind (arith, c.min-value.ensures),
  rw c.min-value.ensures (cut_more (2 ^ 32) c.args.base c.loop-digit.digit-index c.loop-digit.value c.args.digits.now c.worth-worth.result _ c.requires.some c.loop-digit-test.true c.worth-worth.ensures.value c.if-worth-base.false c.loop-digit.invariant.1),
)

pub returns-then-worth-base-clause-value : goal.returns-then-worth-base-clause-value
returns-then-worth-base-clause-value c =
    cut_none (2 ^ 32) c.args.base c.loop-digit.digit-index c.loop-digit.value c.args.digits.now c.worth-worth.result _ c.loop-digit-test.true c.worth-worth.ensures.value c.if-worth-base.true c.loop-digit.invariant.1

pub returns-clause-value : goal.returns-clause-value
returns-clause-value c = cut_end (2 ^ 32) c.args.base c.loop-digit.digit-index c.loop-digit.value c.args.digits.now _ c.loop-digit-test.false c.loop-digit.invariant.0 c.loop-digit.invariant.1
