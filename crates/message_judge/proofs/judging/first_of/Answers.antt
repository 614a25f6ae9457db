use Rattle.std.proofs.Common.{arith}
use Rattle.message_judge.proofs.Told.{incoherent_first, unlawful_first}
use Rattle.message_judge.proofs.judging.first_of.Goals as goal

pub returns-then-other-index : goal.returns-then-other-index
returns-then-other-index c = λ profile image log order copies. incoherent_first profile image log c.args.rule c.args.breach c.args.index c.args.other order copies (omega (arith, c.if-other-index.true))

pub returns : goal.returns
returns c = λ profile image log order copies. unlawful_first profile image log c.args.rule c.args.breach c.args.index c.args.other order copies (omega (arith, c.if-other-index.false))
