use Rattle.std.proofs.Common.{arith}
use Rattle.message_judge.proofs.Breaching.{told_more, told_past}
use Rattle.message_judge.proofs.breaches.list_first.Goals as goal

pub returns-then-count-lt-MOST : goal.returns-then-count-lt-MOST
returns-then-count-lt-MOST c = λ all told. told_more all _ _ c.args.count c.args.breach (omega (arith, c.if-count-lt-MOST.true)) c.in_ok-push.ensures.items told

pub returns : goal.returns
returns c = λ all told. told_past all _ c.args.count c.args.breach (omega (arith, c.if-count-lt-MOST.false)) told
