use Rattle.lawful_log.proofs.Noted.{breaks_order, breaks_sent, keeps_front}
use Rattle.lawful_log.proofs.followed.Followed.broken.Goals as goal

pub returns-in-Sent : goal.returns-in-Sent
returns-in-Sent c = λ log follows. breaks_sent c.args.profile c.args.self.now log c.args.entry.now c.broken_by_sending.result follows c.in-Sent.is c.broken_by_sending.ensures

pub returns-then-is_front : goal.returns-then-is_front
returns-then-is_front c = λ log follows. keeps_front c.args.profile c.args.self.now log c.args.entry.now follows c.in-Taken.is (c.is_front.ensures.0 c.if-is_front.true)

pub returns-else-is_front : goal.returns-else-is_front
returns-else-is_front c = λ log follows. breaks_order c.args.profile c.args.self.now log c.args.entry.now follows c.in-Taken.is (λ first. (let yes = c.is_front.ensures.1 first in let no = c.if-is_front.false in cc (yes, no)))
