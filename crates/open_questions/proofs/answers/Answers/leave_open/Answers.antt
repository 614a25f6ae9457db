use Rattle.std.proofs.Common.{◌∙◌, sym}
use Rattle.open_questions.proofs.Noted.{plain_open, sent_open, taken_open}
use Rattle.open_questions.proofs.answers.Answers.leave_open.Goals as goal

pub returns-then-not-asks : goal.returns-then-not-asks
returns-then-not-asks c = λ log follows. plain_open c.args.entry.now log (sym c.asks.ensures ∙ c.if-not-asks.true)

pub returns-else-not-asks : goal.returns-else-not-asks
returns-else-not-asks c = λ log follows. sent_open c.args.self.now c.args.entry.now log c.has_answer.result c.in-Sent.is c.has_answer.ensures follows

pub returns-in-Taken : goal.returns-in-Taken
returns-in-Taken c = λ log follows. taken_open c.args.entry.now log c.in-Taken.is
