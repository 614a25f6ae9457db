use Rattle.open_questions.proofs.Noted.{noted_follows, sent_follows}
use Rattle.open_questions.proofs.answers.Answers.note.Goals as goal

pub returns-in-Sent : goal.returns-in-Sent
returns-in-Sent c = λ log follows. sent_follows c.args.self.now c.args.entry.now log c.in-Sent.is follows

pub returns-in_ok-note_line-in-Taken : goal.returns-in_ok-note_line-in-Taken
returns-in_ok-note_line-in-Taken c = λ log follows. noted_follows c.args.self.now (record { lines = c.note_line.new.lines }) c.args.entry.now log follows c.in_ok-note_line-in-Taken.ensures
