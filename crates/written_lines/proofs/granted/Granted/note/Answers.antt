use Rattle.std.proofs.Common.{sym, ◌∙◌}
use Rattle.written_lines.proofs.Noted.{granted_follows, other_follows}
use Rattle.written_lines.proofs.granted.Granted.note.Goals as goal

pub returns-in_ok-note_line-in-Some : goal.returns-in_ok-note_line-in-Some
returns-in_ok-note_line-in-Some c = λ log follows. granted_follows log c.args.entry.now c.args.self.now (record { lines = c.note_line.new.lines }) c.in-Some.bytes (sym c.in-Some.is ∙ c.given.ensures) follows c.in_ok-note_line-in-Some.ensures

pub returns-in-None : goal.returns-in-None
returns-in-None c = λ log follows. other_follows log c.args.entry.now c.args.self.now (sym c.in-None.is ∙ c.given.ensures) follows
