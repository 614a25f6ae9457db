use Rattle.std.proofs.Common.{sym, subst}
use Rattle.machine_model.specs.LawfulLog.{concerns, is_of_line}
use Rattle.lawful_log.proofs.Counted.{have_room}
use Rattle.lawful_log.proofs.Noted.{noted_follows}
use Rattle.lawful_log.specs.Facts.{HaveRoom}
use Rattle.lawful_log.specs.Followed.{HartKnown}
use Rattle.lawful_log.proofs.followed.Followed.note.Goals as goal

pub note_line-requires-clause-all : goal.note_line-requires-clause-all
note_line-requires-clause-all c = subst HaveRoom (sym (c.requires.1.0.lines c.args.entry.now.message.line)) (have_room (is_of_line c.args.entry.now.message.line) c.requires.0 c.requires.1.1)

pub note_line-requires-clause-hart : goal.note_line-requires-clause-hart
note_line-requires-clause-hart c = subst (λ (k : HartKnown). HaveRoom k.tallies) (sym (c.requires.1.0.harts c.args.entry.now.hart c.args.entry.now.message.line)) (have_room (concerns c.args.entry.now.hart c.args.entry.now.message.line) c.requires.0 c.requires.1.1)

pub returns : goal.returns
returns c = λ log follows. noted_follows _ _ log c.args.entry.now follows (record {
  harts = c.in_ok-note_line.ensures.harts;
  lines = c.in_ok-note_line.ensures.all;
  queues = c.in_ok-note.ensures;
})
