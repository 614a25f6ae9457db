use Rattle.coherent_log.proofs.Noted.{noted_follows}
use Rattle.coherent_log.proofs.followed.Followed.note.Goals as goal

pub returns : goal.returns
returns c = λ log follows is. noted_follows _ _ log c.args.entry.now c.args.index follows is (record {
  clients = c.in_ok-note_line.ensures.clients;
  bytes = c.in_ok-note_line.ensures.brought;
})
