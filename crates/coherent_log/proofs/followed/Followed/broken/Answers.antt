use Rattle.std.specs.Option.{option_copied}
use Rattle.coherent_log.proofs.Noted.{breaks_sent, keeps_taken}
use Rattle.coherent_log.proofs.followed.Followed.broken.Goals as goal

pub returns-in-Sent : goal.returns-in-Sent
returns-in-Sent c = λ log follows. breaks_sent (option_copied c.args.image) c.args.self.now log c.args.entry.now follows c.broken_by_sending.result c.in-Sent.is c.broken_by_sending.ensures

pub returns-in-Taken : goal.returns-in-Taken
returns-in-Taken c = λ log follows. keeps_taken (option_copied c.args.image) c.args.self.now log c.args.entry.now follows c.in-Taken.is
