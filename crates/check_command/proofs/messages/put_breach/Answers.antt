use Rattle.std.proofs.Common.{Some, refl}
use Rattle.check_command.specs.Breaches.{told_line}
use Rattle.check_command.proofs.Objected.{told_as}
use Rattle.check_command.proofs.messages.put_breach.Goals as goal

pub returns-in-Some : goal.returns-in-Some
returns-in-Some g c = λ plain. (
  told_line c.args.log.file.now (Some c.in-Some.told),
  record { told = Some c.in-Some.told; found = told_as c.args.log.profile c.args.text c.args.broken _ _ _ _ (Some c.in-Some.told) (Some c.in-Some.told) c.clients-clients.ensures c.messages.ensures refl c.in-Some.ensures; line = refl },
  c.put_line.ensures plain,
)
