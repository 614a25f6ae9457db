use Rattle.std.proofs.Common.{refl}
use Rattle.check_command.proofs.Piping.{long_first}
use Rattle.check_command.proofs.piped.too_long.Goals as goal

pub returns-then-has_long_first_line-clause-fault : goal.returns-then-has_long_first_line-clause-fault
returns-then-has_long_first_line-clause-fault g c =
    (refl, (long_first (g.F.Files.held c.args.files.now) c.args.file.now c.requires.0 c.args.bytes.now c.requires.1 (c.has_long_first_line.ensures c.if-has_long_first_line.true), refl, refl))
