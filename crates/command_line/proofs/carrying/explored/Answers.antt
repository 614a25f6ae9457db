use Rattle.std.proofs.Common.{[], refl}
use Rattle.command_line.proofs.Meant.{told_alone}
use Rattle.command_line.proofs.carrying.explored.Goals as goal

pub returns-then-wanted-clause-told : goal.returns-then-wanted-clause-told
returns-then-wanted-clause-told g c =
    told_alone c.architecture_files.result (g.F.Files.held c.args.files.now) c.args.wanted [] refl c.architecture_files.ensures.told
