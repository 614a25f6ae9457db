use Rattle.check_command.proofs.Piping.{first_of}
use Rattle.check_command.proofs.watch.whole_lines.Goals as goal

pub returns : goal.returns
returns c = first_of c.loop-length.length c.args.bytes.now
