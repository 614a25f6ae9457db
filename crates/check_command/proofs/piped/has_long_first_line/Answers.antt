use Rattle.std.proofs.Common.{arith, take}
use Rattle.std.proofs.lemmas.List.{length-take-le}
use Rattle.check_command.proofs.Piping.{first_of}
use Rattle.check_command.proofs.piped.has_long_first_line.Goals as goal

pub returns : goal.returns
returns c = λ none. (take 65536 c.args.bytes.now, first_of 65536 c.args.bytes.now, length-take-le 65536 c.args.bytes.now (omega arith), c.has_no_line_end.ensures none)
