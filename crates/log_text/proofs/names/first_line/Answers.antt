use Rattle.std.proofs.Common.{◌∙◌, sym}
use Rattle.log_text.proofs.Lines.{first_line, only_line}
use Rattle.log_text.proofs.names.first_line.Goals as goal

pub returns-in-Some-clause-lines : goal.returns-in-Some-clause-lines
returns-in-Some-clause-lines c = first_line c.args.text.now c.in-Some.at (sym c.in-Some.ensures.value)

pub returns-in-None-clause-lines : goal.returns-in-None-clause-lines
returns-in-None-clause-lines c = only_line c.args.text.now (sym c.in-None.ensures.value)
