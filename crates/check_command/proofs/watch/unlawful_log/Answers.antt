use Rattle.std.proofs.Common.{◌∙◌, sym}
use Rattle.check_command.proofs.Logs.{log_there, unlawful_by}
use Rattle.check_command.proofs.watch.unlawful_log.Goals as goal

pub returns : goal.returns
returns c = (
  log_there c.args.check.skip c.args.lines.now c.in_ok-read.field-0 c.in-Some.read c.in-Some.is c.in_ok-read.ensures,
  unlawful_by c.args.check.profile c.in-Some.read.log c.in_ok-verdict.verdict c.in_ok-verdict.ensures (sym c.are_lawful_by.ensures ∙ c.if-are_lawful_by.false),
)
