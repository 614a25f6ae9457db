use Rattle.std.proofs.Common.{◌∙◌, sym}
use Rattle.check_command.proofs.Traces.{stays, told_with}
use Rattle.check_command.proofs.messages.judged.Goals as goal

pub returns-then-not-are_lawful_by : goal.returns-then-not-are_lawful_by
returns-then-not-are_lawful_by c = stays c.args.ended c.args.profile c.args.log.now c.in_ok-verdict.verdict c.in_ok-verdict.ensures (sym c.are_lawful_by.ensures ∙ c.if-not-are_lawful_by.true)

pub returns : goal.returns
returns c = told_with c.args.ended c.args.profile c.args.log.now c.in_ok-verdict.verdict c.with_unwritten.result c.in_ok-unwritten.unwritten c.in_ok-verdict.ensures c.in_ok-unwritten.ensures c.with_unwritten.ensures
