use Rattle.check_command.proofs.Piping.{broken_in}
use Rattle.check_command.proofs.watch.Watch.broken_log.Goals as goal

pub returns-then-branch-clause-broken : goal.returns-then-branch-clause-broken
returns-then-branch-clause-broken c = broken_in c.args.bytes.now c.whole_lines-lines.result.now c.args.check c.unlawful_log.result c.whole_lines-lines.ensures c.unlawful_log.ensures
