use Rattle.trace_text.proofs.AnyLines.{good}
use Rattle.trace_text.proofs.trace_faults.is_good.Goals as goal

pub returns : goal.returns
returns c = good (λ r. r.now) c.args.head.now c.args.line.now c.after_line.result c.is_some.result c.requires c.after_line.ensures c.is_some.ensures
