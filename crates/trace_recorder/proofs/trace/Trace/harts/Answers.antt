use Rattle.std.proofs.Common.{ap}
use Rattle.trace_recorder.specs.History.{Recorded}
use Rattle.trace_recorder.proofs.Lists.{history_within}
use Rattle.trace_recorder.proofs.trace.Trace.harts.Goals as goal

pub returns-clause-within : goal.returns-clause-within
returns-clause-within c = history_within c.args.self.now.history c.self.inside.entries.items (ap (λ (r : Recorded). r.history.entries) c.self.view_is) c.self.invariant.1
