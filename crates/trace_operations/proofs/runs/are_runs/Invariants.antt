use Rattle.std.proofs.Common.{◌≡◌, length, drop}
use Rattle.memory_model.specs.Traces.{are_runs_from}
use Rattle.trace_operations.proofs.runs.are_runs.Given as goal

abbrev pub invariant-loop-id : goal.invariant-loop-id
invariant-loop-id l = are_runs_from l.trace.history.image (length l.trace.history.entries) 0 l.trace.history.entries l.trace.history.statuses ≡ are_runs_from l.trace.history.image (length l.trace.history.entries) l.id (drop l.id l.trace.history.entries) (drop l.id l.trace.history.statuses)
