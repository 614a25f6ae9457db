use Rattle.std.proofs.Common.{◌≡◌, ◌&&◌, ◌||◌, drop}
use Rattle.memory_model.specs.Traces.{is_among}
use Rattle.trace_recorder.specs.declared.operation.OpId.{OpId}
use Rattle.trace_operations.specs.Indexed.{has_name, is_listed}
use Rattle.trace_operations.proofs.names.names_of.Given as goal

-- a name that the trace has is in the table, or else is still to come
abbrev pub invariant-loop-name : goal.invariant-loop-name
invariant-loop-name l = (n : OpId) → (has_name l.names n || (is_listed l.trace.history n && is_among (drop l.name-index l.list) n)) ≡ (is_listed l.trace.history n && is_among l.list n)
