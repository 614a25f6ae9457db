use Rattle.std.proofs.Common.{◌≡◌, ◌&&◌, ◌||◌, drop}
use Rattle.memory_model.specs.Traces.{is_among, is_distinct}
use Rattle.trace_recorder.specs.declared.operation.OpId.{OpId}
use Rattle.trace_operations.specs.Indexed.{has_name}
use Rattle.trace_operations.proofs.Gathered.{are_new}
use Rattle.trace_operations.proofs.names.distinct_names.Given as goal

-- those still to come are no two alike, and none of them has come; a name has come, or else is still to come
abbrev pub invariant-loop-name : goal.invariant-loop-name
invariant-loop-name l = record {
  distinct : is_distinct l.list ≡ (is_distinct (drop l.name-index l.list) && are_new (has_name l.names) (drop l.name-index l.list));
  names : (n : OpId) → (has_name l.names n || is_among (drop l.name-index l.list) n) ≡ is_among l.list n;
}
