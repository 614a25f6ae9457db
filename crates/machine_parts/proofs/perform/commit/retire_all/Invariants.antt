use Rattle.std.proofs.Common.{◌≡◌, ◌+◌, ◌<◌, ◌≤◌, length, slice_index}
use Rattle.machine_types.specs.declared.limits.TheConstants.{MAX_ENTRIES}
use Rattle.machine_model.specs.Changing.{with_entries}
use Rattle.trace_recorder.specs.History.{entries_of}
use Rattle.machine_parts.proofs.perform.commit.retire_all.Given as goal

abbrev pub invariant-loop-rest : goal.invariant-loop-rest
invariant-loop-rest l = record {
  row : with_entries l.hart l.rest l.trace.history ≡ with_entries l.hart l.entries l.fn.trace.history;
  few : length (entries_of l.trace.history l.hart) + length l.rest ≤ MAX_ENTRIES;
  hart : l.hart < length l.trace.history.entries;
  room : length l.rest ≤ slice_index l.trace.room.entries l.hart;
}

abbrev pub decreases-loop-rest : goal.decreases-loop-rest
decreases-loop-rest l = length l.rest
