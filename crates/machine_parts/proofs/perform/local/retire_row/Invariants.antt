use Rattle.std.proofs.Common.{◌≡◌, ◌+◌, ◌<◌, ◌≤◌, length, slice_index}
use Rattle.machine_types.specs.declared.limits.TheConstants.{MAX_ENTRIES}
use Rattle.hart.specs.Local.{private_row}
use Rattle.hart.specs.Run.{reached}
use Rattle.machine_model.specs.Changing.{with_entries}
use Rattle.trace_recorder.specs.History.{entries_of}
use Rattle.machine_parts.proofs.perform.local.retire_row.Given as goal

-- what is left of the row goes on from the last hart
abbrev pub invariant-loop-left : goal.invariant-loop-left
invariant-loop-left l =
    let image = l.fn.trace.history.image in
    record {
      row : with_entries l.hart (private_row image l.last l.left) l.trace.history ≡ with_entries l.hart (private_row image l.first l.count) l.fn.trace.history;
      leads : reached l.last (private_row image l.last l.left) ≡ reached l.first (private_row image l.first l.count);
      image : l.trace.history.image ≡ image;
      few : length (entries_of l.trace.history l.hart) + l.left ≤ MAX_ENTRIES;
      hart : l.hart < length l.trace.history.entries;
      room : l.left ≤ slice_index l.trace.room.entries l.hart;
    }

abbrev pub decreases-loop-left : goal.decreases-loop-left
decreases-loop-left l = l.left
