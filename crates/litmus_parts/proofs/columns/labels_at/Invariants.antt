use Rattle.std.proofs.Common.{◌≡◌, ◌-◌}
use Rattle.litmus_parts.specs.Rows.{labels_at}
use Rattle.litmus_parts.specs.Stops.{onto}
use Rattle.litmus_parts.proofs.columns.labels_at.Given as goal

abbrev pub invariant-loop-taken : goal.invariant-loop-taken
invariant-loop-taken l = onto l.items.items (labels_at l.hart (16 - l.taken) l.rest) ≡ onto l.initial.items.items (labels_at l.hart 16 l.bytes)
