use Rattle.std.proofs.Common.{◌≡◌, ◌-◌}
use Rattle.litmus_parts.specs.Rows.{row_at}
use Rattle.litmus_parts.specs.Stops.{onto}
use Rattle.litmus_parts.proofs.columns.row_at.Given as goal

abbrev pub invariant-loop-hart : goal.invariant-loop-hart
invariant-loop-hart l = onto l.items.items (row_at l.harts (l.harts - l.hart) l.rest) ≡ onto l.initial.items.items (row_at l.harts l.harts l.bytes)
