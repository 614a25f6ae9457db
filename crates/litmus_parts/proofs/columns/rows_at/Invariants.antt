use Rattle.std.proofs.Common.{◌≡◌, ◌-◌}
use Rattle.litmus_parts.specs.Rows.{rows_at}
use Rattle.litmus_parts.specs.Stops.{onto}
use Rattle.litmus_parts.proofs.columns.rows_at.Given as goal

abbrev pub invariant-loop-taken : goal.invariant-loop-taken
invariant-loop-taken l = onto l.items.items (rows_at l.harts (1000 - l.taken) l.rest) ≡ onto l.initial.items.items (rows_at l.harts 1000 l.bytes)
