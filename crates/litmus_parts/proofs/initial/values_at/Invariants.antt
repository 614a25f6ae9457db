use Rattle.std.proofs.Common.{◌≡◌, ◌-◌}
use Rattle.litmus_parts.specs.Initial.{values_at}
use Rattle.litmus_parts.specs.Stops.{onto}
use Rattle.litmus_parts.proofs.initial.values_at.Given as goal

abbrev pub invariant-loop-taken : goal.invariant-loop-taken
invariant-loop-taken l = onto l.values.items (values_at (400 - l.taken) l.rest) ≡ values_at 400 l.bytes
