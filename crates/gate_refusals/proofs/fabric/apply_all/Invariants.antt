use Rattle.std.proofs.Common.{◌≡◌, length}
use Rattle.gate_refusals.proofs.fabric.apply_all.Given as goal

abbrev pub invariant-loop-event : goal.invariant-loop-event
invariant-loop-event g l = length l.shares.items ≡ length l.initial.shares.items
