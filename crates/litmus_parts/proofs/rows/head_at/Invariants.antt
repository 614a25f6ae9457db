use Rattle.std.proofs.Common.{◌≡◌, ◌-◌}
use Rattle.litmus_parts.specs.Rows.{head_at}
use Rattle.litmus_parts.proofs.rows.head_at.Given as goal

abbrev pub invariant-loop-hart : goal.invariant-loop-hart
invariant-loop-hart l = head_at (8 - l.hart) l.hart l.rest ≡ head_at 8 0 l.bytes
