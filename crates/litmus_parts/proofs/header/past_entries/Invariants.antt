use Rattle.std.proofs.Common.{◌≡◌, ◌-◌}
use Rattle.litmus_parts.specs.Header.{past_entries}
use Rattle.litmus_parts.proofs.header.past_entries.Given as goal

abbrev pub invariant-loop-taken : goal.invariant-loop-taken
invariant-loop-taken l = past_entries (1000 - l.taken) l.rest ≡ past_entries 1000 l.bytes
