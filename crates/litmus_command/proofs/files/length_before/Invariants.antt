use Rattle.std.proofs.Common.{◌≡◌, ◌+◌, length}
use Rattle.litmus_command.specs.Listing.{length_before}
use Rattle.litmus_command.proofs.files.length_before.Given as goal

abbrev pub invariant-loop-rest : goal.invariant-loop-rest
invariant-loop-rest l = record {
  value : l.length + length_before l.mark l.rest ≡ length_before l.mark l.bytes;
  count : l.length + length l.rest ≡ length l.bytes;
}

abbrev pub decreases-loop-rest : goal.decreases-loop-rest
decreases-loop-rest l = length l.rest
