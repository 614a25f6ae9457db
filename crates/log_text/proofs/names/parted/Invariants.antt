use Rattle.std.proofs.Common.{◌≡◌, ◌+◌, length}
use Rattle.log_text.specs.Names.{parted}
use Rattle.log_text.proofs.names.parted.Given as goal

abbrev pub invariant-loop-rest : goal.invariant-loop-rest
invariant-loop-rest l = record {
  answer : parted l.before l.rest ≡ parted l.fn.lead l.fn.bytes;
  place : l.before + length l.rest ≡ l.fn.lead + length l.fn.bytes;
}

abbrev pub decreases-loop-rest : goal.decreases-loop-rest
decreases-loop-rest l = length l.rest
