use Rattle.std.proofs.Common.{◌≡◌, length}
use Rattle.text_fields.specs.Reading as reads
use Rattle.text_fields.proofs.reading.after.Given as goal

abbrev pub invariant-loop-wanted : goal.invariant-loop-wanted
invariant-loop-wanted l = reads.after l.wanted l.rest ≡ reads.after l.text l.bytes

abbrev pub decreases-loop-wanted : goal.decreases-loop-wanted
decreases-loop-wanted l = length l.wanted
