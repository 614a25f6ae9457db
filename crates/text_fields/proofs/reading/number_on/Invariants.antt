use Rattle.std.proofs.Common.{◌≡◌, ◌≤◌, length}
use Rattle.text_fields.specs.Reading as reads
use Rattle.text_fields.proofs.reading.number_on.Given as goal

abbrev pub invariant-loop-rest : goal.invariant-loop-rest
invariant-loop-rest l = (l.value ≤ l.fn.most) × (l.limit ≡ l.fn.most) × (reads.number_on l.end l.fn.most l.rest l.value ≡ reads.number_on l.end l.fn.most l.bytes l.first)

abbrev pub decreases-loop-rest : goal.decreases-loop-rest
decreases-loop-rest l = length l.rest
