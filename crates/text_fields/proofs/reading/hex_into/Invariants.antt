use Rattle.std.proofs.Common.{◌≡◌, ◌-◌, length, take}
use Rattle.text_fields.specs.Reading as reads
use Rattle.text_fields.proofs.Loops.{fronted}
use Rattle.text_fields.proofs.reading.hex_into.Given as goal

abbrev pub invariant-loop-i : goal.invariant-loop-i
invariant-loop-i l = fronted (take l.i l.out) (reads.hex_at (length l.out - l.i) l.rest) ≡ reads.hex_at (length l.fn.out) l.bytes
