use Rattle.std.proofs.Common.{◌≡◌, length}
use Rattle.assembly_reading.specs.Tables.{seen, found}
use Rattle.assembly_reading.proofs.find.find.Given as goal

abbrev pub invariant-loop-rest : goal.invariant-loop-rest
invariant-loop-rest g l = found (seen l.rest) l.word ≡ found (seen l.table) l.word

abbrev pub decreases-loop-rest : goal.decreases-loop-rest
decreases-loop-rest g l = length l.rest
