use Rattle.std.proofs.Common.{List, ◌≡◌, ◌+◌, ◌<◌, ◌^◌, length}
use Rattle.memory_model.specs.declared.operation.Operation.{Operation}
use Rattle.written_lines.specs.Stores.{AreStoresOf}
use Rattle.written_lines.specs.Written.{other_byte}
use Rattle.written_lines.proofs.writing.other_byte.Given as goal

-- what is found is what is found in the rest
abbrev pub invariant-loop-rest : goal.invariant-loop-rest
invariant-loop-rest l = ((performed : List Operation) → AreStoresOf l.stores performed → other_byte performed l.hart l.address l.granted l.bytes ≡ other_byte performed l.hart l.at l.before l.rest)
    × (l.at + length l.rest ≡ l.address + length l.bytes) × (length l.bytes < 2 ^ 63)

abbrev pub decreases-loop-rest : goal.decreases-loop-rest
decreases-loop-rest l = length l.rest
