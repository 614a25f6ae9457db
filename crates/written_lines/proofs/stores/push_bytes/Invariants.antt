use Rattle.std.proofs.Common.{◌≡◌, ℕ, [], ◌∷◌, ◌++◌, ◌&&◌, if◌then◌else◌}
use Rattle.std.specs.Prelude.{nat_le, nat_lt}
use Rattle.written_lines.specs.Stores.{stored_in}
use Rattle.written_lines.proofs.stores.push_bytes.Given as goal

-- the bytes so far have the operation
abbrev pub invariant-loop-x : goal.invariant-loop-x
invariant-loop-x l = (q : ℕ) → stored_in l.by_byte q ≡ stored_in l.fn.by_byte q ++ (if nat_le l.operation.address q && nat_lt q l.x then l.operation ∷ [] else [])
