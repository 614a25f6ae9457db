use Rattle.std.proofs.Common.{◌≡◌, ℕ, [], ◌∷◌, ◌++◌, ◌&&◌, if◌then◌else◌}
use Rattle.std.specs.Prelude.{nat_eq, nat_le, nat_lt}
use Rattle.std.specs.Option.{option_map_or}
use Rattle.std.specs.HashMap as hash
use Rattle.trace_operations.proofs.index.push_bytes.Given as goal

-- the bytes so far have the store
abbrev pub invariant-loop-x : goal.invariant-loop-x
invariant-loop-x l = (q : ℕ) → option_map_or (λ v. v.items) (hash.get nat_eq l.stores q) []
    ≡ option_map_or (λ v. v.items) (hash.get nat_eq l.fn.stores q) [] ++ (if nat_le l.a.address q && nat_lt q l.x then record { position = l.position; store = l.a } ∷ [] else [])
