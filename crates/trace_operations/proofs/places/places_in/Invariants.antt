use Rattle.std.proofs.Common.{◌≡◌, drop}
use Rattle.std.specs.Option.{option_or}
use Rattle.memory_model.specs.declared.operation.Operation.{Operation}
use Rattle.trace_operations.specs.Indexed.{known, number_in, place_from}
use Rattle.trace_operations.proofs.places.places_in.Given as goal

-- an operation stands where the table has it, or else where it is still to come
abbrev pub invariant-loop-position : goal.invariant-loop-position
invariant-loop-position l = (a : Operation) → option_or (known (number_in a.hart a.place l.places)) (place_from l.position a (drop l.position l.order)) ≡ place_from 0 a l.order
