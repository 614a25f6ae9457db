-- The law of the completed order that needs coherence and the harts' reservations.
use Rattle.std.specs.Prelude.{IsTrue}
use Rattle.machine_model.specs.Laws.{Always}
use Rattle.memory_model.specs.Legal.{keeps_atomicity}
use Rattle.memory_model.specs.Traces.{completed, instructions, operations_at}

-- behind the store that an LR returned and before the SC paired with it, the completed order has no other hart's store to a byte of their word
abbrev pub AtomicityAlways : Type 0
AtomicityAlways = Always (λ image config s. IsTrue (keeps_atomicity (instructions s.trace) (operations_at (instructions s.trace) (completed s.trace))))
