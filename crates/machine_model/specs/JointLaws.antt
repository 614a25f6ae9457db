-- The law of the completed order that needs coherence.
use Rattle.std.specs.Prelude.{IsTrue}
use Rattle.machine_model.specs.Laws.{Always}
use Rattle.memory_model.specs.Legal.{keeps_load_values}
use Rattle.memory_model.specs.Traces.{completed, image_of, instructions, operations_at}

-- each load returns, byte by byte, what the last store that it may see in the completed order wrote
abbrev pub LoadValuesAlways : Type 0
LoadValuesAlways = Always (λ image config s. IsTrue (keeps_load_values (image_of s.trace) (operations_at (instructions s.trace) (completed s.trace))))
