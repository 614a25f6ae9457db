-- Laws of the completed order that need no coherence.
use Rattle.std.specs.Prelude.{IsTrue}
use Rattle.machine_model.specs.Laws.{Always}
use Rattle.memory_model.specs.Legal.{keeps_preserved_order}
use Rattle.memory_model.specs.Traces.{IsOrder, completed, instructions, operations_at}

-- the completed order has every operation once
abbrev pub OrderAlways : Type 0
OrderAlways = Always (λ image config s. IsOrder s.trace (completed s.trace))

-- the completed order keeps preserved program order under the configured model
abbrev pub PreservedAlways : Type 0
PreservedAlways = Always (λ image config s. IsTrue (keeps_preserved_order config.model (instructions s.trace) (operations_at (instructions s.trace) (completed s.trace))))
