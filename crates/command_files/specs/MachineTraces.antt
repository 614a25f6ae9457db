-- The traces that machines lead to.
use Rattle.machine_model.specs.Laws.{Always}
use Rattle.trace_text.specs.TraceLimits.{IsTrace}

-- every machine's trace is within the limits of its text
abbrev pub EveryTraceHasAText : Type 0
EveryTraceHasAText = Always (λ image config s. IsTrace s.trace)
