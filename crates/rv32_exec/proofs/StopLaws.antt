-- What stops a hart is decided before anything is read.
use Rattle.std.proofs.Common.{◌≡◌, ℕ, List, Option, Some, None}
use Rattle.rv32_decode.specs.Rows.{decoded}
use Rattle.rv32_decode.specs.declared.instruction.Instr.{Instr}
use Rattle.rv32_exec.specs.Laws.{StopIsDecidedFirst}
use Rattle.rv32_exec.specs.Meaning.{Meaning, Stops, Does, Effect, effect_of, stop_of, meaning}

-- the meaning of a stop code, if there is one
abbrev outcome : Option ℕ → Effect → Meaning
outcome stop effect = elim stop [ Some code ↦ Stops code | None ↦ Does effect ]

same_stop : (stop : Option ℕ) (e f : Effect) (code : ℕ) → outcome stop e ≡ Stops code → outcome stop f ≡ Stops code
same_stop (Some c) e f code h = h
same_stop None e f code h = absurd (cc h)

abbrev of_word : Option Instr → ℕ → List ℕ → ℕ → ℕ → Meaning
of_word o pc x size read = elim o [ Some i ↦ meaning i pc x size read | None ↦ Stops 2 ]

decided : (o : Option Instr) (pc size read other code : ℕ) (x : List ℕ) → of_word o pc x size read ≡ Stops code → of_word o pc x size other ≡ Stops code
decided (Some i) pc size read other code x h = same_stop (stop_of i pc x size) (effect_of i pc x read) (effect_of i pc x other) code h
decided None pc size read other code x h = h

pub decided_first : StopIsDecidedFirst
decided_first word pc size read other code x h = decided (decoded word) pc size read other code x h
