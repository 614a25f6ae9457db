-- What stands behind an R line's fields: the instruction; and a line up to there.
use Rattle.std.specs.Prelude.{ℕ, List, ◌++◌, Option, Some, None, codes, option_map}
use Rattle.elf_symbols.specs.Named.{Named}
use Rattle.hart.specs.declared.retired.Retired.{Retired}
use Rattle.rv32_decode.specs.Rows.{decoded}
use Rattle.rv32_decode.specs.declared.instruction.Instr.{Instr}
use Rattle.trace_text.specs.Traces.{retired_ended, retired_lead, retired_text}
use Rattle.event_stream.specs.Naming.{instruction}

-- an instruction
abbrev pub comment : List Named → ℕ → Instr → List ℕ
comment names pc i = codes "; " ++ instruction names pc i

-- the same of a word, where it is an instruction
abbrev pub commented : List Named → ℕ → ℕ → Option (List ℕ)
commented names pc word = option_map (comment names pc) (decoded word)

-- an R line up to the end of its instruction, or whole where its word is none
abbrev pub start_by : List Named → ℕ → Retired → Option Instr → List ℕ
start_by names h r None = retired_lead h ++ retired_text r
start_by names h r (Some i) = (retired_lead h ++ retired_ended 32 r) ++ comment names r.pc i

abbrev pub start : List Named → ℕ → Retired → List ℕ
start names h r = start_by names h r (decoded r.word)
