-- What an environment call asks for. The manual leaves that to the environment (chapter 2.8): these calls are this machine's own.
use Rattle.std.specs.Prelude.{ℕ, List, Option, Some, None, slice_index}
use Rattle.rv32_exec.specs.Meaning.{Access, Calls}
use Rattle.rv32_exec.specs.declared.call.Call.{Call}

-- its number stands in x17, its argument in x10
abbrev pub asked_in : List ℕ → Call
asked_in x = record { number = slice_index x 17; argument = slice_index x 10 }

-- what an access asks for, where it is an environment call
abbrev pub asked_by : Access → Option Call
asked_by (Calls number argument) = Some (record { number = number; argument = argument })
asked_by _ = None
