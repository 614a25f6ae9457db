-- By which numbers a hart makes its environment calls: x17 has a call's number.
use Rattle.std.specs.Prelude.{Bool, true, false, ◌&&◌, ◌||◌, not, List, [], ◌∷◌, Option, Some, is_some, replicate, slice_index_or}
use Rattle.rv32_decode.specs.declared.instruction.Instr.{Instr}
use Rattle.rv32_decode.specs.declared.instruction.Instr.TheVariants as instr
use Rattle.rv32_decode.specs.declared.instruction.SystemOp.TheVariants.{Ecall}
use Rattle.memory_model.specs.Dependencies.{holds, sources, uses_in, with_flags}
use Rattle.memory_model.specs.Items.{Item}

abbrev pub is_call : Option Instr → Bool
is_call (Some (instr.System Ecall)) = true
is_call _ = false

-- the registers whose numbers came from an operation behind this instruction: its destination, where it gave an operation or one of its sources held such a number
abbrev pub tainted_after : List Bool → Item → List Bool
tainted_after held m = with_flags held (is_some m.operation || holds held (sources (uses_in m.instr))) (uses_in m.instr).written

-- no call's number came from an operation, where these registers' did before
abbrev pub calls_by_own_numbers : List Bool → List Item → Bool
calls_by_own_numbers held [] = true
calls_by_own_numbers held (m ∷ rest) =
    not (is_call m.instr && slice_index_or held 17 false) && calls_by_own_numbers (tainted_after held m) rest

-- at reset no register's did
abbrev pub at_reset_none : List Bool
at_reset_none = replicate 32 false
