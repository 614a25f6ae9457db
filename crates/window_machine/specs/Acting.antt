-- Actions of instructions: of which kind their accesses are, and where they lie.
use Rattle.std.specs.Prelude.{Bool, true, false, ◌&&◌}
use Rattle.memory_model.specs.declared.operation.Kind.{Kind}
use Rattle.memory_model.specs.declared.operation.Kind.TheVariants as kind
use Rattle.rv32_decode.specs.declared.instruction.Instr.{Instr}
use Rattle.rv32_decode.specs.declared.instruction.Instr.TheVariants as instr
use Rattle.rv32_exec.specs.Width.{byte_count}
use Rattle.rv32_exec.specs.declared.actions.Action.{Action}
use Rattle.rv32_exec.specs.declared.actions.Action.TheVariants.{Load, Store, Lr, Sc, Amo}
use Rattle.window_machine.specs.Lanes.{are_placed}

-- the instruction is an access of this kind
abbrev pub is_of : Instr → Kind → Bool
is_of (instr.Load op rd rs1 offset) kind.Load = true
is_of (instr.Store op rs1 rs2 offset) kind.Store = true
is_of (instr.Lr rd rs1 bits) kind.Lr = true
is_of (instr.Sc rd rs1 rs2 bits) kind.Sc = true
is_of (instr.Amo op rd rs1 rs2 bits) kind.Amo = true
is_of _ _ = false

-- the action is that of such an instruction, or accesses nothing; its bytes, where it has any, are aligned and begin in memory
abbrev pub is_placed : Instr → Action → Bool
is_placed i (Load address size) = is_of i kind.Load && are_placed address (byte_count size)
is_placed i (Store address size value) = is_of i kind.Store && are_placed address (byte_count size)
is_placed i (Lr address) = is_of i kind.Lr && are_placed address 4
is_placed i (Sc address value) = is_of i kind.Sc && are_placed address 4
is_placed i (Amo address op operand) = is_of i kind.Amo && are_placed address 4
is_placed i _ = true
