-- What a hart does next.
use Rattle.std.specs.Prelude.{ℕ, length, Option, Some, None, if◌then◌else◌}
use Rattle.rv32_exec.specs.Image.{Initial, word_at}
use Rattle.hart.specs.Run.{can_fetch}
use Rattle.hart.specs.declared.state.Hart.{Hart}
use Rattle.rv32_decode.specs.Rows.{decoded}
use Rattle.rv32_decode.specs.declared.instruction.Instr.{Instr}
use Rattle.rv32_exec.specs.Actions.{planned}
use Rattle.rv32_exec.specs.declared.actions.Action.{Action}

-- the instruction at an address, if a word can be fetched there and is one
abbrev pub instr_at : Initial → ℕ → Option Instr
instr_at image pc = if can_fetch image pc then decoded (word_at image pc) else None

-- what an instruction comes to at this hart: its access, or its stop
abbrev pub action_at : Initial → Hart → Option Instr → Option Action
action_at image hart None = None
action_at image hart (Some i) = Some (planned i hart.pc hart.regs (length image.bytes))

abbrev pub next_action : Initial → Hart → Option Action
next_action image hart = action_at image hart (instr_at image hart.pc)
