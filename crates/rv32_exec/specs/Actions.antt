-- An action, as the meaning's stop or access.
use Rattle.std.specs.Prelude.{ℕ, ◌==◌, if◌then◌else◌, List, Option, Some, None}
use Rattle.rv32_decode.specs.declared.instruction.Instr.{Instr}
use Rattle.rv32_exec.specs.Meaning.{Access, Private, Loads, Stores, DoesLr, DoesSc, DoesAmo, Fences, Calls, Meaning, Stops, Does, access_of, stop_of}
use Rattle.rv32_exec.specs.declared.actions.Action.{Action}
use Rattle.rv32_exec.specs.declared.actions.Action.TheVariants as action
use Rattle.rv32_exec.specs.declared.actions.Width.{Width}
use Rattle.rv32_exec.specs.declared.actions.Width.TheVariants.{Byte, Half, Word}

-- the width of 1, 2 or 4 bytes
abbrev pub width_of : ℕ → Width
width_of bytes = if bytes == 1 then Byte else (if bytes == 2 then Half else Word)

abbrev pub action_of_access : Access → Action
action_of_access Private = action.Private
action_of_access (Loads address bytes) = action.Load address (width_of bytes)
action_of_access (Stores address bytes value) = action.Store address (width_of bytes) value
action_of_access (DoesLr address) = action.Lr address
action_of_access (DoesSc address value) = action.Sc address value
action_of_access (DoesAmo address op operand) = action.Amo address op operand
action_of_access Fences = action.Fence
action_of_access (Calls number argument) = action.Call

abbrev pub action_of : Meaning → Action
action_of (Stops code) = action.Stop code
action_of (Does effect) = action_of_access effect.access

-- the same from the stop code, if there is one, and from what else is planned
abbrev pub stop_or : Option ℕ → Action → Action
stop_or (Some code) p = action.Stop code
stop_or None p = p

abbrev pub planned : Instr → ℕ → List ℕ → ℕ → Action
planned i pc x size = stop_or (stop_of i pc x size) (action_of_access (access_of i x))

-- the address that an action's access begins at
abbrev pub addressed : Action → Option ℕ
addressed action.Private = None
addressed (action.Load address size) = Some address
addressed (action.Store address size value) = Some address
addressed (action.Lr address) = Some address
addressed (action.Sc address value) = Some address
addressed (action.Amo address op operand) = Some address
addressed action.Fence = None
addressed action.Call = None
addressed (action.Stop code) = None
