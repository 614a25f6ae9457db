-- Reservations along a hart's list (RISC-V Unprivileged ISA 20191213, chapter 8.2): an LR reserves its word, and the next SC ends the reservation, whether it succeeds or not.
use Rattle.std.specs.Prelude.{ℕ, Bool, true, false, ◌&&◌, ◌||◌, not, ◌==◌, if◌then◌else◌, List, [], ◌∷◌, Option, Some, None}
use Rattle.rv32_decode.specs.declared.instruction.Instr.{Instr}
use Rattle.memory_model.specs.declared.operation.Operation.{Operation}
use Rattle.memory_model.specs.Operations.{is_lr, is_sc}
use Rattle.memory_model.specs.Items.{Item}
use Rattle.memory_model.specs.Rules.{is_lr_or_sc}

-- what a reservation of this word is after an instruction with this operation
abbrev pub reserved_by : Option Operation → Option ℕ
reserved_by None = None
reserved_by (Some b) = if is_lr b.kind then Some b.address else None

abbrev pub reserved_behind : Option ℕ → Option Instr → Option Operation → Option ℕ
reserved_behind word i o = if is_lr_or_sc i then reserved_by o else word

abbrev pub is_reserved : Option ℕ → ℕ → Bool
is_reserved None address = false
is_reserved (Some word) address = word == address

-- an SC that succeeds has its word reserved; a failed SC has no operation
abbrev pub may_do : Option ℕ → Option Operation → Bool
may_do word None = true
may_do word (Some b) = not (is_sc b.kind) || is_reserved word b.address

-- each SC of a list that succeeds is paired with an LR of its word
abbrev pub are_reserved : Option ℕ → List Item → Bool
are_reserved word [] = true
are_reserved word (m ∷ rest) = may_do word m.operation && are_reserved (reserved_behind word m.instr m.operation) rest
