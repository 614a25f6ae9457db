-- What a walk along a hart's list carries: weights of operations, in the registers that hold what came from them.
use Rattle.std.specs.Prelude.{ℕ, max, if◌then◌else◌, List, [], ◌∷◌, Option, Some, None, replicate, slice_index_or, slice_set}
use Rattle.rv32_decode.specs.declared.instruction.Instr.{Instr}
use Rattle.hart.specs.Uses.{uses_of}
use Rattle.memory_model.specs.Dependencies.{sources, steers}
use Rattle.memory_model.specs.Items.{Item}
use Rattle.rvwmo_order.specs.declared.bounds.carried.Carried.{Carried}

abbrev pub nothing_carried : Carried
nothing_carried = record { registers = replicate 32 0; steered = 0; addressed = 0 }

-- the greatest weight in one of these registers
abbrev pub greatest : List ℕ → List ℕ → ℕ
greatest weights [] = 0
greatest weights (r ∷ rest) = max (slice_index_or weights r 0) (greatest weights rest)

abbrev pub with_each : List ℕ → ℕ → List ℕ → List ℕ
with_each weights weight [] = weights
with_each weights weight (r ∷ rest) = with_each (slice_set weights r weight) weight rest

-- behind an instruction whose operation, where it has one, has this weight: its destination has the greatest weight of its sources and of itself
abbrev pub carried_after : ℕ → Option Instr → Carried → Carried
carried_after own None c = c
carried_after own (Some i) c = record {
  registers = with_each c.registers (max (greatest c.registers (sources (uses_of i))) own) (uses_of i).written;
  steered = if steers (Some i) then max c.steered (greatest c.registers (sources (uses_of i))) else c.steered;
  addressed = max c.addressed (greatest c.registers (uses_of i).address);
}

-- behind a list of instructions, for the weight of each
abbrev pub carried_behind : (Item → ℕ) → Carried → List Item → Carried
carried_behind own c [] = c
carried_behind own c (m ∷ rest) = carried_behind own (carried_after (own m) m.instr c) rest
