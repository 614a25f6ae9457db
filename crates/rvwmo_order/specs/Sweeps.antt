-- What an operation depends on through registers, found by one sweep back over its hart's list: the registers that are wanted are carried from it towards the list's front. The rules carry what came from an operation forward; both ways find the same.
use Rattle.std.specs.Prelude.{ℕ, Bool, false, ◌&&◌, ◌||◌, not, ◌==◌, nat_lt, if◌then◌else◌, List, [], ◌∷◌, ◌++◌, Option, Some, None, filter}
use Rattle.std.specs.List.{list_any}
use Rattle.hart.specs.Uses.{Uses}
use Rattle.memory_model.specs.declared.operation.Operation.{Operation}
use Rattle.memory_model.specs.Dependencies.{held_after, holds, sources, steers, uses_in}
use Rattle.memory_model.specs.Items.{Item}
use Rattle.memory_model.specs.Operations.{writes}
use Rattle.memory_model.specs.Rules.{returns_from}

-- ---- forwards: what came from an operation is in a register that one of these instructions asks for, or behind them in one of the last

abbrev pub carries : (Item → List ℕ) → List ℕ → List Bool → List Item → Bool
carries asks last held [] = holds held last
carries asks last held (m ∷ rest) = holds held (asks m) || carries asks last (held_after held (uses_in m.instr)) rest

-- ---- backwards: the registers that are wanted

-- a register of x0 to x31 is one of those that an instruction writes
abbrev pub is_written : List ℕ → ℕ → Bool
is_written written r = nat_lt r 32 && list_any (λ w. w == r) written

-- an instruction writes one of the wanted registers
abbrev pub gives_wanted : Uses → List ℕ → Bool
gives_wanted u wanted = list_any (is_written u.written) wanted

-- those wanted just before an instruction, where these are wanted just behind it: its sources in place of what it writes
abbrev pub wanted_before : Uses → List ℕ → List ℕ
wanted_before u wanted = if gives_wanted u wanted then filter (λ r. not (is_written u.written r)) wanted ++ sources u else wanted

-- those wanted just before a list of instructions
abbrev pub wanted_from : (Item → List ℕ) → List ℕ → List Item → List ℕ
wanted_from asks last [] = last
wanted_from asks last (m ∷ rest) = asks m ++ wanted_before (uses_in m.instr) (wanted_from asks last rest)

-- of each of these instructions: whether it writes a register that is wanted just behind it
abbrev pub marks_of : (Item → List ℕ) → List ℕ → List Item → List Bool
marks_of asks last [] = []
marks_of asks last (m ∷ rest) = gives_wanted (uses_in m.instr) (wanted_from asks last rest) ∷ marks_of asks last rest

-- ---- what the instructions between two operations ask for, by the rule

-- rules 9 and 10: nothing; the operation itself asks at the end
abbrev pub nothing : Item → List ℕ
nothing m = []

-- rule 11: a branch or a JALR asks for its sources
abbrev pub steering : Item → List ℕ
steering m = if steers m.instr then sources (uses_in m.instr) else []

-- rule 13: an access asks for its address
abbrev pub addressing : Item → List ℕ
addressing m = (uses_in m.instr).address

-- rule 12: a store whose value b returns asks for its address and its number
abbrev pub is_returned : List Operation → Operation → Option Operation → Bool
is_returned order b None = false
is_returned order b (Some s) = writes s.kind && returns_from order b s

abbrev pub passing : List Operation → Operation → Item → List ℕ
passing order b m = if is_returned order b m.operation then (uses_in m.instr).address ++ (uses_in m.instr).stored else []
