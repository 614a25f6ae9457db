-- The operands of an instruction, with commas between; blanks may stand round each (RISC-V Unprivileged ISA 20191213, chapter 25).
use Rattle.std.specs.Prelude.{ℕ, Bool, true, false, List, [], ◌∷◌, Option, Some, None, if◌then◌else◌, codes}
use Rattle.std.specs.Option.{option_or}
use Rattle.text_fields.specs.Reading.{◌>>=◌, guarded}
use Rattle.text_words.specs.Words.{skip, word, past_word, symbol_at, name_at}
use Rattle.text_words.specs.Numbers.{number_of, negated_of, signed_at}
use Rattle.text_words.specs.declared.numbers.Number.{Number}
use Rattle.text_words.specs.declared.numbers.Number.TheVariants.{Word}
use Rattle.assembly_reading.specs.Registers.{register_of}
use Rattle.assembly_reading.specs.declared.operands.Operand.{Operand}
use Rattle.assembly_reading.specs.declared.operands.Operand.TheVariants as operand
use Rattle.assembly_reading.specs.declared.operands.Operands.{Operands}
use Rattle.assembly_reading.specs.declared.operands.Operands.TheVariants as operands

unfoldable pub register_at : List ℕ → Option (ℕ × List ℕ)
register_at bytes = register_of (word (skip bytes)) >>= λ r. Some (r, past_word (skip bytes))

unfoldable pub register_operand_at : List ℕ → Option (Operand × List ℕ)
register_operand_at bytes = register_at bytes >>= λ r. Some (operand.Register r.0, r.1)

-- a register in parentheses
unfoldable pub base_at : List ℕ → Option (ℕ × List ℕ)
base_at bytes = symbol_at (codes "(") bytes >>= λ inside. register_at inside >>= λ r. symbol_at (codes ")") r.1 >>= λ rest. Some (r.0, rest)

-- a number is an offset where a register in parentheses follows
abbrev pub with_base : Number → List ℕ → Option (ℕ × List ℕ) → Operand × List ℕ
with_base n rest None = (operand.Number n, rest)
with_base n rest (Some base) = (operand.Address n base.0, base.1)

unfoldable pub number_operand_at : List ℕ → Option (Operand × List ℕ)
number_operand_at bytes = signed_at bytes >>= λ n. Some (with_base n.0 n.1 (base_at n.1))

-- an address without an offset
unfoldable pub address_at : List ℕ → Option (Operand × List ℕ)
address_at bytes = base_at bytes >>= λ base. Some (operand.Address (Word 0) base.0, base.1)

-- how far from the instruction itself, which `.` stands for
unfoldable pub forward_at : List ℕ → Option (Operand × List ℕ)
forward_at bytes = symbol_at (codes ".+") bytes >>= λ rest. number_of (word rest) >>= λ n. Some (operand.Distance n, past_word rest)

unfoldable pub backward_at : List ℕ → Option (Operand × List ℕ)
backward_at bytes = symbol_at (codes ".-") bytes >>= λ rest. negated_of (word rest) >>= λ n. Some (operand.Distance n, past_word rest)

unfoldable pub name_operand_at : List ℕ → Option (Operand × List ℕ)
name_operand_at bytes = name_at bytes >>= λ name. Some (operand.Name name.0, name.1)

unfoldable pub operand_at : List ℕ → Option (Operand × List ℕ)
operand_at bytes =
    option_or (register_operand_at bytes) (option_or (number_operand_at bytes) (option_or (address_at bytes) (option_or (forward_at bytes) (option_or (backward_at bytes) (name_operand_at bytes)))))

abbrev pub is_none : List ℕ → Bool
is_none [] = true
is_none (b ∷ bytes) = false

-- nothing but blanks follows
abbrev pub is_end : List ℕ → Bool
is_end bytes = is_none (skip bytes)

unfoldable pub third_of : Operand → Operand → List ℕ → Option Operands
third_of first second bytes =
    if is_end bytes then Some (operands.Two first second)
    else (symbol_at (codes ",") bytes >>= λ rest. operand_at rest >>= λ third. guarded (is_end third.1) (operands.Three first second third.0))

unfoldable pub second_of : Operand → List ℕ → Option Operands
second_of first bytes =
    if is_end bytes then Some (operands.One first)
    else (symbol_at (codes ",") bytes >>= λ rest. operand_at rest >>= λ second. third_of first second.0 second.1)

-- none to three of them, and nothing else
unfoldable pub operands_of : List ℕ → Option Operands
operands_of bytes = if is_end bytes then Some operands.None else (operand_at bytes >>= λ first. second_of first.0 first.1)
