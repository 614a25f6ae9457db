-- What a mnemonic makes of its operands (RISC-V Unprivileged ISA 20191213, chapters 2, 7, 8 and 25).
use Rattle.std.specs.Prelude.{ℕ, Bool, false, ◌+◌, ◌-◌, ◌%◌, ◌^◌, ◌==◌, Option, Some, None, Result, Ok, Err, if◌then◌else◌}
use Rattle.text_fields.specs.Reading.{◌>>=◌, guarded}
use Rattle.rv32_decode.specs.Fields.{extended_by}
use Rattle.rv32_decode.specs.declared.instruction.Annotations.{Annotations}
use Rattle.rv32_decode.specs.declared.instruction.UpperOp.{UpperOp}
use Rattle.rv32_decode.specs.declared.instruction.UpperOp.TheVariants.{Lui}
use Rattle.rv32_decode.specs.declared.instruction.BranchOp.{BranchOp}
use Rattle.rv32_decode.specs.declared.instruction.LoadOp.{LoadOp}
use Rattle.rv32_decode.specs.declared.instruction.StoreOp.{StoreOp}
use Rattle.rv32_decode.specs.declared.instruction.ImmediateOp.{ImmediateOp}
use Rattle.rv32_decode.specs.declared.instruction.ImmediateOp.TheVariants.{Addi, Sltiu, Xori}
use Rattle.rv32_decode.specs.declared.instruction.ShiftOp.{ShiftOp}
use Rattle.rv32_decode.specs.declared.instruction.RegisterOp.{RegisterOp}
use Rattle.rv32_decode.specs.declared.instruction.RegisterOp.TheVariants.{Sub, Sltu}
use Rattle.rv32_decode.specs.declared.instruction.AmoOp.{AmoOp}
use Rattle.rv32_decode.specs.declared.instruction.Instr.{Instr}
use Rattle.rv32_decode.specs.declared.instruction.Instr.TheVariants as instr
use Rattle.text_words.specs.declared.numbers.Number.{Number}
use Rattle.text_words.specs.declared.numbers.Number.TheVariants.{Word, Wide}
use Rattle.assembly_reading.specs.Numbers as number
use Rattle.assembly_reading.specs.Sets.{set_of}
use Rattle.assembly_reading.specs.declared.statement.Statement.{Statement}
use Rattle.assembly_reading.specs.declared.statement.Statement.TheVariants as statement
use Rattle.assembly_reading.specs.declared.statement.StatementError.{StatementError}
use Rattle.assembly_reading.specs.declared.statement.StatementError.TheVariants.{OtherArchitecture, NoInstruction}
use Rattle.assembly_reading.specs.declared.forms.Plain.{Plain}
use Rattle.assembly_reading.specs.declared.forms.Plain.TheVariants as plain
use Rattle.assembly_reading.specs.declared.forms.Atomic.{Atomic}
use Rattle.assembly_reading.specs.declared.forms.Atomic.TheVariants as atomic
use Rattle.assembly_reading.specs.declared.operands.Operand.{Operand}
use Rattle.assembly_reading.specs.declared.operands.Operand.TheVariants as operand
use Rattle.assembly_reading.specs.declared.operands.Operands.{Operands}
use Rattle.assembly_reading.specs.declared.operands.Operands.TheVariants as operands

abbrev pub Answer : Type 0
Answer = Result Statement StatementError

-- an operand as a register, a number, an address
abbrev pub register_in : Operand → Option ℕ
register_in (operand.Register r) = Some r
register_in (operand.Number n) = None
register_in (operand.Address n r) = None
register_in (operand.Distance n) = None
register_in (operand.Name text) = None

abbrev pub number_in : Operand → Option Number
number_in (operand.Register r) = None
number_in (operand.Number n) = Some n
number_in (operand.Address n r) = None
number_in (operand.Distance n) = None
number_in (operand.Name text) = None

abbrev pub address_in : Operand → Option (Number × ℕ)
address_in (operand.Register r) = None
address_in (operand.Number n) = None
address_in (operand.Address n r) = Some (n, r)
address_in (operand.Distance n) = None
address_in (operand.Name text) = None

-- as many operands as there have to be
abbrev pub one_in : Operands → Option Operand
one_in operands.None = None
one_in (operands.One a) = Some a
one_in (operands.Two a b) = None
one_in (operands.Three a b c) = None

abbrev pub two_in : Operands → Option (Operand × Operand)
two_in operands.None = None
two_in (operands.One a) = None
two_in (operands.Two a b) = Some (a, b)
two_in (operands.Three a b c) = None

abbrev pub three_in : Operands → Option (Operand × Operand × Operand)
three_in operands.None = None
three_in (operands.One a) = None
three_in (operands.Two a b) = None
three_in (operands.Three a b c) = Some (a, b, c)

-- a register and another operand, as a register, a number, an address
abbrev pub register_and_target : Operands → Option (ℕ × Operand)
register_and_target given = two_in given >>= λ x. register_in x.0 >>= λ r. Some (r, x.1)

abbrev pub two_registers : Operands → Option (ℕ × ℕ)
two_registers given = register_and_target given >>= λ x. register_in x.1 >>= λ r. Some (x.0, r)

abbrev pub register_and_number : Operands → Option (ℕ × Number)
register_and_number given = register_and_target given >>= λ x. number_in x.1 >>= λ n. Some (x.0, n)

abbrev pub register_and_address : Operands → Option (ℕ × (Number × ℕ))
register_and_address given = register_and_target given >>= λ x. address_in x.1 >>= λ a. Some (x.0, a)

-- two registers and another operand, as a register, a number
abbrev pub two_registers_and_target : Operands → Option (ℕ × ℕ × Operand)
two_registers_and_target given = three_in given >>= λ x. register_in x.0 >>= λ r. register_in x.1 >>= λ s. Some (r, s, x.2)

abbrev pub three_registers : Operands → Option (ℕ × ℕ × ℕ)
three_registers given = two_registers_and_target given >>= λ x. register_in x.2 >>= λ r. Some (x.0, x.1, r)

abbrev pub two_registers_and_number : Operands → Option (ℕ × ℕ × Number)
two_registers_and_number given = two_registers_and_target given >>= λ x. number_in x.2 >>= λ n. Some (x.0, x.1, n)

-- what operands of the right kind make; others make nothing
abbrev pub with : {A : Type 0} → Option A → (A → Answer) → Answer
with (Some x) answer = answer x
with None answer = Err NoInstruction

-- an instruction with a number that it can hold
abbrev pub holding : Result ℕ StatementError → (ℕ → Instr) → Answer
holding (Ok n) instr_of = Ok (statement.One (instr_of n))
holding (Err e) instr_of = Err e

abbrev pub upper : UpperOp → Operands → Answer
upper op given = with (register_and_number given) (λ x. holding (number.upper x.1) (λ imm. instr.Upper op x.0 imm))

-- to a label, or by a distance
abbrev pub jump : ℕ → Operand → Answer
jump rd (operand.Name label) = Ok (statement.Jump rd label)
jump rd (operand.Distance n) = holding (number.jump_offset n) (λ offset. instr.Jal rd offset)
jump rd other = Err NoInstruction

abbrev pub jal : Operands → Answer
jal given = with (register_and_target given) (λ x. jump x.0 x.1)

abbrev pub j : Operands → Answer
j given = with (one_in given) (λ target. jump 0 target)

abbrev pub jalr : Operands → Answer
jalr given = with (register_and_address given) (λ x. holding (number.immediate x.1.0) (λ offset. instr.Jalr x.0 x.1.1 offset))

abbrev pub branch_to : BranchOp → ℕ → ℕ → Operand → Answer
branch_to op rs1 rs2 (operand.Name label) = Ok (statement.Branch op rs1 rs2 label)
branch_to op rs1 rs2 (operand.Distance n) = holding (number.branch_offset n) (λ offset. instr.Branch op rs1 rs2 offset)
branch_to op rs1 rs2 other = Err NoInstruction

abbrev pub branch : BranchOp → Operands → Answer
branch op given = with (two_registers_and_target given) (λ x. branch_to op x.0 x.1 x.2)

-- written the other way round
abbrev pub exchanged : BranchOp → Operands → Answer
exchanged op given = with (two_registers_and_target given) (λ x. branch_to op x.1 x.0 x.2)

-- a register compared with x0, and x0 with a register
abbrev pub with_zero : BranchOp → Operands → Answer
with_zero op given = with (register_and_target given) (λ x. branch_to op x.0 0 x.1)

abbrev pub zero_with : BranchOp → Operands → Answer
zero_with op given = with (register_and_target given) (λ x. branch_to op 0 x.0 x.1)

abbrev pub load : LoadOp → Operands → Answer
load op given = with (register_and_address given) (λ x. holding (number.immediate x.1.0) (λ offset. instr.Load op x.0 x.1.1 offset))

abbrev pub store : StoreOp → Operands → Answer
store op given = with (register_and_address given) (λ x. holding (number.immediate x.1.0) (λ offset. instr.Store op x.1.1 x.0 offset))

abbrev pub immediate : ImmediateOp → Operands → Answer
immediate op given = with (two_registers_and_number given) (λ x. holding (number.immediate x.2) (λ imm. instr.Immediate op x.0 x.1 imm))

abbrev pub shift : ShiftOp → Operands → Answer
shift op given = with (two_registers_and_number given) (λ x. holding (number.amount x.2) (λ amount. instr.Shift op x.0 x.1 amount))

abbrev pub register : RegisterOp → Operands → Answer
register op given = with (three_registers given) (λ x. Ok (statement.One (instr.Register op x.0 x.1 x.2)))

abbrev pub is_zero : Number → Bool
is_zero (Word n) = n == 0
is_zero Wide = false

-- a set by its letters; 0 is the empty one
abbrev pub set : Operand → Option ℕ
set (operand.Register r) = None
set (operand.Number n) = if is_zero n then Some 0 else None
set (operand.Address n r) = None
set (operand.Distance n) = None
set (operand.Name letters) = set_of letters

abbrev pub fence_with : Option ℕ → Option ℕ → Answer
fence_with (Some before) (Some after) = Ok (statement.One (instr.Fence (record { before = before; after = after })))
fence_with (Some before) None = Err NoInstruction
fence_with None after = Err NoInstruction

-- without sets it orders all accesses
abbrev pub fence : Operands → Answer
fence operands.None = Ok (statement.One (instr.Fence (record { before = 15; after = 15 })))
fence (operands.One a) = Err NoInstruction
fence (operands.Two before after) = fence_with (set before) (set after)
fence (operands.Three a b c) = Err NoInstruction

-- a statement without operands
abbrev pub bare : Statement → Operands → Answer
bare s operands.None = Ok s
bare s other = Err NoInstruction

abbrev pub add_immediate : ℕ → ℕ → ℕ → Instr
add_immediate rd rs1 imm = instr.Immediate Addi rd rs1 imm

abbrev pub load_upper : ℕ → ℕ → Instr
load_upper rd imm = instr.Upper Lui rd imm

-- the low twelve bits of a number as a signed one, and what has to be added to it
abbrev pub low_part : ℕ → ℕ
low_part n = extended_by 2048 (n % 4096)

abbrev pub high_part : ℕ → ℕ
high_part n = (n + (2 ^ 32 - low_part n)) % 2 ^ 32

-- a register is set by an ADDI if the number has 12 bits, by a LUI if its low twelve bits are 0, and else by both
abbrev pub load_word : ℕ → ℕ → Statement
load_word rd n =
    if high_part n == 0 then statement.One (add_immediate rd 0 (low_part n))
    else if low_part n == 0 then statement.One (load_upper rd (high_part n))
    else statement.Two (load_upper rd (high_part n)) (add_immediate rd rd (low_part n))

abbrev pub loaded : ℕ → Number → Answer
loaded rd (Word n) = Ok (load_word rd n)
loaded rd Wide = Err OtherArchitecture

abbrev pub li : Operands → Answer
li given = with (register_and_number given) (λ x. loaded x.0 x.1)

-- an instruction on an immediate that is written with two registers
abbrev pub unary : ImmediateOp → ℕ → Operands → Answer
unary op imm given = with (two_registers given) (λ x. Ok (statement.One (instr.Immediate op x.0 x.1 imm)))

-- one on two registers, the first of them x0
abbrev pub from_zero : RegisterOp → Operands → Answer
from_zero op given = with (two_registers given) (λ x. Ok (statement.One (instr.Register op x.0 0 x.1)))

-- what a mnemonic without aq and rl makes of its operands; the aliases are those of chapter 25
abbrev pub plain_statement : Plain → Operands → Answer
plain_statement (plain.Upper op) given = upper op given
plain_statement plain.Jal given = jal given
plain_statement plain.Jalr given = jalr given
plain_statement (plain.Branch op) given = branch op given
plain_statement (plain.Exchanged op) given = exchanged op given
plain_statement (plain.Zero op) given = with_zero op given
plain_statement (plain.ZeroExchanged op) given = zero_with op given
plain_statement (plain.Load op) given = load op given
plain_statement (plain.Store op) given = store op given
plain_statement (plain.Immediate op) given = immediate op given
plain_statement (plain.Shift op) given = shift op given
plain_statement (plain.Register op) given = register op given
plain_statement plain.Fence given = fence given
plain_statement plain.FenceTso given = bare (statement.One instr.FenceTso) given
plain_statement plain.FenceI given = bare statement.Nothing given
plain_statement (plain.System op) given = bare (statement.One (instr.System op)) given
plain_statement plain.Li given = li given
plain_statement plain.Mv given = unary Addi 0 given
plain_statement plain.Not given = unary Xori (2 ^ 32 - 1) given
plain_statement plain.Neg given = from_zero Sub given
plain_statement plain.Seqz given = unary Sltiu 1 given
plain_statement plain.Snez given = from_zero Sltu given
plain_statement plain.Nop given = bare (statement.One (add_immediate 0 0 0)) given
plain_statement plain.J given = j given

-- the register of an address without an offset, or with the offset 0
abbrev pub at : Operand → Option ℕ
at given = address_in given >>= λ a. guarded (is_zero a.0) a.1

abbrev pub load_reserved : Annotations → Operands → Answer
load_reserved bits given = with (register_and_target given) (λ x. with (at x.1) (λ rs1. Ok (statement.One (instr.Lr x.0 rs1 bits))))

abbrev pub store_conditional : Annotations → Operands → Answer
store_conditional bits given = with (two_registers_and_target given) (λ x. with (at x.2) (λ rs1. Ok (statement.One (instr.Sc x.0 rs1 x.1 bits))))

abbrev pub amo : AmoOp → Annotations → Operands → Answer
amo op bits given = with (two_registers_and_target given) (λ x. with (at x.2) (λ rs1. Ok (statement.One (instr.Amo op x.0 rs1 x.1 bits))))

-- what LR, SC and the AMOs make of their operands
abbrev pub atomic_statement : Atomic → Annotations → Operands → Answer
atomic_statement atomic.Lr bits given = load_reserved bits given
atomic_statement atomic.Sc bits given = store_conditional bits given
atomic_statement (atomic.Amo op) bits given = amo op bits given
