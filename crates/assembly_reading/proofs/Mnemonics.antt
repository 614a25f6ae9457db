-- Each mnemonic of `assembly` is read as the form that it names.
use Rattle.std.proofs.Common.{◌≡◌, ℕ, Bool, true, false, List, ◌∷◌, ◌++◌, refl}
use Rattle.std.specs.Prelude.{codes}
use Rattle.rv32_decode.specs.declared.instruction.UpperOp.{UpperOp}
use Rattle.rv32_decode.specs.declared.instruction.UpperOp.TheVariants.{Lui, Auipc}
use Rattle.rv32_decode.specs.declared.instruction.BranchOp.{BranchOp}
use Rattle.rv32_decode.specs.declared.instruction.BranchOp.TheVariants.{Beq, Bne, Blt, Bge, Bltu, Bgeu}
use Rattle.rv32_decode.specs.declared.instruction.LoadOp.{LoadOp}
use Rattle.rv32_decode.specs.declared.instruction.LoadOp.TheVariants.{Lb, Lh, Lw, Lbu, Lhu}
use Rattle.rv32_decode.specs.declared.instruction.StoreOp.{StoreOp}
use Rattle.rv32_decode.specs.declared.instruction.StoreOp.TheVariants.{Sb, Sh, Sw}
use Rattle.rv32_decode.specs.declared.instruction.ImmediateOp.{ImmediateOp}
use Rattle.rv32_decode.specs.declared.instruction.ImmediateOp.TheVariants.{Addi, Slti, Sltiu, Xori, Ori, Andi}
use Rattle.rv32_decode.specs.declared.instruction.ShiftOp.{ShiftOp}
use Rattle.rv32_decode.specs.declared.instruction.ShiftOp.TheVariants.{Slli, Srli, Srai}
use Rattle.rv32_decode.specs.declared.instruction.RegisterOp.{RegisterOp}
use Rattle.rv32_decode.specs.declared.instruction.RegisterOp.TheVariants.{Add, Sub, Sll, Slt, Sltu, Xor, Srl, Sra, Or, And, Mul, Mulh, Mulhsu, Mulhu, Div, Divu, Rem, Remu}
use Rattle.rv32_decode.specs.declared.instruction.AmoOp.{AmoOp}
use Rattle.rv32_decode.specs.declared.instruction.AmoOp.TheVariants as op
use Rattle.rv32_decode.specs.declared.instruction.Annotations.{Annotations}
use Rattle.assembly.specs.Mnemonics as name
use Rattle.assembly.specs.Operands.{suffix, suffix_by}
use Rattle.assembly_reading.specs.Suffixes.{bits, bits_of}
use Rattle.assembly_reading.specs.Forms.{form_of}
use Rattle.assembly_reading.specs.Formats.{plain_statement, atomic_statement}
use Rattle.assembly_reading.specs.Operands.{operands_of}
use Rattle.assembly_reading.specs.Reading.{given, statement_in}
use Rattle.assembly_reading.specs.declared.forms.Plain.TheVariants as plain
use Rattle.assembly_reading.specs.declared.forms.Atomic.TheVariants as atomic

pub upper_named : (o : UpperOp) (rest : List ℕ) → statement_in (name.upper o ++ (32 ∷ rest)) ≡ given (plain_statement (plain.Upper o)) (operands_of (32 ∷ rest))
unfolding form_of bits_of
upper_named Lui rest = refl
upper_named Auipc rest = refl

pub branch_named : (o : BranchOp) (rest : List ℕ) → statement_in (name.branch o ++ (32 ∷ rest)) ≡ given (plain_statement (plain.Branch o)) (operands_of (32 ∷ rest))
unfolding form_of bits_of
branch_named Beq rest = refl
branch_named Bne rest = refl
branch_named Blt rest = refl
branch_named Bge rest = refl
branch_named Bltu rest = refl
branch_named Bgeu rest = refl

pub load_named : (o : LoadOp) (rest : List ℕ) → statement_in (name.load o ++ (32 ∷ rest)) ≡ given (plain_statement (plain.Load o)) (operands_of (32 ∷ rest))
unfolding form_of bits_of
load_named Lb rest = refl
load_named Lh rest = refl
load_named Lw rest = refl
load_named Lbu rest = refl
load_named Lhu rest = refl

pub store_named : (o : StoreOp) (rest : List ℕ) → statement_in (name.store o ++ (32 ∷ rest)) ≡ given (plain_statement (plain.Store o)) (operands_of (32 ∷ rest))
unfolding form_of bits_of
store_named Sb rest = refl
store_named Sh rest = refl
store_named Sw rest = refl

pub immediate_named : (o : ImmediateOp) (rest : List ℕ) → statement_in (name.immediate o ++ (32 ∷ rest)) ≡ given (plain_statement (plain.Immediate o)) (operands_of (32 ∷ rest))
unfolding form_of bits_of
immediate_named Addi rest = refl
immediate_named Slti rest = refl
immediate_named Sltiu rest = refl
immediate_named Xori rest = refl
immediate_named Ori rest = refl
immediate_named Andi rest = refl

pub shift_named : (o : ShiftOp) (rest : List ℕ) → statement_in (name.shift o ++ (32 ∷ rest)) ≡ given (plain_statement (plain.Shift o)) (operands_of (32 ∷ rest))
unfolding form_of bits_of
shift_named Slli rest = refl
shift_named Srli rest = refl
shift_named Srai rest = refl

pub register_named : (o : RegisterOp) (rest : List ℕ) → statement_in (name.register o ++ (32 ∷ rest)) ≡ given (plain_statement (plain.Register o)) (operands_of (32 ∷ rest))
unfolding form_of bits_of
register_named Add rest = refl
register_named Sub rest = refl
register_named Sll rest = refl
register_named Slt rest = refl
register_named Sltu rest = refl
register_named Xor rest = refl
register_named Srl rest = refl
register_named Sra rest = refl
register_named Or rest = refl
register_named And rest = refl
register_named Mul rest = refl
register_named Mulh rest = refl
register_named Mulhsu rest = refl
register_named Mulhu rest = refl
register_named Div rest = refl
register_named Divu rest = refl
register_named Rem rest = refl
register_named Remu rest = refl

pub jal_named : (rest : List ℕ) → statement_in (codes "jal" ++ (32 ∷ rest)) ≡ given (plain_statement plain.Jal) (operands_of (32 ∷ rest))
unfolding form_of bits_of
jal_named rest = refl

pub jalr_named : (rest : List ℕ) → statement_in (codes "jalr" ++ (32 ∷ rest)) ≡ given (plain_statement plain.Jalr) (operands_of (32 ∷ rest))
unfolding form_of bits_of
jalr_named rest = refl

pub fence_named : (rest : List ℕ) → statement_in (codes "fence" ++ (32 ∷ rest)) ≡ given (plain_statement plain.Fence) (operands_of (32 ∷ rest))
unfolding form_of bits_of
fence_named rest = refl

lr_by : (acquire release : Bool) (rest : List ℕ) → statement_in ((codes "lr.w" ++ suffix_by acquire release) ++ (32 ∷ rest)) ≡ given (atomic_statement atomic.Lr (bits acquire release)) (operands_of (32 ∷ rest))
unfolding form_of bits_of
lr_by false false rest = refl
lr_by false true rest = refl
lr_by true false rest = refl
lr_by true true rest = refl

pub lr_named : (given_bits : Annotations) (rest : List ℕ) → statement_in ((codes "lr.w" ++ suffix given_bits) ++ (32 ∷ rest)) ≡ given (atomic_statement atomic.Lr given_bits) (operands_of (32 ∷ rest))
lr_named given_bits rest = lr_by given_bits.acquire given_bits.release rest

sc_by : (acquire release : Bool) (rest : List ℕ) → statement_in ((codes "sc.w" ++ suffix_by acquire release) ++ (32 ∷ rest)) ≡ given (atomic_statement atomic.Sc (bits acquire release)) (operands_of (32 ∷ rest))
unfolding form_of bits_of
sc_by false false rest = refl
sc_by false true rest = refl
sc_by true false rest = refl
sc_by true true rest = refl

pub sc_named : (given_bits : Annotations) (rest : List ℕ) → statement_in ((codes "sc.w" ++ suffix given_bits) ++ (32 ∷ rest)) ≡ given (atomic_statement atomic.Sc given_bits) (operands_of (32 ∷ rest))
sc_named given_bits rest = sc_by given_bits.acquire given_bits.release rest

amo_by : (o : AmoOp) (acquire release : Bool) (rest : List ℕ) → statement_in ((name.amo o ++ suffix_by acquire release) ++ (32 ∷ rest)) ≡ given (atomic_statement (atomic.Amo o) (bits acquire release)) (operands_of (32 ∷ rest))
unfolding form_of bits_of
amo_by op.Swap false false rest = refl
amo_by op.Swap false true rest = refl
amo_by op.Swap true false rest = refl
amo_by op.Swap true true rest = refl
amo_by op.Add false false rest = refl
amo_by op.Add false true rest = refl
amo_by op.Add true false rest = refl
amo_by op.Add true true rest = refl
amo_by op.Xor false false rest = refl
amo_by op.Xor false true rest = refl
amo_by op.Xor true false rest = refl
amo_by op.Xor true true rest = refl
amo_by op.And false false rest = refl
amo_by op.And false true rest = refl
amo_by op.And true false rest = refl
amo_by op.And true true rest = refl
amo_by op.Or false false rest = refl
amo_by op.Or false true rest = refl
amo_by op.Or true false rest = refl
amo_by op.Or true true rest = refl
amo_by op.Min false false rest = refl
amo_by op.Min false true rest = refl
amo_by op.Min true false rest = refl
amo_by op.Min true true rest = refl
amo_by op.Max false false rest = refl
amo_by op.Max false true rest = refl
amo_by op.Max true false rest = refl
amo_by op.Max true true rest = refl
amo_by op.Minu false false rest = refl
amo_by op.Minu false true rest = refl
amo_by op.Minu true false rest = refl
amo_by op.Minu true true rest = refl
amo_by op.Maxu false false rest = refl
amo_by op.Maxu false true rest = refl
amo_by op.Maxu true false rest = refl
amo_by op.Maxu true true rest = refl

pub amo_named : (o : AmoOp) (given_bits : Annotations) (rest : List ℕ) → statement_in ((name.amo o ++ suffix given_bits) ++ (32 ∷ rest)) ≡ given (atomic_statement (atomic.Amo o) given_bits) (operands_of (32 ∷ rest))
amo_named o given_bits rest = amo_by o given_bits.acquire given_bits.release rest
