-- What `assembly` spells of an instruction reads as that instruction.
use Rattle.std.proofs.Common.{◌≡◌, ℕ, ◌+◌, ◌/◌, ◌%◌, ◌^◌, ◌<◌, refl, ap, ◌∙◌, arith}
use Rattle.std.proofs.lemmas.Bool.{lt-ltb}
use Rattle.std.specs.Prelude.{Ok, None}
use Rattle.rv32_decode.specs.Ranges.{IsSigned, IsMultiple}
use Rattle.rv32_decode.specs.declared.instruction.Instr.TheVariants as instr
use Rattle.rv32_decode.specs.declared.instruction.SystemOp.{SystemOp}
use Rattle.rv32_decode.specs.declared.instruction.SystemOp.TheVariants.{Ecall, Ebreak}
use Rattle.text_words.specs.declared.numbers.Number.TheVariants.{Word}
use Rattle.assembly.specs.Mnemonics as name
use Rattle.assembly.specs.Assembly.{assembly}
use Rattle.assembly_reading.specs.Numbers as number
use Rattle.assembly_reading.specs.Suffixes.{bits_of}
use Rattle.assembly_reading.specs.Forms.{form_of}
use Rattle.assembly_reading.specs.Operands.{operands_of}
use Rattle.assembly_reading.specs.Reading.{statement_in}
use Rattle.assembly_reading.specs.Laws.{ReadsBack}
use Rattle.assembly_reading.specs.declared.statement.Statement.TheVariants.{One}
use Rattle.assembly_reading.proofs.Spelling.{two_read, three_read, register_spells, signed_spells, decimal_spells, address_spells, at_spells, distance_spells}
use Rattle.assembly_reading.proofs.Immediates.{set_spells, upper_spells}
use Rattle.assembly_reading.proofs.Mnemonics.{upper_named, branch_named, load_named, store_named, immediate_named, shift_named, register_named, jal_named, jalr_named, fence_named, lr_named, sc_named, amo_named}

immediate_holds : (n : ℕ) → IsSigned 12 n → number.immediate (Word n) ≡ Ok n
immediate_holds n fits = rw (lt-ltb ((n + 2 ^ 11) % 2 ^ 32) (2 ^ 12) fits) refl

amount_holds : (n : ℕ) → n < 32 → number.amount (Word n) ≡ Ok n
amount_holds n lt = rw (lt-ltb n 32 lt) refl

upper_holds : (n : ℕ) → n < 2 ^ 32 → IsMultiple 4096 n → number.upper (Word (n / 4096)) ≡ Ok n
upper_holds n lt even = rw (lt-ltb (n / 4096) (2 ^ 20) (omega arith)) (ap (λ (m : ℕ). Ok m) (omega arith))

branch_holds : (n : ℕ) → IsSigned 13 n → IsMultiple 2 n → number.branch_offset (Word n) ≡ Ok n
branch_holds n fits even = rw (lt-ltb ((n + 2 ^ 12) % 2 ^ 32) (2 ^ 13) fits, even) refl

jump_holds : (n : ℕ) → IsSigned 21 n → IsMultiple 2 n → number.jump_offset (Word n) ≡ Ok n
jump_holds n fits even = rw (lt-ltb ((n + 2 ^ 20) % 2 ^ 32) (2 ^ 21) fits, even) refl

system_back : (op : SystemOp) → statement_in (name.system op) ≡ Ok (One (instr.System op))
unfolding form_of bits_of operands_of
system_back Ecall = refl
system_back Ebreak = refl

tso_back : statement_in (assembly None instr.FenceTso) ≡ Ok (One instr.FenceTso)
unfolding form_of bits_of operands_of
tso_back = refl

pub read_back : ReadsBack
read_back (instr.Upper op rd imm) is =
    upper_named op _ ∙ rw (two_read (register_spells rd is.0) (upper_spells imm is.1), upper_holds imm is.1 is.2) refl
read_back (instr.Jal rd offset) is =
    jal_named _ ∙ rw (two_read (register_spells rd is.0) (distance_spells offset is.1), jump_holds offset is.2 is.3) refl
read_back (instr.Jalr rd rs1 offset) is =
    jalr_named _ ∙ rw (two_read (register_spells rd is.0) (address_spells offset rs1 is.2 is.1), immediate_holds offset is.3) refl
read_back (instr.Branch op rs1 rs2 offset) is =
    branch_named op _ ∙ rw (three_read (register_spells rs1 is.0) (register_spells rs2 is.1) (distance_spells offset is.2), branch_holds offset is.3 is.4) refl
read_back (instr.Load op rd rs1 offset) is =
    load_named op _ ∙ rw (two_read (register_spells rd is.0) (address_spells offset rs1 is.2 is.1), immediate_holds offset is.3) refl
read_back (instr.Store op rs1 rs2 offset) is =
    store_named op _ ∙ rw (two_read (register_spells rs2 is.1) (address_spells offset rs1 is.2 is.0), immediate_holds offset is.3) refl
read_back (instr.Immediate op rd rs1 imm) is =
    immediate_named op _ ∙ rw (three_read (register_spells rd is.0) (register_spells rs1 is.1) (signed_spells imm is.2), immediate_holds imm is.3) refl
read_back (instr.Shift op rd rs1 amount) is =
    shift_named op _ ∙ rw (three_read (register_spells rd is.0) (register_spells rs1 is.1) (decimal_spells amount (omega arith)), amount_holds amount is.2) refl
read_back (instr.Register op rd rs1 rs2) is =
    register_named op _ ∙ rw (three_read (register_spells rd is.0) (register_spells rs1 is.1) (register_spells rs2 is.2)) refl
read_back (instr.Fence sets) is =
    let before = set_spells sets.before is.0 in
    let after = set_spells sets.after is.1 in
    fence_named _ ∙ rw (two_read before.1.0 after.1.0, before.1.1, after.1.1) refl
read_back instr.FenceTso is = tso_back
read_back (instr.System op) is = system_back op
read_back (instr.Lr rd rs1 bits) is =
    lr_named bits _ ∙ rw (two_read (register_spells rd is.0) (at_spells rs1 is.1)) refl
read_back (instr.Sc rd rs1 rs2 bits) is =
    sc_named bits _ ∙ rw (three_read (register_spells rd is.0) (register_spells rs2 is.2) (at_spells rs1 is.1)) refl
read_back (instr.Amo op rd rs1 rs2 bits) is =
    amo_named op bits _ ∙ rw (three_read (register_spells rd is.0) (register_spells rs2 is.2) (at_spells rs1 is.1)) refl
