-- Words of the opcodes with no funct3, and of SYSTEM.
use Rattle.std.proofs.Common.{◌≡◌, ℕ, ◌%◌, ◌^◌, ◌<◌, cond, Some, None, refl, ap, ◌∙◌, bit_and}
use Rattle.std.specs.Prelude.{◌==◌, nat_eq}
use Rattle.rv32_decode.specs.Fields.{rd_of, imm_u, imm_j}
use Rattle.rv32_decode.specs.Rows.{Row, Name, rows, is_in, decoded, instr_of, is_tso}
use Rattle.rv32_decode.specs.Rows as name
use Rattle.rv32_decode.specs.declared.instruction.Instr.TheVariants as instr
use Rattle.rv32_decode.specs.declared.instruction.UpperOp.TheVariants as upper
use Rattle.rv32_decode.specs.declared.instruction.SystemOp.TheVariants as system
use Rattle.rv32_decode.proofs.Masks.{mask_opcode, mask_whole}
use Rattle.rv32_decode.proofs.Table.{decoded_opcode}
use Rattle.rv32_decode.proofs.Cases.{first, found}

pub decoded_lui : (w : ℕ) → w % 128 ≡ 0x37 → decoded w ≡ Some (instr.Upper upper.Lui (rd_of w) (imm_u w))
decoded_lui w o = decoded_opcode w 0x37 o ∙ found w (name.row 0x7f 0x37 (name.Upper upper.Lui)) (mask_opcode w ∙ o)

pub decoded_auipc : (w : ℕ) → w % 128 ≡ 0x17 → decoded w ≡ Some (instr.Upper upper.Auipc (rd_of w) (imm_u w))
decoded_auipc w o = decoded_opcode w 0x17 o ∙ found w (name.row 0x7f 0x17 (name.Upper upper.Auipc)) (mask_opcode w ∙ o)

pub decoded_jal : (w : ℕ) → w % 128 ≡ 0x6f → decoded w ≡ Some (instr.Jal (rd_of w) (imm_j w))
decoded_jal w o = decoded_opcode w 0x6f o ∙ found w (name.row 0x7f 0x6f name.Jal) (mask_opcode w ∙ o)

pub decoded_system : (w : ℕ) → w < 2 ^ 32 → w % 128 ≡ 0x73
    → decoded w ≡ cond (w == 0x73) (Some (instr.System system.Ecall)) (cond (w == 0x100073) (Some (instr.System system.Ebreak)) None)
decoded_system w l o =
    decoded_opcode w 0x73 o
    ∙ first (λ (r : Row). instr_of r.name w) (name.row 0xffffffff 0x73 (name.System system.Ecall)) (nat_eq (bit_and w 0xffffffff) 0x73) (w == 0x73)
    (cond (nat_eq (bit_and w 0xffffffff) 0x100073) (Some (name.row 0xffffffff 0x100073 (name.System system.Ebreak))) None)
    (cond (w == 0x100073) (Some (instr.System system.Ebreak)) None)
    (ap (λ n. nat_eq n 0x73) (mask_whole w l))
    (first (λ (r : Row). instr_of r.name w) (name.row 0xffffffff 0x100073 (name.System system.Ebreak)) (nat_eq (bit_and w 0xffffffff) 0x100073) (w == 0x100073)
    None None (ap (λ n. nat_eq n 0x100073) (mask_whole w l)) refl)
