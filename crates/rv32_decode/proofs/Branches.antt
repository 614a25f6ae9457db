-- What a word of a given opcode is, by funct3.
use Rattle.std.proofs.Common.{◌≡◌, ℕ, ◌/◌, ◌%◌, cond, Some, None, refl, ◌∙◌, arith}
use Rattle.std.specs.Prelude.{◌==◌}
use Rattle.std.specs.Option.{option_map}
use Rattle.rv32_decode.specs.Fields.{rd_of, rs1_of, rs2_of, imm_i, imm_s, imm_b, fences_of}
use Rattle.rv32_decode.specs.Rows.{Row, Name, rows, is_in, decoded, instr_of, is_tso}
use Rattle.rv32_decode.specs.Rows as name
use Rattle.rv32_decode.specs.Decoding.{branch_of, load_of, store_of}
use Rattle.rv32_decode.specs.declared.instruction.Instr.TheVariants as instr
use Rattle.rv32_decode.specs.declared.instruction.BranchOp.TheVariants as branch
use Rattle.rv32_decode.specs.declared.instruction.LoadOp.TheVariants as load
use Rattle.rv32_decode.specs.declared.instruction.StoreOp.TheVariants as store
use Rattle.rv32_decode.proofs.Table.{decoded_among}
use Rattle.rv32_decode.proofs.Cases.{by_eight, under, found}

pub decoded_branch : (w : ℕ) → w % 128 ≡ 0x63
    → decoded w ≡ option_map (λ op. instr.Branch op (rs1_of w) (rs2_of w) (imm_b w)) (branch_of (w / 4096 % 8))
decoded_branch w o =
    by_eight (λ f. w / 4096 % 8 ≡ f → decoded w ≡ option_map (λ op. instr.Branch op (rs1_of w) (rs2_of w) (imm_b w)) (branch_of f))
    (λ e. decoded_among w 0x63 0 o e ∙ found w (name.row 0x707f 0x0063 (name.Branch branch.Beq)) (under w 0x63 0 o e))
    (λ e. decoded_among w 0x63 1 o e ∙ found w (name.row 0x707f 0x1063 (name.Branch branch.Bne)) (under w 0x63 1 o e))
    (λ e. decoded_among w 0x63 2 o e)
    (λ e. decoded_among w 0x63 3 o e)
    (λ e. decoded_among w 0x63 4 o e ∙ found w (name.row 0x707f 0x4063 (name.Branch branch.Blt)) (under w 0x63 4 o e))
    (λ e. decoded_among w 0x63 5 o e ∙ found w (name.row 0x707f 0x5063 (name.Branch branch.Bge)) (under w 0x63 5 o e))
    (λ e. decoded_among w 0x63 6 o e ∙ found w (name.row 0x707f 0x6063 (name.Branch branch.Bltu)) (under w 0x63 6 o e))
    (λ e. decoded_among w 0x63 7 o e ∙ found w (name.row 0x707f 0x7063 (name.Branch branch.Bgeu)) (under w 0x63 7 o e))
    (w / 4096 % 8) (omega arith) refl

pub decoded_load : (w : ℕ) → w % 128 ≡ 0x03
    → decoded w ≡ option_map (λ op. instr.Load op (rd_of w) (rs1_of w) (imm_i w)) (load_of (w / 4096 % 8))
decoded_load w o =
    by_eight (λ f. w / 4096 % 8 ≡ f → decoded w ≡ option_map (λ op. instr.Load op (rd_of w) (rs1_of w) (imm_i w)) (load_of f))
    (λ e. decoded_among w 0x03 0 o e ∙ found w (name.row 0x707f 0x0003 (name.Load load.Lb)) (under w 0x03 0 o e))
    (λ e. decoded_among w 0x03 1 o e ∙ found w (name.row 0x707f 0x1003 (name.Load load.Lh)) (under w 0x03 1 o e))
    (λ e. decoded_among w 0x03 2 o e ∙ found w (name.row 0x707f 0x2003 (name.Load load.Lw)) (under w 0x03 2 o e))
    (λ e. decoded_among w 0x03 3 o e)
    (λ e. decoded_among w 0x03 4 o e ∙ found w (name.row 0x707f 0x4003 (name.Load load.Lbu)) (under w 0x03 4 o e))
    (λ e. decoded_among w 0x03 5 o e ∙ found w (name.row 0x707f 0x5003 (name.Load load.Lhu)) (under w 0x03 5 o e))
    (λ e. decoded_among w 0x03 6 o e)
    (λ e. decoded_among w 0x03 7 o e)
    (w / 4096 % 8) (omega arith) refl

pub decoded_store : (w : ℕ) → w % 128 ≡ 0x23
    → decoded w ≡ option_map (λ op. instr.Store op (rs1_of w) (rs2_of w) (imm_s w)) (store_of (w / 4096 % 8))
decoded_store w o =
    by_eight (λ f. w / 4096 % 8 ≡ f → decoded w ≡ option_map (λ op. instr.Store op (rs1_of w) (rs2_of w) (imm_s w)) (store_of f))
    (λ e. decoded_among w 0x23 0 o e ∙ found w (name.row 0x707f 0x0023 (name.Store store.Sb)) (under w 0x23 0 o e))
    (λ e. decoded_among w 0x23 1 o e ∙ found w (name.row 0x707f 0x1023 (name.Store store.Sh)) (under w 0x23 1 o e))
    (λ e. decoded_among w 0x23 2 o e ∙ found w (name.row 0x707f 0x2023 (name.Store store.Sw)) (under w 0x23 2 o e))
    (λ e. decoded_among w 0x23 3 o e)
    (λ e. decoded_among w 0x23 4 o e)
    (λ e. decoded_among w 0x23 5 o e)
    (λ e. decoded_among w 0x23 6 o e)
    (λ e. decoded_among w 0x23 7 o e)
    (w / 4096 % 8) (omega arith) refl

pub decoded_jalr : (w : ℕ) → w % 128 ≡ 0x67
    → decoded w ≡ cond ((w / 4096 % 8) == 0) (Some (instr.Jalr (rd_of w) (rs1_of w) (imm_i w))) None
decoded_jalr w o =
    by_eight (λ f. w / 4096 % 8 ≡ f → decoded w ≡ cond (f == 0) (Some (instr.Jalr (rd_of w) (rs1_of w) (imm_i w))) None)
    (λ e. decoded_among w 0x67 0 o e ∙ found w (name.row 0x707f 0x0067 name.Jalr) (under w 0x67 0 o e))
    (λ e. decoded_among w 0x67 1 o e)
    (λ e. decoded_among w 0x67 2 o e)
    (λ e. decoded_among w 0x67 3 o e)
    (λ e. decoded_among w 0x67 4 o e)
    (λ e. decoded_among w 0x67 5 o e)
    (λ e. decoded_among w 0x67 6 o e)
    (λ e. decoded_among w 0x67 7 o e)
    (w / 4096 % 8) (omega arith) refl

pub decoded_fence : (w : ℕ) → w % 128 ≡ 0x0f
    → decoded w ≡ cond ((w / 4096 % 8) == 0) (Some (cond (is_tso w) instr.FenceTso (instr.Fence (fences_of w)))) None
decoded_fence w o =
    by_eight (λ f. w / 4096 % 8 ≡ f → decoded w ≡ cond (f == 0) (Some (cond (is_tso w) instr.FenceTso (instr.Fence (fences_of w)))) None)
    (λ e. decoded_among w 0x0f 0 o e ∙ found w (name.row 0x707f 0x000f name.Fence) (under w 0x0f 0 o e))
    (λ e. decoded_among w 0x0f 1 o e)
    (λ e. decoded_among w 0x0f 2 o e)
    (λ e. decoded_among w 0x0f 3 o e)
    (λ e. decoded_among w 0x0f 4 o e)
    (λ e. decoded_among w 0x0f 5 o e)
    (λ e. decoded_among w 0x0f 6 o e)
    (λ e. decoded_among w 0x0f 7 o e)
    (w / 4096 % 8) (omega arith) refl
