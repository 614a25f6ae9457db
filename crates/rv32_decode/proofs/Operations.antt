-- Words of the opcodes whose rows look at funct7.
use Rattle.std.proofs.Common.{◌≡◌, ℕ, ◌/◌, ◌%◌, cond, Some, None, refl, ◌∙◌, arith, bit_and, lit<}
use Rattle.std.specs.Prelude.{◌==◌, nat_eq}
use Rattle.std.specs.Option.{option_map, option_or}
use Rattle.rv32_decode.specs.Fields.{rd_of, rs1_of, rs2_of, imm_i}
use Rattle.rv32_decode.specs.Rows.{Row, Name, rows, is_in, decoded, instr_of, is_tso}
use Rattle.rv32_decode.specs.Rows as name
use Rattle.rv32_decode.specs.Decoding.{immediate_of, shift_of, register_of}
use Rattle.rv32_decode.specs.declared.instruction.Instr.TheVariants as instr
use Rattle.rv32_decode.specs.declared.instruction.ShiftOp.TheVariants as shift
use Rattle.rv32_decode.specs.declared.instruction.RegisterOp.TheVariants as register
use Rattle.rv32_decode.specs.declared.instruction.ImmediateOp.TheVariants as immediate
use Rattle.rv32_decode.proofs.Table.{decoded_among}
use Rattle.rv32_decode.proofs.Cases.{by_eight, under, test_7, choose, found}

pub decoded_immediate : (w : ℕ) → w % 128 ≡ 0x13
    → decoded w ≡ option_or (option_map (λ op. instr.Immediate op (rd_of w) (rs1_of w) (imm_i w)) (immediate_of (w / 4096 % 8))) (option_map (λ op. instr.Shift op (rd_of w) (rs1_of w) (rs2_of w)) (shift_of (w / 4096 % 8) (w / 33554432 % 128)))
decoded_immediate w o =
    by_eight (λ f. w / 4096 % 8 ≡ f → decoded w ≡ option_or (option_map (λ op. instr.Immediate op (rd_of w) (rs1_of w) (imm_i w)) (immediate_of f)) (option_map (λ op. instr.Shift op (rd_of w) (rs1_of w) (rs2_of w)) (shift_of f (w / 33554432 % 128))))
    (λ e. decoded_among w 0x13 0 o e ∙ found w (name.row 0x707f 0x0013 (name.Immediate immediate.Addi)) (under w 0x13 0 o e))
    (λ e. decoded_among w 0x13 1 o e ∙ (choose (λ (r : Row). instr_of r.name w) (λ op. instr.Shift op (rd_of w) (rs1_of w) (rs2_of w)) (name.row 0xfe00707f 0x00001013 (name.Shift shift.Slli)) shift.Slli (nat_eq (bit_and w 0xfe00707f) 0x00001013) (w / 33554432 % 128 == 0) (None) (None) (test_7 w 0x13 1 0 (lit< tt) o e) refl refl))
    (λ e. decoded_among w 0x13 2 o e ∙ found w (name.row 0x707f 0x2013 (name.Immediate immediate.Slti)) (under w 0x13 2 o e))
    (λ e. decoded_among w 0x13 3 o e ∙ found w (name.row 0x707f 0x3013 (name.Immediate immediate.Sltiu)) (under w 0x13 3 o e))
    (λ e. decoded_among w 0x13 4 o e ∙ found w (name.row 0x707f 0x4013 (name.Immediate immediate.Xori)) (under w 0x13 4 o e))
    (λ e. decoded_among w 0x13 5 o e ∙ (choose (λ (r : Row). instr_of r.name w) (λ op. instr.Shift op (rd_of w) (rs1_of w) (rs2_of w)) (name.row 0xfe00707f 0x00005013 (name.Shift shift.Srli)) shift.Srli (nat_eq (bit_and w 0xfe00707f) 0x00005013) (w / 33554432 % 128 == 0) (cond (nat_eq (bit_and w 0xfe00707f) 0x40005013) (Some (name.row 0xfe00707f 0x40005013 (name.Shift shift.Srai))) (None)) (cond (w / 33554432 % 128 == 32) (Some shift.Srai) (None)) (test_7 w 0x13 5 0 (lit< tt) o e) refl (choose (λ (r : Row). instr_of r.name w) (λ op. instr.Shift op (rd_of w) (rs1_of w) (rs2_of w)) (name.row 0xfe00707f 0x40005013 (name.Shift shift.Srai)) shift.Srai (nat_eq (bit_and w 0xfe00707f) 0x40005013) (w / 33554432 % 128 == 32) (None) (None) (test_7 w 0x13 5 32 (lit< tt) o e) refl refl)))
    (λ e. decoded_among w 0x13 6 o e ∙ found w (name.row 0x707f 0x6013 (name.Immediate immediate.Ori)) (under w 0x13 6 o e))
    (λ e. decoded_among w 0x13 7 o e ∙ found w (name.row 0x707f 0x7013 (name.Immediate immediate.Andi)) (under w 0x13 7 o e))
    (w / 4096 % 8) (omega arith) refl

pub decoded_register : (w : ℕ) → w % 128 ≡ 0x33
    → decoded w ≡ option_map (λ op. instr.Register op (rd_of w) (rs1_of w) (rs2_of w)) (register_of (w / 4096 % 8) (w / 33554432 % 128))
decoded_register w o =
    by_eight (λ f. w / 4096 % 8 ≡ f → decoded w ≡ option_map (λ op. instr.Register op (rd_of w) (rs1_of w) (rs2_of w)) (register_of f (w / 33554432 % 128)))
    (λ e. decoded_among w 0x33 0 o e ∙ (choose (λ (r : Row). instr_of r.name w) (λ op. instr.Register op (rd_of w) (rs1_of w) (rs2_of w)) (name.row 0xfe00707f 0x00000033 (name.Register register.Add)) register.Add (nat_eq (bit_and w 0xfe00707f) 0x00000033) (w / 33554432 % 128 == 0) (cond (nat_eq (bit_and w 0xfe00707f) 0x40000033) (Some (name.row 0xfe00707f 0x40000033 (name.Register register.Sub))) (cond (nat_eq (bit_and w 0xfe00707f) 0x02000033) (Some (name.row 0xfe00707f 0x02000033 (name.Register register.Mul))) (None))) (cond (w / 33554432 % 128 == 32) (Some register.Sub) (cond (w / 33554432 % 128 == 1) (Some register.Mul) (None))) (test_7 w 0x33 0 0 (lit< tt) o e) refl (choose (λ (r : Row). instr_of r.name w) (λ op. instr.Register op (rd_of w) (rs1_of w) (rs2_of w)) (name.row 0xfe00707f 0x40000033 (name.Register register.Sub)) register.Sub (nat_eq (bit_and w 0xfe00707f) 0x40000033) (w / 33554432 % 128 == 32) (cond (nat_eq (bit_and w 0xfe00707f) 0x02000033) (Some (name.row 0xfe00707f 0x02000033 (name.Register register.Mul))) (None)) (cond (w / 33554432 % 128 == 1) (Some register.Mul) (None)) (test_7 w 0x33 0 32 (lit< tt) o e) refl (choose (λ (r : Row). instr_of r.name w) (λ op. instr.Register op (rd_of w) (rs1_of w) (rs2_of w)) (name.row 0xfe00707f 0x02000033 (name.Register register.Mul)) register.Mul (nat_eq (bit_and w 0xfe00707f) 0x02000033) (w / 33554432 % 128 == 1) (None) (None) (test_7 w 0x33 0 1 (lit< tt) o e) refl refl))))
    (λ e. decoded_among w 0x33 1 o e ∙ (choose (λ (r : Row). instr_of r.name w) (λ op. instr.Register op (rd_of w) (rs1_of w) (rs2_of w)) (name.row 0xfe00707f 0x00001033 (name.Register register.Sll)) register.Sll (nat_eq (bit_and w 0xfe00707f) 0x00001033) (w / 33554432 % 128 == 0) (cond (nat_eq (bit_and w 0xfe00707f) 0x02001033) (Some (name.row 0xfe00707f 0x02001033 (name.Register register.Mulh))) (None)) (cond (w / 33554432 % 128 == 1) (Some register.Mulh) (None)) (test_7 w 0x33 1 0 (lit< tt) o e) refl (choose (λ (r : Row). instr_of r.name w) (λ op. instr.Register op (rd_of w) (rs1_of w) (rs2_of w)) (name.row 0xfe00707f 0x02001033 (name.Register register.Mulh)) register.Mulh (nat_eq (bit_and w 0xfe00707f) 0x02001033) (w / 33554432 % 128 == 1) (None) (None) (test_7 w 0x33 1 1 (lit< tt) o e) refl refl)))
    (λ e. decoded_among w 0x33 2 o e ∙ (choose (λ (r : Row). instr_of r.name w) (λ op. instr.Register op (rd_of w) (rs1_of w) (rs2_of w)) (name.row 0xfe00707f 0x00002033 (name.Register register.Slt)) register.Slt (nat_eq (bit_and w 0xfe00707f) 0x00002033) (w / 33554432 % 128 == 0) (cond (nat_eq (bit_and w 0xfe00707f) 0x02002033) (Some (name.row 0xfe00707f 0x02002033 (name.Register register.Mulhsu))) (None)) (cond (w / 33554432 % 128 == 1) (Some register.Mulhsu) (None)) (test_7 w 0x33 2 0 (lit< tt) o e) refl (choose (λ (r : Row). instr_of r.name w) (λ op. instr.Register op (rd_of w) (rs1_of w) (rs2_of w)) (name.row 0xfe00707f 0x02002033 (name.Register register.Mulhsu)) register.Mulhsu (nat_eq (bit_and w 0xfe00707f) 0x02002033) (w / 33554432 % 128 == 1) (None) (None) (test_7 w 0x33 2 1 (lit< tt) o e) refl refl)))
    (λ e. decoded_among w 0x33 3 o e ∙ (choose (λ (r : Row). instr_of r.name w) (λ op. instr.Register op (rd_of w) (rs1_of w) (rs2_of w)) (name.row 0xfe00707f 0x00003033 (name.Register register.Sltu)) register.Sltu (nat_eq (bit_and w 0xfe00707f) 0x00003033) (w / 33554432 % 128 == 0) (cond (nat_eq (bit_and w 0xfe00707f) 0x02003033) (Some (name.row 0xfe00707f 0x02003033 (name.Register register.Mulhu))) (None)) (cond (w / 33554432 % 128 == 1) (Some register.Mulhu) (None)) (test_7 w 0x33 3 0 (lit< tt) o e) refl (choose (λ (r : Row). instr_of r.name w) (λ op. instr.Register op (rd_of w) (rs1_of w) (rs2_of w)) (name.row 0xfe00707f 0x02003033 (name.Register register.Mulhu)) register.Mulhu (nat_eq (bit_and w 0xfe00707f) 0x02003033) (w / 33554432 % 128 == 1) (None) (None) (test_7 w 0x33 3 1 (lit< tt) o e) refl refl)))
    (λ e. decoded_among w 0x33 4 o e ∙ (choose (λ (r : Row). instr_of r.name w) (λ op. instr.Register op (rd_of w) (rs1_of w) (rs2_of w)) (name.row 0xfe00707f 0x00004033 (name.Register register.Xor)) register.Xor (nat_eq (bit_and w 0xfe00707f) 0x00004033) (w / 33554432 % 128 == 0) (cond (nat_eq (bit_and w 0xfe00707f) 0x02004033) (Some (name.row 0xfe00707f 0x02004033 (name.Register register.Div))) (None)) (cond (w / 33554432 % 128 == 1) (Some register.Div) (None)) (test_7 w 0x33 4 0 (lit< tt) o e) refl (choose (λ (r : Row). instr_of r.name w) (λ op. instr.Register op (rd_of w) (rs1_of w) (rs2_of w)) (name.row 0xfe00707f 0x02004033 (name.Register register.Div)) register.Div (nat_eq (bit_and w 0xfe00707f) 0x02004033) (w / 33554432 % 128 == 1) (None) (None) (test_7 w 0x33 4 1 (lit< tt) o e) refl refl)))
    (λ e. decoded_among w 0x33 5 o e ∙ (choose (λ (r : Row). instr_of r.name w) (λ op. instr.Register op (rd_of w) (rs1_of w) (rs2_of w)) (name.row 0xfe00707f 0x00005033 (name.Register register.Srl)) register.Srl (nat_eq (bit_and w 0xfe00707f) 0x00005033) (w / 33554432 % 128 == 0) (cond (nat_eq (bit_and w 0xfe00707f) 0x40005033) (Some (name.row 0xfe00707f 0x40005033 (name.Register register.Sra))) (cond (nat_eq (bit_and w 0xfe00707f) 0x02005033) (Some (name.row 0xfe00707f 0x02005033 (name.Register register.Divu))) (None))) (cond (w / 33554432 % 128 == 32) (Some register.Sra) (cond (w / 33554432 % 128 == 1) (Some register.Divu) (None))) (test_7 w 0x33 5 0 (lit< tt) o e) refl (choose (λ (r : Row). instr_of r.name w) (λ op. instr.Register op (rd_of w) (rs1_of w) (rs2_of w)) (name.row 0xfe00707f 0x40005033 (name.Register register.Sra)) register.Sra (nat_eq (bit_and w 0xfe00707f) 0x40005033) (w / 33554432 % 128 == 32) (cond (nat_eq (bit_and w 0xfe00707f) 0x02005033) (Some (name.row 0xfe00707f 0x02005033 (name.Register register.Divu))) (None)) (cond (w / 33554432 % 128 == 1) (Some register.Divu) (None)) (test_7 w 0x33 5 32 (lit< tt) o e) refl (choose (λ (r : Row). instr_of r.name w) (λ op. instr.Register op (rd_of w) (rs1_of w) (rs2_of w)) (name.row 0xfe00707f 0x02005033 (name.Register register.Divu)) register.Divu (nat_eq (bit_and w 0xfe00707f) 0x02005033) (w / 33554432 % 128 == 1) (None) (None) (test_7 w 0x33 5 1 (lit< tt) o e) refl refl))))
    (λ e. decoded_among w 0x33 6 o e ∙ (choose (λ (r : Row). instr_of r.name w) (λ op. instr.Register op (rd_of w) (rs1_of w) (rs2_of w)) (name.row 0xfe00707f 0x00006033 (name.Register register.Or)) register.Or (nat_eq (bit_and w 0xfe00707f) 0x00006033) (w / 33554432 % 128 == 0) (cond (nat_eq (bit_and w 0xfe00707f) 0x02006033) (Some (name.row 0xfe00707f 0x02006033 (name.Register register.Rem))) (None)) (cond (w / 33554432 % 128 == 1) (Some register.Rem) (None)) (test_7 w 0x33 6 0 (lit< tt) o e) refl (choose (λ (r : Row). instr_of r.name w) (λ op. instr.Register op (rd_of w) (rs1_of w) (rs2_of w)) (name.row 0xfe00707f 0x02006033 (name.Register register.Rem)) register.Rem (nat_eq (bit_and w 0xfe00707f) 0x02006033) (w / 33554432 % 128 == 1) (None) (None) (test_7 w 0x33 6 1 (lit< tt) o e) refl refl)))
    (λ e. decoded_among w 0x33 7 o e ∙ (choose (λ (r : Row). instr_of r.name w) (λ op. instr.Register op (rd_of w) (rs1_of w) (rs2_of w)) (name.row 0xfe00707f 0x00007033 (name.Register register.And)) register.And (nat_eq (bit_and w 0xfe00707f) 0x00007033) (w / 33554432 % 128 == 0) (cond (nat_eq (bit_and w 0xfe00707f) 0x02007033) (Some (name.row 0xfe00707f 0x02007033 (name.Register register.Remu))) (None)) (cond (w / 33554432 % 128 == 1) (Some register.Remu) (None)) (test_7 w 0x33 7 0 (lit< tt) o e) refl (choose (λ (r : Row). instr_of r.name w) (λ op. instr.Register op (rd_of w) (rs1_of w) (rs2_of w)) (name.row 0xfe00707f 0x02007033 (name.Register register.Remu)) register.Remu (nat_eq (bit_and w 0xfe00707f) 0x02007033) (w / 33554432 % 128 == 1) (None) (None) (test_7 w 0x33 7 1 (lit< tt) o e) refl refl)))
    (w / 4096 % 8) (omega arith) refl
