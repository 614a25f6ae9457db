-- Words of the opcode AMO.
use Rattle.std.proofs.Common.{◌≡◌, ℕ, ◌/◌, ◌%◌, ◌&&◌, cond, Some, None, refl, ◌∙◌, arith, bit_and, lit<}
use Rattle.std.specs.Prelude.{◌==◌, nat_eq}
use Rattle.std.specs.Option.{option_map}
use Rattle.rv32_decode.specs.Fields.{rd_of, rs1_of, rs2_of, annotations_of}
use Rattle.rv32_decode.specs.Rows.{Row, Name, rows, is_in, decoded, instr_of, is_tso}
use Rattle.rv32_decode.specs.Rows as name
use Rattle.rv32_decode.specs.Decoding.{amo_of}
use Rattle.rv32_decode.specs.declared.instruction.Instr.TheVariants as instr
use Rattle.rv32_decode.specs.declared.instruction.AmoOp.TheVariants as amo
use Rattle.rv32_decode.proofs.Table.{decoded_among}
use Rattle.rv32_decode.proofs.Cases.{by_eight, test_5, test_reserved, choose, first}

amos : (w : ℕ) → w % 128 ≡ 0x2f → w / 4096 % 8 ≡ 2
    → option_map (λ (r : Row). instr_of r.name w) (cond (nat_eq (bit_and w 0xf800707f) 0x0800202f) (Some (name.row 0xf800707f 0x0800202f (name.Amo amo.Swap))) (cond (nat_eq (bit_and w 0xf800707f) 0x0000202f) (Some (name.row 0xf800707f 0x0000202f (name.Amo amo.Add))) (cond (nat_eq (bit_and w 0xf800707f) 0x2000202f) (Some (name.row 0xf800707f 0x2000202f (name.Amo amo.Xor))) (cond (nat_eq (bit_and w 0xf800707f) 0x6000202f) (Some (name.row 0xf800707f 0x6000202f (name.Amo amo.And))) (cond (nat_eq (bit_and w 0xf800707f) 0x4000202f) (Some (name.row 0xf800707f 0x4000202f (name.Amo amo.Or))) (cond (nat_eq (bit_and w 0xf800707f) 0x8000202f) (Some (name.row 0xf800707f 0x8000202f (name.Amo amo.Min))) (cond (nat_eq (bit_and w 0xf800707f) 0xa000202f) (Some (name.row 0xf800707f 0xa000202f (name.Amo amo.Max))) (cond (nat_eq (bit_and w 0xf800707f) 0xc000202f) (Some (name.row 0xf800707f 0xc000202f (name.Amo amo.Minu))) (cond (nat_eq (bit_and w 0xf800707f) 0xe000202f) (Some (name.row 0xf800707f 0xe000202f (name.Amo amo.Maxu))) (None)))))))))) ≡ option_map (λ op. instr.Amo op (rd_of w) (rs1_of w) (rs2_of w) (annotations_of w)) (amo_of (w / 134217728 % 32))
amos w o e = (choose (λ (r : Row). instr_of r.name w) (λ op. instr.Amo op (rd_of w) (rs1_of w) (rs2_of w) (annotations_of w)) (name.row 0xf800707f 0x0800202f (name.Amo amo.Swap)) amo.Swap (nat_eq (bit_and w 0xf800707f) 0x0800202f) (w / 134217728 % 32 == 1) (cond (nat_eq (bit_and w 0xf800707f) 0x0000202f) (Some (name.row 0xf800707f 0x0000202f (name.Amo amo.Add))) (cond (nat_eq (bit_and w 0xf800707f) 0x2000202f) (Some (name.row 0xf800707f 0x2000202f (name.Amo amo.Xor))) (cond (nat_eq (bit_and w 0xf800707f) 0x6000202f) (Some (name.row 0xf800707f 0x6000202f (name.Amo amo.And))) (cond (nat_eq (bit_and w 0xf800707f) 0x4000202f) (Some (name.row 0xf800707f 0x4000202f (name.Amo amo.Or))) (cond (nat_eq (bit_and w 0xf800707f) 0x8000202f) (Some (name.row 0xf800707f 0x8000202f (name.Amo amo.Min))) (cond (nat_eq (bit_and w 0xf800707f) 0xa000202f) (Some (name.row 0xf800707f 0xa000202f (name.Amo amo.Max))) (cond (nat_eq (bit_and w 0xf800707f) 0xc000202f) (Some (name.row 0xf800707f 0xc000202f (name.Amo amo.Minu))) (cond (nat_eq (bit_and w 0xf800707f) 0xe000202f) (Some (name.row 0xf800707f 0xe000202f (name.Amo amo.Maxu))) (None))))))))) (cond (w / 134217728 % 32 == 0) (Some amo.Add) (cond (w / 134217728 % 32 == 4) (Some amo.Xor) (cond (w / 134217728 % 32 == 12) (Some amo.And) (cond (w / 134217728 % 32 == 8) (Some amo.Or) (cond (w / 134217728 % 32 == 16) (Some amo.Min) (cond (w / 134217728 % 32 == 20) (Some amo.Max) (cond (w / 134217728 % 32 == 24) (Some amo.Minu) (cond (w / 134217728 % 32 == 28) (Some amo.Maxu) (None)))))))))
    (test_5 w 0x2f 2 1 (lit< tt) o e) refl (choose (λ (r : Row). instr_of r.name w) (λ op. instr.Amo op (rd_of w) (rs1_of w) (rs2_of w) (annotations_of w)) (name.row 0xf800707f 0x0000202f (name.Amo amo.Add)) amo.Add (nat_eq (bit_and w 0xf800707f) 0x0000202f) (w / 134217728 % 32 == 0) (cond (nat_eq (bit_and w 0xf800707f) 0x2000202f) (Some (name.row 0xf800707f 0x2000202f (name.Amo amo.Xor))) (cond (nat_eq (bit_and w 0xf800707f) 0x6000202f) (Some (name.row 0xf800707f 0x6000202f (name.Amo amo.And))) (cond (nat_eq (bit_and w 0xf800707f) 0x4000202f) (Some (name.row 0xf800707f 0x4000202f (name.Amo amo.Or))) (cond (nat_eq (bit_and w 0xf800707f) 0x8000202f) (Some (name.row 0xf800707f 0x8000202f (name.Amo amo.Min))) (cond (nat_eq (bit_and w 0xf800707f) 0xa000202f) (Some (name.row 0xf800707f 0xa000202f (name.Amo amo.Max))) (cond (nat_eq (bit_and w 0xf800707f) 0xc000202f) (Some (name.row 0xf800707f 0xc000202f (name.Amo amo.Minu))) (cond (nat_eq (bit_and w 0xf800707f) 0xe000202f) (Some (name.row 0xf800707f 0xe000202f (name.Amo amo.Maxu))) (None)))))))) (cond (w / 134217728 % 32 == 4) (Some amo.Xor) (cond (w / 134217728 % 32 == 12) (Some amo.And) (cond (w / 134217728 % 32 == 8) (Some amo.Or) (cond (w / 134217728 % 32 == 16) (Some amo.Min) (cond (w / 134217728 % 32 == 20) (Some amo.Max) (cond (w / 134217728 % 32 == 24) (Some amo.Minu) (cond (w / 134217728 % 32 == 28) (Some amo.Maxu) (None))))))))
    (test_5 w 0x2f 2 0 (lit< tt) o e) refl (choose (λ (r : Row). instr_of r.name w) (λ op. instr.Amo op (rd_of w) (rs1_of w) (rs2_of w) (annotations_of w)) (name.row 0xf800707f 0x2000202f (name.Amo amo.Xor)) amo.Xor (nat_eq (bit_and w 0xf800707f) 0x2000202f) (w / 134217728 % 32 == 4) (cond (nat_eq (bit_and w 0xf800707f) 0x6000202f) (Some (name.row 0xf800707f 0x6000202f (name.Amo amo.And))) (cond (nat_eq (bit_and w 0xf800707f) 0x4000202f) (Some (name.row 0xf800707f 0x4000202f (name.Amo amo.Or))) (cond (nat_eq (bit_and w 0xf800707f) 0x8000202f) (Some (name.row 0xf800707f 0x8000202f (name.Amo amo.Min))) (cond (nat_eq (bit_and w 0xf800707f) 0xa000202f) (Some (name.row 0xf800707f 0xa000202f (name.Amo amo.Max))) (cond (nat_eq (bit_and w 0xf800707f) 0xc000202f) (Some (name.row 0xf800707f 0xc000202f (name.Amo amo.Minu))) (cond (nat_eq (bit_and w 0xf800707f) 0xe000202f) (Some (name.row 0xf800707f 0xe000202f (name.Amo amo.Maxu))) (None))))))) (cond (w / 134217728 % 32 == 12) (Some amo.And) (cond (w / 134217728 % 32 == 8) (Some amo.Or) (cond (w / 134217728 % 32 == 16) (Some amo.Min) (cond (w / 134217728 % 32 == 20) (Some amo.Max) (cond (w / 134217728 % 32 == 24) (Some amo.Minu) (cond (w / 134217728 % 32 == 28) (Some amo.Maxu) (None)))))))
    (test_5 w 0x2f 2 4 (lit< tt) o e) refl (choose (λ (r : Row). instr_of r.name w) (λ op. instr.Amo op (rd_of w) (rs1_of w) (rs2_of w) (annotations_of w)) (name.row 0xf800707f 0x6000202f (name.Amo amo.And)) amo.And (nat_eq (bit_and w 0xf800707f) 0x6000202f) (w / 134217728 % 32 == 12) (cond (nat_eq (bit_and w 0xf800707f) 0x4000202f) (Some (name.row 0xf800707f 0x4000202f (name.Amo amo.Or))) (cond (nat_eq (bit_and w 0xf800707f) 0x8000202f) (Some (name.row 0xf800707f 0x8000202f (name.Amo amo.Min))) (cond (nat_eq (bit_and w 0xf800707f) 0xa000202f) (Some (name.row 0xf800707f 0xa000202f (name.Amo amo.Max))) (cond (nat_eq (bit_and w 0xf800707f) 0xc000202f) (Some (name.row 0xf800707f 0xc000202f (name.Amo amo.Minu))) (cond (nat_eq (bit_and w 0xf800707f) 0xe000202f) (Some (name.row 0xf800707f 0xe000202f (name.Amo amo.Maxu))) (None)))))) (cond (w / 134217728 % 32 == 8) (Some amo.Or) (cond (w / 134217728 % 32 == 16) (Some amo.Min) (cond (w / 134217728 % 32 == 20) (Some amo.Max) (cond (w / 134217728 % 32 == 24) (Some amo.Minu) (cond (w / 134217728 % 32 == 28) (Some amo.Maxu) (None))))))
    (test_5 w 0x2f 2 12 (lit< tt) o e) refl (choose (λ (r : Row). instr_of r.name w) (λ op. instr.Amo op (rd_of w) (rs1_of w) (rs2_of w) (annotations_of w)) (name.row 0xf800707f 0x4000202f (name.Amo amo.Or)) amo.Or (nat_eq (bit_and w 0xf800707f) 0x4000202f) (w / 134217728 % 32 == 8) (cond (nat_eq (bit_and w 0xf800707f) 0x8000202f) (Some (name.row 0xf800707f 0x8000202f (name.Amo amo.Min))) (cond (nat_eq (bit_and w 0xf800707f) 0xa000202f) (Some (name.row 0xf800707f 0xa000202f (name.Amo amo.Max))) (cond (nat_eq (bit_and w 0xf800707f) 0xc000202f) (Some (name.row 0xf800707f 0xc000202f (name.Amo amo.Minu))) (cond (nat_eq (bit_and w 0xf800707f) 0xe000202f) (Some (name.row 0xf800707f 0xe000202f (name.Amo amo.Maxu))) (None))))) (cond (w / 134217728 % 32 == 16) (Some amo.Min) (cond (w / 134217728 % 32 == 20) (Some amo.Max) (cond (w / 134217728 % 32 == 24) (Some amo.Minu) (cond (w / 134217728 % 32 == 28) (Some amo.Maxu) (None)))))
    (test_5 w 0x2f 2 8 (lit< tt) o e) refl (choose (λ (r : Row). instr_of r.name w) (λ op. instr.Amo op (rd_of w) (rs1_of w) (rs2_of w) (annotations_of w)) (name.row 0xf800707f 0x8000202f (name.Amo amo.Min)) amo.Min (nat_eq (bit_and w 0xf800707f) 0x8000202f) (w / 134217728 % 32 == 16) (cond (nat_eq (bit_and w 0xf800707f) 0xa000202f) (Some (name.row 0xf800707f 0xa000202f (name.Amo amo.Max))) (cond (nat_eq (bit_and w 0xf800707f) 0xc000202f) (Some (name.row 0xf800707f 0xc000202f (name.Amo amo.Minu))) (cond (nat_eq (bit_and w 0xf800707f) 0xe000202f) (Some (name.row 0xf800707f 0xe000202f (name.Amo amo.Maxu))) (None)))) (cond (w / 134217728 % 32 == 20) (Some amo.Max) (cond (w / 134217728 % 32 == 24) (Some amo.Minu) (cond (w / 134217728 % 32 == 28) (Some amo.Maxu) (None))))
    (test_5 w 0x2f 2 16 (lit< tt) o e) refl (choose (λ (r : Row). instr_of r.name w) (λ op. instr.Amo op (rd_of w) (rs1_of w) (rs2_of w) (annotations_of w)) (name.row 0xf800707f 0xa000202f (name.Amo amo.Max)) amo.Max (nat_eq (bit_and w 0xf800707f) 0xa000202f) (w / 134217728 % 32 == 20) (cond (nat_eq (bit_and w 0xf800707f) 0xc000202f) (Some (name.row 0xf800707f 0xc000202f (name.Amo amo.Minu))) (cond (nat_eq (bit_and w 0xf800707f) 0xe000202f) (Some (name.row 0xf800707f 0xe000202f (name.Amo amo.Maxu))) (None))) (cond (w / 134217728 % 32 == 24) (Some amo.Minu) (cond (w / 134217728 % 32 == 28) (Some amo.Maxu) (None)))
    (test_5 w 0x2f 2 20 (lit< tt) o e) refl (choose (λ (r : Row). instr_of r.name w) (λ op. instr.Amo op (rd_of w) (rs1_of w) (rs2_of w) (annotations_of w)) (name.row 0xf800707f 0xc000202f (name.Amo amo.Minu)) amo.Minu (nat_eq (bit_and w 0xf800707f) 0xc000202f) (w / 134217728 % 32 == 24) (cond (nat_eq (bit_and w 0xf800707f) 0xe000202f) (Some (name.row 0xf800707f 0xe000202f (name.Amo amo.Maxu))) (None)) (cond (w / 134217728 % 32 == 28) (Some amo.Maxu) (None))
    (test_5 w 0x2f 2 24 (lit< tt) o e) refl (choose (λ (r : Row). instr_of r.name w) (λ op. instr.Amo op (rd_of w) (rs1_of w) (rs2_of w) (annotations_of w)) (name.row 0xf800707f 0xe000202f (name.Amo amo.Maxu)) amo.Maxu (nat_eq (bit_and w 0xf800707f) 0xe000202f) (w / 134217728 % 32 == 28) (None) (None)
    (test_5 w 0x2f 2 28 (lit< tt) o e) refl refl)))))))))

atomics : (w : ℕ) → w % 128 ≡ 0x2f → w / 4096 % 8 ≡ 2 → decoded w ≡ cond ((w / 134217728 % 32 == 2) && (w / 1048576 % 32 == 0)) (Some (instr.Lr (rd_of w) (rs1_of w) (annotations_of w))) (cond (w / 134217728 % 32 == 3) (Some (instr.Sc (rd_of w) (rs1_of w) (rs2_of w) (annotations_of w))) (option_map (λ op. instr.Amo op (rd_of w) (rs1_of w) (rs2_of w) (annotations_of w)) (amo_of (w / 134217728 % 32))))
atomics w o e =
    decoded_among w 0x2f 2 o e
    ∙ first (λ (r : Row). instr_of r.name w) (name.row 0xf9f0707f 0x1000202f name.Lr) (nat_eq (bit_and w 0xf9f0707f) 0x1000202f) ((w / 134217728 % 32 == 2) && (w / 1048576 % 32 == 0))
    (cond (nat_eq (bit_and w 0xf800707f) 0x1800202f) (Some (name.row 0xf800707f 0x1800202f name.Sc)) (cond (nat_eq (bit_and w 0xf800707f) 0x0800202f) (Some (name.row 0xf800707f 0x0800202f (name.Amo amo.Swap))) (cond (nat_eq (bit_and w 0xf800707f) 0x0000202f) (Some (name.row 0xf800707f 0x0000202f (name.Amo amo.Add))) (cond (nat_eq (bit_and w 0xf800707f) 0x2000202f) (Some (name.row 0xf800707f 0x2000202f (name.Amo amo.Xor))) (cond (nat_eq (bit_and w 0xf800707f) 0x6000202f) (Some (name.row 0xf800707f 0x6000202f (name.Amo amo.And))) (cond (nat_eq (bit_and w 0xf800707f) 0x4000202f) (Some (name.row 0xf800707f 0x4000202f (name.Amo amo.Or))) (cond (nat_eq (bit_and w 0xf800707f) 0x8000202f) (Some (name.row 0xf800707f 0x8000202f (name.Amo amo.Min))) (cond (nat_eq (bit_and w 0xf800707f) 0xa000202f) (Some (name.row 0xf800707f 0xa000202f (name.Amo amo.Max))) (cond (nat_eq (bit_and w 0xf800707f) 0xc000202f) (Some (name.row 0xf800707f 0xc000202f (name.Amo amo.Minu))) (cond (nat_eq (bit_and w 0xf800707f) 0xe000202f) (Some (name.row 0xf800707f 0xe000202f (name.Amo amo.Maxu))) (None)))))))))))
    (cond (w / 134217728 % 32 == 3) (Some (instr.Sc (rd_of w) (rs1_of w) (rs2_of w) (annotations_of w))) (option_map (λ op. instr.Amo op (rd_of w) (rs1_of w) (rs2_of w) (annotations_of w)) (amo_of (w / 134217728 % 32))))
    (test_reserved w o e)
    (first (λ (r : Row). instr_of r.name w) (name.row 0xf800707f 0x1800202f name.Sc) (nat_eq (bit_and w 0xf800707f) 0x1800202f) (w / 134217728 % 32 == 3) (cond (nat_eq (bit_and w 0xf800707f) 0x0800202f) (Some (name.row 0xf800707f 0x0800202f (name.Amo amo.Swap))) (cond (nat_eq (bit_and w 0xf800707f) 0x0000202f) (Some (name.row 0xf800707f 0x0000202f (name.Amo amo.Add))) (cond (nat_eq (bit_and w 0xf800707f) 0x2000202f) (Some (name.row 0xf800707f 0x2000202f (name.Amo amo.Xor))) (cond (nat_eq (bit_and w 0xf800707f) 0x6000202f) (Some (name.row 0xf800707f 0x6000202f (name.Amo amo.And))) (cond (nat_eq (bit_and w 0xf800707f) 0x4000202f) (Some (name.row 0xf800707f 0x4000202f (name.Amo amo.Or))) (cond (nat_eq (bit_and w 0xf800707f) 0x8000202f) (Some (name.row 0xf800707f 0x8000202f (name.Amo amo.Min))) (cond (nat_eq (bit_and w 0xf800707f) 0xa000202f) (Some (name.row 0xf800707f 0xa000202f (name.Amo amo.Max))) (cond (nat_eq (bit_and w 0xf800707f) 0xc000202f) (Some (name.row 0xf800707f 0xc000202f (name.Amo amo.Minu))) (cond (nat_eq (bit_and w 0xf800707f) 0xe000202f) (Some (name.row 0xf800707f 0xe000202f (name.Amo amo.Maxu))) (None))))))))))
    (option_map (λ op. instr.Amo op (rd_of w) (rs1_of w) (rs2_of w) (annotations_of w)) (amo_of (w / 134217728 % 32))) (test_5 w 0x2f 2 3 (lit< tt) o e) (amos w o e))

pub decoded_atomic : (w : ℕ) → w % 128 ≡ 0x2f
    → decoded w ≡ cond ((w / 4096 % 8) == 2) (cond ((w / 134217728 % 32 == 2) && (w / 1048576 % 32 == 0)) (Some (instr.Lr (rd_of w) (rs1_of w) (annotations_of w))) (cond (w / 134217728 % 32 == 3) (Some (instr.Sc (rd_of w) (rs1_of w) (rs2_of w) (annotations_of w))) (option_map (λ op. instr.Amo op (rd_of w) (rs1_of w) (rs2_of w) (annotations_of w)) (amo_of (w / 134217728 % 32))))) None
decoded_atomic w o =
    by_eight (λ f. w / 4096 % 8 ≡ f → decoded w ≡ cond (f == 2) (cond ((w / 134217728 % 32 == 2) && (w / 1048576 % 32 == 0)) (Some (instr.Lr (rd_of w) (rs1_of w) (annotations_of w))) (cond (w / 134217728 % 32 == 3) (Some (instr.Sc (rd_of w) (rs1_of w) (rs2_of w) (annotations_of w))) (option_map (λ op. instr.Amo op (rd_of w) (rs1_of w) (rs2_of w) (annotations_of w)) (amo_of (w / 134217728 % 32))))) None)
    (λ e. decoded_among w 0x2f 0 o e)
    (λ e. decoded_among w 0x2f 1 o e)
    (λ e. atomics w o e)
    (λ e. decoded_among w 0x2f 3 o e)
    (λ e. decoded_among w 0x2f 4 o e)
    (λ e. decoded_among w 0x2f 5 o e)
    (λ e. decoded_among w 0x2f 6 o e)
    (λ e. decoded_among w 0x2f 7 o e)
    (w / 4096 % 8) (omega arith) refl
