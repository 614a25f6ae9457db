-- The same of the words that funct7 tells apart, and of a FENCE.
use Rattle.std.proofs.Common.{◌≡◌, ℕ, ◌+◌, ◌*◌, ◌/◌, ◌%◌, ◌^◌, ◌<◌, ◌&&◌, Some, None, cond, refl, ap, ◌∙◌, arith, lit<}
use Rattle.std.specs.Option.{option_map, option_or}
use Rattle.std.specs.Prelude.{◌==◌}
use Rattle.rv32_decode.specs.Decoding.{immediate_of, shift_of, register_of}
use Rattle.rv32_decode.specs.Encoding.{shift_funct3, shift_funct7, register_funct3, register_funct7, encoded}
use Rattle.rv32_decode.specs.Fence.{Sets}
use Rattle.rv32_decode.specs.Fields.{rd_of, rs1_of, rs2_of, imm_i, fences_of}
use Rattle.rv32_decode.specs.Rows.{decoded, is_tso}
use Rattle.rv32_decode.specs.declared.instruction.Instr.TheVariants as instr
use Rattle.rv32_decode.specs.declared.instruction.ShiftOp.{ShiftOp}
use Rattle.rv32_decode.specs.declared.instruction.ShiftOp.TheVariants.{Slli, Srli, Srai}
use Rattle.rv32_decode.specs.declared.instruction.RegisterOp.{RegisterOp}
use Rattle.rv32_decode.specs.declared.instruction.RegisterOp.TheVariants.{Add, Sub, Sll, Slt, Sltu, Xor, Srl, Sra, Or, And, Mul, Mulh, Mulhsu, Mulhu, Div, Divu, Rem, Remu}
use Rattle.rv32_decode.proofs.Assembled.{HasFields, assembled_fields, second, funct7}
use Rattle.rv32_decode.proofs.Branches.{decoded_fence}
use Rattle.rv32_decode.proofs.Operations.{decoded_immediate, decoded_register}

shift_named : (op : ShiftOp) → shift_of (shift_funct3 op) (shift_funct7 op) ≡ Some op
shift_named Slli = refl
shift_named Srli = refl
shift_named Srai = refl

not_immediate : (op : ShiftOp) → immediate_of (shift_funct3 op) ≡ None
not_immediate Slli = refl
not_immediate Srli = refl
not_immediate Srai = refl

shift_below : (op : ShiftOp) → shift_funct3 op < 8
shift_below Slli = lit< tt
shift_below Srli = lit< tt
shift_below Srai = lit< tt

shift_high_below : (op : ShiftOp) → shift_funct7 op < 128
shift_high_below Slli = lit< tt
shift_high_below Srli = lit< tt
shift_high_below Srai = lit< tt

register_named : (op : RegisterOp) → register_of (register_funct3 op) (register_funct7 op) ≡ Some op
register_named Add = refl
register_named Sub = refl
register_named Sll = refl
register_named Slt = refl
register_named Sltu = refl
register_named Xor = refl
register_named Srl = refl
register_named Sra = refl
register_named Or = refl
register_named And = refl
register_named Mul = refl
register_named Mulh = refl
register_named Mulhsu = refl
register_named Mulhu = refl
register_named Div = refl
register_named Divu = refl
register_named Rem = refl
register_named Remu = refl

register_below : (op : RegisterOp) → register_funct3 op < 8
register_below Add = lit< tt
register_below Sub = lit< tt
register_below Sll = lit< tt
register_below Slt = lit< tt
register_below Sltu = lit< tt
register_below Xor = lit< tt
register_below Srl = lit< tt
register_below Sra = lit< tt
register_below Or = lit< tt
register_below And = lit< tt
register_below Mul = lit< tt
register_below Mulh = lit< tt
register_below Mulhsu = lit< tt
register_below Mulhu = lit< tt
register_below Div = lit< tt
register_below Divu = lit< tt
register_below Rem = lit< tt
register_below Remu = lit< tt

register_high_below : (op : RegisterOp) → register_funct7 op < 128
register_high_below Add = lit< tt
register_high_below Sub = lit< tt
register_high_below Sll = lit< tt
register_high_below Slt = lit< tt
register_high_below Sltu = lit< tt
register_high_below Xor = lit< tt
register_high_below Srl = lit< tt
register_high_below Sra = lit< tt
register_high_below Or = lit< tt
register_high_below And = lit< tt
register_high_below Mul = lit< tt
register_high_below Mulh = lit< tt
register_high_below Mulhsu = lit< tt
register_high_below Mulhu = lit< tt
register_high_below Div = lit< tt
register_high_below Divu = lit< tt
register_high_below Rem = lit< tt
register_high_below Remu = lit< tt

shift_found : (w : ℕ) (op : ShiftOp) (rd rs1 amount : ℕ) → HasFields w 0x13 rd (shift_funct3 op) rs1 (amount + shift_funct7 op * 2 ^ 5) → amount < 32
    → decoded w ≡ Some (instr.Shift op rd rs1 amount)
shift_found w op rd rs1 amount h b =
    let high : w / 33554432 % 128 ≡ shift_funct7 op = funct7 w (amount + shift_funct7 op * 2 ^ 5) amount (shift_funct7 op) h.high refl b (shift_high_below op) in
    let amount_is : rs2_of w ≡ amount = second w (amount + shift_funct7 op * 2 ^ 5) amount (shift_funct7 op) h.high refl b in
    let parts : Some (instr.Shift op (rd_of w) (rs1_of w) (rs2_of w)) ≡ Some (instr.Shift op rd rs1 amount) = cc (h.destination, h.first, amount_is) in
    decoded_immediate w h.opcode
    ∙ ap (λ f. option_or (option_map (λ op. instr.Immediate op (rd_of w) (rs1_of w) (imm_i w)) (immediate_of f)) (option_map (λ op. instr.Shift op (rd_of w) (rs1_of w) (rs2_of w)) (shift_of f (w / 33554432 % 128)))) h.funct3
    ∙ ap (λ o. option_or (option_map (λ op. instr.Immediate op (rd_of w) (rs1_of w) (imm_i w)) o) (option_map (λ op. instr.Shift op (rd_of w) (rs1_of w) (rs2_of w)) (shift_of (shift_funct3 op) (w / 33554432 % 128)))) (not_immediate op)
    ∙ ap (λ g. option_map (λ op. instr.Shift op (rd_of w) (rs1_of w) (rs2_of w)) (shift_of (shift_funct3 op) g)) high
    ∙ ap (option_map (λ op. instr.Shift op (rd_of w) (rs1_of w) (rs2_of w))) (shift_named op)
    ∙ parts

pub shift_read_back : (op : ShiftOp) (rd rs1 amount : ℕ) → rd < 32 → rs1 < 32 → amount < 32 → decoded (encoded (instr.Shift op rd rs1 amount)) ≡ Some (instr.Shift op rd rs1 amount)
shift_read_back op rd rs1 amount a b c =
    shift_found (encoded (instr.Shift op rd rs1 amount)) op rd rs1 amount (assembled_fields 0x13 rd (shift_funct3 op) rs1 (amount + shift_funct7 op * 2 ^ 5) (lit< tt) a (shift_below op) b) c

register_found : (w : ℕ) (op : RegisterOp) (rd rs1 rs2 : ℕ) → HasFields w 0x33 rd (register_funct3 op) rs1 (rs2 + register_funct7 op * 2 ^ 5) → rs2 < 32
    → decoded w ≡ Some (instr.Register op rd rs1 rs2)
register_found w op rd rs1 rs2 h b =
    let high : w / 33554432 % 128 ≡ register_funct7 op = funct7 w (rs2 + register_funct7 op * 2 ^ 5) rs2 (register_funct7 op) h.high refl b (register_high_below op) in
    let second_is : rs2_of w ≡ rs2 = second w (rs2 + register_funct7 op * 2 ^ 5) rs2 (register_funct7 op) h.high refl b in
    let parts : Some (instr.Register op (rd_of w) (rs1_of w) (rs2_of w)) ≡ Some (instr.Register op rd rs1 rs2) = cc (h.destination, h.first, second_is) in
    decoded_register w h.opcode
    ∙ ap (λ f. option_map (λ op. instr.Register op (rd_of w) (rs1_of w) (rs2_of w)) (register_of f (w / 33554432 % 128))) h.funct3
    ∙ ap (λ g. option_map (λ op. instr.Register op (rd_of w) (rs1_of w) (rs2_of w)) (register_of (register_funct3 op) g)) high
    ∙ ap (option_map (λ op. instr.Register op (rd_of w) (rs1_of w) (rs2_of w))) (register_named op)
    ∙ parts

pub register_read_back : (op : RegisterOp) (rd rs1 rs2 : ℕ) → rd < 32 → rs1 < 32 → rs2 < 32 → decoded (encoded (instr.Register op rd rs1 rs2)) ≡ Some (instr.Register op rd rs1 rs2)
register_read_back op rd rs1 rs2 a b c =
    register_found (encoded (instr.Register op rd rs1 rs2)) op rd rs1 rs2 (assembled_fields 0x33 rd (register_funct3 op) rs1 (rs2 + register_funct7 op * 2 ^ 5) (lit< tt) a (register_below op) b) c

abbrev sets_of : ℕ → ℕ → Sets
sets_of before after = record { before = before; after = after }

fence_found : (w before after : ℕ) → HasFields w 0x0f 0 0 0 (before * 2 ^ 4 + after) → before < 16 → after < 16 → decoded w ≡ Some (instr.Fence (sets_of before after))
fence_found w before after h b a =
    let mode : w / 268435456 % 16 ≡ 0 = omega (arith, h.high) in
    let earlier : w / 16777216 % 16 ≡ before = omega (arith, h.high) in
    let later : w / 1048576 % 16 ≡ after = omega (arith, h.high) in
    decoded_fence w h.opcode
    ∙ ap (λ f. cond (f == 0) (Some (cond (is_tso w) instr.FenceTso (instr.Fence (fences_of w)))) None) h.funct3
    ∙ ap (λ m. Some (cond ((m == 8) && (w / 16777216 % 16 == 3) && (w / 1048576 % 16 == 3)) instr.FenceTso (instr.Fence (fences_of w)))) mode
    ∙ ap (λ n. Some (instr.Fence (sets_of n (w / 1048576 % 16)))) earlier
    ∙ ap (λ n. Some (instr.Fence (sets_of before n))) later

pub fence_read_back : (sets : Sets) → sets.before < 16 → sets.after < 16 → decoded (encoded (instr.Fence sets)) ≡ Some (instr.Fence sets)
fence_read_back sets b a =
    fence_found (encoded (instr.Fence sets)) sets.before sets.after (assembled_fields 0x0f 0 0 0 (sets.before * 2 ^ 4 + sets.after) (lit< tt) (lit< tt) (lit< tt) (lit< tt)) b a
