-- The instruction that a word with fields is, where opcode and funct3 tell it, is the one that the word was put together for.
use Rattle.std.proofs.Common.{◌≡◌, ℕ, ◌+◌, ◌*◌, ◌/◌, ◌%◌, ◌^◌, ◌<◌, Option, Some, None, cond, refl, ap, ◌∙◌, arith, lit<}
use Rattle.std.specs.Option.{option_map, option_or}
use Rattle.std.specs.Prelude.{◌==◌}
use Rattle.rv32_decode.specs.Decoding.{branch_of, load_of, store_of, immediate_of}
use Rattle.rv32_decode.specs.Encoding.{part, branch_low, branch_high, jump_high, branch_funct3, load_funct3, store_funct3, immediate_funct3, encoded}
use Rattle.rv32_decode.specs.Fields.{rd_of, rs1_of, rs2_of, imm_i, imm_s, imm_b, imm_u, imm_j}
use Rattle.rv32_decode.specs.Ranges.{IsSigned, IsMultiple}
use Rattle.rv32_decode.specs.Rows.{decoded}
use Rattle.rv32_decode.specs.declared.instruction.Instr.{Instr}
use Rattle.rv32_decode.specs.declared.instruction.Instr.TheVariants as instr
use Rattle.rv32_decode.specs.declared.instruction.UpperOp.{UpperOp}
use Rattle.rv32_decode.specs.declared.instruction.UpperOp.TheVariants.{Lui, Auipc}
use Rattle.rv32_decode.specs.declared.instruction.SystemOp.{SystemOp}
use Rattle.rv32_decode.specs.declared.instruction.SystemOp.TheVariants.{Ecall, Ebreak}
use Rattle.rv32_decode.specs.declared.instruction.BranchOp.{BranchOp}
use Rattle.rv32_decode.specs.declared.instruction.BranchOp.TheVariants.{Beq, Bne, Blt, Bge, Bltu, Bgeu}
use Rattle.rv32_decode.specs.declared.instruction.LoadOp.{LoadOp}
use Rattle.rv32_decode.specs.declared.instruction.LoadOp.TheVariants.{Lb, Lh, Lw, Lbu, Lhu}
use Rattle.rv32_decode.specs.declared.instruction.StoreOp.{StoreOp}
use Rattle.rv32_decode.specs.declared.instruction.StoreOp.TheVariants.{Sb, Sh, Sw}
use Rattle.rv32_decode.specs.declared.instruction.ImmediateOp.{ImmediateOp}
use Rattle.rv32_decode.specs.declared.instruction.ImmediateOp.TheVariants.{Addi, Slti, Sltiu, Xori, Ori, Andi}
use Rattle.rv32_decode.proofs.Assembled.{HasFields, assembled_fields, second}
use Rattle.rv32_decode.proofs.Branches.{decoded_branch, decoded_load, decoded_store, decoded_jalr}
use Rattle.rv32_decode.proofs.Extended.{imm_i_is, imm_s_is, imm_b_is, imm_j_is}
use Rattle.rv32_decode.proofs.Operations.{decoded_immediate}
use Rattle.rv32_decode.proofs.Uppers.{decoded_lui, decoded_auipc, decoded_jal}

-- ---- operations by funct3

branch_named : (op : BranchOp) → branch_of (branch_funct3 op) ≡ Some op
branch_named Beq = refl
branch_named Bne = refl
branch_named Blt = refl
branch_named Bge = refl
branch_named Bltu = refl
branch_named Bgeu = refl

load_named : (op : LoadOp) → load_of (load_funct3 op) ≡ Some op
load_named Lb = refl
load_named Lh = refl
load_named Lw = refl
load_named Lbu = refl
load_named Lhu = refl

store_named : (op : StoreOp) → store_of (store_funct3 op) ≡ Some op
store_named Sb = refl
store_named Sh = refl
store_named Sw = refl

immediate_named : (op : ImmediateOp) → immediate_of (immediate_funct3 op) ≡ Some op
immediate_named Addi = refl
immediate_named Slti = refl
immediate_named Sltiu = refl
immediate_named Xori = refl
immediate_named Ori = refl
immediate_named Andi = refl

branch_below : (op : BranchOp) → branch_funct3 op < 8
branch_below Beq = lit< tt
branch_below Bne = lit< tt
branch_below Blt = lit< tt
branch_below Bge = lit< tt
branch_below Bltu = lit< tt
branch_below Bgeu = lit< tt

load_below : (op : LoadOp) → load_funct3 op < 8
load_below Lb = lit< tt
load_below Lh = lit< tt
load_below Lw = lit< tt
load_below Lbu = lit< tt
load_below Lhu = lit< tt

store_below : (op : StoreOp) → store_funct3 op < 8
store_below Sb = lit< tt
store_below Sh = lit< tt
store_below Sw = lit< tt

immediate_below : (op : ImmediateOp) → immediate_funct3 op < 8
immediate_below Addi = lit< tt
immediate_below Slti = lit< tt
immediate_below Sltiu = lit< tt
immediate_below Xori = lit< tt
immediate_below Ori = lit< tt
immediate_below Andi = lit< tt

-- ---- words with these fields

branch_found : (w : ℕ) (op : BranchOp) (rs1 rs2 offset : ℕ) → HasFields w 0x63 (branch_low offset) (branch_funct3 op) rs1 (rs2 + branch_high offset * 2 ^ 5) → rs2 < 32 → offset < 2 ^ 32 → IsSigned 13 offset → IsMultiple 2 offset
    → decoded w ≡ Some (instr.Branch op rs1 rs2 offset)
branch_found w op rs1 rs2 offset h b l s m =
    let second_is : rs2_of w ≡ rs2 = second w (rs2 + branch_high offset * 2 ^ 5) rs2 (branch_high offset) h.high refl b in
    let offset_is : imm_b w ≡ offset = imm_b_is w offset rs2 h.destination h.high b l s m in
    let parts : Some (instr.Branch op (rs1_of w) (rs2_of w) (imm_b w)) ≡ Some (instr.Branch op rs1 rs2 offset) = cc (h.first, second_is, offset_is) in
    decoded_branch w h.opcode
    ∙ ap (λ f. option_map (λ op. instr.Branch op (rs1_of w) (rs2_of w) (imm_b w)) (branch_of f)) h.funct3
    ∙ ap (option_map (λ op. instr.Branch op (rs1_of w) (rs2_of w) (imm_b w))) (branch_named op)
    ∙ parts

load_found : (w : ℕ) (op : LoadOp) (rd rs1 offset : ℕ) → HasFields w 0x03 rd (load_funct3 op) rs1 (part offset 0 12) → offset < 2 ^ 32 → IsSigned 12 offset
    → decoded w ≡ Some (instr.Load op rd rs1 offset)
load_found w op rd rs1 offset h l s =
    let offset_is : imm_i w ≡ offset = imm_i_is w offset h.high l s in
    let parts : Some (instr.Load op (rd_of w) (rs1_of w) (imm_i w)) ≡ Some (instr.Load op rd rs1 offset) = cc (h.destination, h.first, offset_is) in
    decoded_load w h.opcode
    ∙ ap (λ f. option_map (λ op. instr.Load op (rd_of w) (rs1_of w) (imm_i w)) (load_of f)) h.funct3
    ∙ ap (option_map (λ op. instr.Load op (rd_of w) (rs1_of w) (imm_i w))) (load_named op)
    ∙ parts

store_found : (w : ℕ) (op : StoreOp) (rs1 rs2 offset : ℕ) → HasFields w 0x23 (part offset 0 5) (store_funct3 op) rs1 (rs2 + part offset 5 7 * 2 ^ 5) → rs2 < 32 → offset < 2 ^ 32 → IsSigned 12 offset
    → decoded w ≡ Some (instr.Store op rs1 rs2 offset)
store_found w op rs1 rs2 offset h b l s =
    let second_is : rs2_of w ≡ rs2 = second w (rs2 + part offset 5 7 * 2 ^ 5) rs2 (part offset 5 7) h.high refl b in
    let offset_is : imm_s w ≡ offset = imm_s_is w offset rs2 h.destination h.high b l s in
    let parts : Some (instr.Store op (rs1_of w) (rs2_of w) (imm_s w)) ≡ Some (instr.Store op rs1 rs2 offset) = cc (h.first, second_is, offset_is) in
    decoded_store w h.opcode
    ∙ ap (λ f. option_map (λ op. instr.Store op (rs1_of w) (rs2_of w) (imm_s w)) (store_of f)) h.funct3
    ∙ ap (option_map (λ op. instr.Store op (rs1_of w) (rs2_of w) (imm_s w))) (store_named op)
    ∙ parts

immediate_found : (w : ℕ) (op : ImmediateOp) (rd rs1 imm : ℕ) (others : Option Instr) → rd_of w ≡ rd → rs1_of w ≡ rs1 → imm_i w ≡ imm → w / 4096 % 8 ≡ immediate_funct3 op
    → option_or (option_map (λ op. instr.Immediate op (rd_of w) (rs1_of w) (imm_i w)) (immediate_of (w / 4096 % 8))) others ≡ Some (instr.Immediate op rd rs1 imm)
immediate_found w op rd rs1 imm others d f i e =
    let parts : Some (instr.Immediate op (rd_of w) (rs1_of w) (imm_i w)) ≡ Some (instr.Immediate op rd rs1 imm) = cc (d, f, i) in
    ap (λ f. option_or (option_map (λ op. instr.Immediate op (rd_of w) (rs1_of w) (imm_i w)) (immediate_of f)) others) e
    ∙ ap (λ o. option_or (option_map (λ op. instr.Immediate op (rd_of w) (rs1_of w) (imm_i w)) o) others) (immediate_named op)
    ∙ parts

-- ---- the words of instructions

pub upper_read_back : (op : UpperOp) (rd imm : ℕ) → rd < 32 → imm < 2 ^ 32 → IsMultiple 4096 imm → decoded (encoded (instr.Upper op rd imm)) ≡ Some (instr.Upper op rd imm)
upper_read_back Lui rd imm a l m =
    let destination : rd_of (encoded (instr.Upper Lui rd imm)) ≡ rd = omega arith in
    let number : imm_u (encoded (instr.Upper Lui rd imm)) ≡ imm = omega arith in
    let parts : Some (instr.Upper Lui (rd_of (encoded (instr.Upper Lui rd imm))) (imm_u (encoded (instr.Upper Lui rd imm)))) ≡ Some (instr.Upper Lui rd imm) = cc (destination, number) in
    decoded_lui (encoded (instr.Upper Lui rd imm)) (omega arith) ∙ parts
upper_read_back Auipc rd imm a l m =
    let destination : rd_of (encoded (instr.Upper Auipc rd imm)) ≡ rd = omega arith in
    let number : imm_u (encoded (instr.Upper Auipc rd imm)) ≡ imm = omega arith in
    let parts : Some (instr.Upper Auipc (rd_of (encoded (instr.Upper Auipc rd imm))) (imm_u (encoded (instr.Upper Auipc rd imm)))) ≡ Some (instr.Upper Auipc rd imm) = cc (destination, number) in
    decoded_auipc (encoded (instr.Upper Auipc rd imm)) (omega arith) ∙ parts

pub jal_read_back : (rd offset : ℕ) → rd < 32 → offset < 2 ^ 32 → IsSigned 21 offset → IsMultiple 2 offset → decoded (encoded (instr.Jal rd offset)) ≡ Some (instr.Jal rd offset)
jal_read_back rd offset a l s m =
    let destination : rd_of (encoded (instr.Jal rd offset)) ≡ rd = omega arith in
    let high : encoded (instr.Jal rd offset) / 4096 ≡ jump_high offset = omega arith in
    let offset_is : imm_j (encoded (instr.Jal rd offset)) ≡ offset = imm_j_is (encoded (instr.Jal rd offset)) offset high l s m in
    let parts : Some (instr.Jal (rd_of (encoded (instr.Jal rd offset))) (imm_j (encoded (instr.Jal rd offset)))) ≡ Some (instr.Jal rd offset) = cc (destination, offset_is) in
    decoded_jal (encoded (instr.Jal rd offset)) (omega arith) ∙ parts

jalr_found : (w rd rs1 offset : ℕ) → HasFields w 0x67 rd 0 rs1 (part offset 0 12) → offset < 2 ^ 32 → IsSigned 12 offset → decoded w ≡ Some (instr.Jalr rd rs1 offset)
jalr_found w rd rs1 offset h l s =
    let offset_is : imm_i w ≡ offset = imm_i_is w offset h.high l s in
    let parts : Some (instr.Jalr (rd_of w) (rs1_of w) (imm_i w)) ≡ Some (instr.Jalr rd rs1 offset) = cc (h.destination, h.first, offset_is) in
    decoded_jalr w h.opcode
    ∙ ap (λ f. cond (f == 0) (Some (instr.Jalr (rd_of w) (rs1_of w) (imm_i w))) None) h.funct3
    ∙ parts

pub jalr_read_back : (rd rs1 offset : ℕ) → rd < 32 → rs1 < 32 → offset < 2 ^ 32 → IsSigned 12 offset → decoded (encoded (instr.Jalr rd rs1 offset)) ≡ Some (instr.Jalr rd rs1 offset)
jalr_read_back rd rs1 offset a b l s =
    jalr_found (encoded (instr.Jalr rd rs1 offset)) rd rs1 offset (assembled_fields 0x67 rd 0 rs1 (part offset 0 12) (lit< tt) a (lit< tt) b) l s

pub branch_read_back : (op : BranchOp) (rs1 rs2 offset : ℕ) → rs1 < 32 → rs2 < 32 → offset < 2 ^ 32 → IsSigned 13 offset → IsMultiple 2 offset
    → decoded (encoded (instr.Branch op rs1 rs2 offset)) ≡ Some (instr.Branch op rs1 rs2 offset)
branch_read_back op rs1 rs2 offset a b l s m =
    branch_found (encoded (instr.Branch op rs1 rs2 offset)) op rs1 rs2 offset
    (assembled_fields 0x63 (branch_low offset) (branch_funct3 op) rs1 (rs2 + branch_high offset * 2 ^ 5) (lit< tt) (omega arith) (branch_below op) a) b l s m

pub load_read_back : (op : LoadOp) (rd rs1 offset : ℕ) → rd < 32 → rs1 < 32 → offset < 2 ^ 32 → IsSigned 12 offset
    → decoded (encoded (instr.Load op rd rs1 offset)) ≡ Some (instr.Load op rd rs1 offset)
load_read_back op rd rs1 offset a b l s =
    load_found (encoded (instr.Load op rd rs1 offset)) op rd rs1 offset (assembled_fields 0x03 rd (load_funct3 op) rs1 (part offset 0 12) (lit< tt) a (load_below op) b) l s

pub store_read_back : (op : StoreOp) (rs1 rs2 offset : ℕ) → rs1 < 32 → rs2 < 32 → offset < 2 ^ 32 → IsSigned 12 offset
    → decoded (encoded (instr.Store op rs1 rs2 offset)) ≡ Some (instr.Store op rs1 rs2 offset)
store_read_back op rs1 rs2 offset a b l s =
    store_found (encoded (instr.Store op rs1 rs2 offset)) op rs1 rs2 offset
    (assembled_fields 0x23 (part offset 0 5) (store_funct3 op) rs1 (rs2 + part offset 5 7 * 2 ^ 5) (lit< tt) (omega arith) (store_below op) a) b l s

immediate_at_fields : (w : ℕ) (op : ImmediateOp) (rd rs1 imm : ℕ) → HasFields w 0x13 rd (immediate_funct3 op) rs1 (part imm 0 12) → imm < 2 ^ 32 → IsSigned 12 imm
    → decoded w ≡ Some (instr.Immediate op rd rs1 imm)
immediate_at_fields w op rd rs1 imm h l s =
    decoded_immediate w h.opcode ∙ immediate_found w op rd rs1 imm _ h.destination h.first (imm_i_is w imm h.high l s) h.funct3

pub immediate_read_back : (op : ImmediateOp) (rd rs1 imm : ℕ) → rd < 32 → rs1 < 32 → imm < 2 ^ 32 → IsSigned 12 imm
    → decoded (encoded (instr.Immediate op rd rs1 imm)) ≡ Some (instr.Immediate op rd rs1 imm)
immediate_read_back op rd rs1 imm a b l s =
    immediate_at_fields (encoded (instr.Immediate op rd rs1 imm)) op rd rs1 imm (assembled_fields 0x13 rd (immediate_funct3 op) rs1 (part imm 0 12) (lit< tt) a (immediate_below op) b) l s

pub system_read_back : (op : SystemOp) → decoded (encoded (instr.System op)) ≡ Some (instr.System op)
system_read_back Ecall = refl
system_read_back Ebreak = refl

pub tso_read_back : decoded (encoded instr.FenceTso) ≡ Some instr.FenceTso
tso_read_back = refl
