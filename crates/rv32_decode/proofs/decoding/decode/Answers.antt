use Rattle.std.proofs.Common.{◌≡◌, Some, sym, ap, ◌∙◌, arith}
use Rattle.rv32_decode.specs.Fields.{rd_of, imm_j}
use Rattle.rv32_decode.specs.declared.instruction.Instr.TheVariants as instr
use Rattle.rv32_decode.proofs.Atomics.{decoded_atomic}
use Rattle.rv32_decode.proofs.Branches.{decoded_branch, decoded_load, decoded_store, decoded_jalr, decoded_fence}
use Rattle.rv32_decode.proofs.Others.{decoded_other}
use Rattle.rv32_decode.proofs.Operations.{decoded_immediate, decoded_register}
use Rattle.rv32_decode.proofs.Uppers.{decoded_lui, decoded_auipc, decoded_jal, decoded_system}
use Rattle.rv32_decode.proofs.decoding.decode.Goals as goal

pub returns-in-55 : goal.returns-in-55
returns-in-55 c = ap Some c.upper.ensures ∙ sym (decoded_lui c.args.word (omega (arith, c.opcode.ensures, c.in-55.is)))

pub returns-in-23 : goal.returns-in-23
returns-in-23 c = ap Some c.upper-in-23.ensures ∙ sym (decoded_auipc c.args.word (omega (arith, c.opcode.ensures, c.in-23.is)))

pub returns-in-111 : goal.returns-in-111
returns-in-111 c =
    let e : Some (instr.Jal c.rd.result c.jump_offset.result) ≡ Some (instr.Jal (rd_of c.args.word) (imm_j c.args.word)) = cc (c.rd.ensures, c.jump_offset.ensures) in
    e ∙ sym (decoded_jal c.args.word (omega (arith, c.opcode.ensures, c.in-111.is)))

pub returns-in-103 : goal.returns-in-103
returns-in-103 c = c.jalr.ensures ∙ sym (decoded_jalr c.args.word (omega (arith, c.opcode.ensures, c.in-103.is)))

pub returns-in-99 : goal.returns-in-99
returns-in-99 c = c.branch-word.ensures ∙ sym (decoded_branch c.args.word (omega (arith, c.opcode.ensures, c.in-99.is)))

pub returns-in-3 : goal.returns-in-3
returns-in-3 c = c.load.ensures ∙ sym (decoded_load c.args.word (omega (arith, c.opcode.ensures, c.in-3.is)))

pub returns-in-35 : goal.returns-in-35
returns-in-35 c = c.store.ensures ∙ sym (decoded_store c.args.word (omega (arith, c.opcode.ensures, c.in-35.is)))

pub returns-in-19 : goal.returns-in-19
returns-in-19 c = c.immediate.ensures ∙ sym (decoded_immediate c.args.word (omega (arith, c.opcode.ensures, c.in-19.is)))

pub returns-in-51 : goal.returns-in-51
returns-in-51 c = c.register.ensures ∙ sym (decoded_register c.args.word (omega (arith, c.opcode.ensures, c.in-51.is)))

pub returns-in-15 : goal.returns-in-15
returns-in-15 c = c.fence.ensures ∙ sym (decoded_fence c.args.word (omega (arith, c.opcode.ensures, c.in-15.is)))

pub returns-in-47 : goal.returns-in-47
returns-in-47 c = c.atomic.ensures ∙ sym (decoded_atomic c.args.word (omega (arith, c.opcode.ensures, c.in-47.is)))

pub returns-in-115 : goal.returns-in-115
returns-in-115 c = c.system.ensures ∙ sym (decoded_system c.args.word c.ranges.word.fits (omega (arith, c.opcode.ensures, c.in-115.is)))

pub returns-in_default : goal.returns-in_default
returns-in_default c =
    sym (decoded_other c.args.word c.opcode.result (omega (arith, c.opcode.ensures))
    (λ e. first_of (omega arith, grind arith))
    (λ e. first_of (omega arith, grind arith))
    (λ e. first_of (omega arith, grind arith))
    (λ e. first_of (omega arith, grind arith))
    (λ e. first_of (omega arith, grind arith))
    (λ e. first_of (omega arith, grind arith))
    (λ e. first_of (omega arith, grind arith))
    (λ e. first_of (omega arith, grind arith))
    (λ e. first_of (omega arith, grind arith))
    (λ e. first_of (omega arith, grind arith))
    (λ e. first_of (omega arith, grind arith))
    (λ e. first_of (omega arith, grind arith)))
