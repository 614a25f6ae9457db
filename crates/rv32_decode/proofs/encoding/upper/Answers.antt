use Rattle.std.proofs.Common.{◌≡◌, ◌+◌, ◌*◌, ◌%◌, ap, ◌∙◌, arith}
use Rattle.rv32_decode.specs.Encoding.{encoded}
use Rattle.rv32_decode.specs.Rows.{decoded}
use Rattle.rv32_decode.specs.declared.instruction.Instr.TheVariants as instr
use Rattle.rv32_decode.proofs.ReadBack.{upper_read_back}
use Rattle.rv32_decode.proofs.encoding.upper.Goals as goal

pub returns-clause-read_back : goal.returns-clause-read_back
returns-clause-read_back c =
    let word : c.upper_opcode.result + c.field.result * 128 % 4294967296 + c.value.result ≡ encoded (instr.Upper c.args.op c.args.rd c.args.imm) = omega arith in
    ap decoded word ∙ upper_read_back c.args.op c.args.rd c.args.imm (omega arith) (omega arith) (omega arith)
