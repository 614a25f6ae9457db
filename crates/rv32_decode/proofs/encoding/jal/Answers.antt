use Rattle.std.proofs.Common.{◌≡◌, ◌+◌, ◌*◌, ◌%◌, ap, ◌∙◌, arith}
use Rattle.rv32_decode.specs.Encoding.{encoded}
use Rattle.rv32_decode.specs.Rows.{decoded}
use Rattle.rv32_decode.specs.declared.instruction.Instr.TheVariants as instr
use Rattle.rv32_decode.proofs.ReadBack.{jal_read_back}
use Rattle.rv32_decode.proofs.encoding.jal.Goals as goal

pub returns-clause-read_back : goal.returns-clause-read_back
returns-clause-read_back c =
    let word : 111 + c.field.result * 128 % 4294967296 + c.jump_high.result * 4096 % 4294967296 ≡ encoded (instr.Jal c.args.rd c.args.offset) = omega arith in
    ap decoded word ∙ jal_read_back c.args.rd c.args.offset (omega arith) (omega arith) (omega arith) (omega arith)
