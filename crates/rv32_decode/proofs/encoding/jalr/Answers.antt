use Rattle.std.proofs.Common.{◌≡◌, ap, ◌∙◌, arith}
use Rattle.rv32_decode.specs.Encoding.{encoded}
use Rattle.rv32_decode.specs.Rows.{decoded}
use Rattle.rv32_decode.specs.declared.instruction.Instr.TheVariants as instr
use Rattle.rv32_decode.proofs.ReadBack.{jalr_read_back}
use Rattle.rv32_decode.proofs.encoding.jalr.Goals as goal

pub returns-clause-read_back : goal.returns-clause-read_back
returns-clause-read_back c =
    let word : c.assembled.result ≡ encoded (instr.Jalr c.args.rd c.args.rs1 c.args.offset) = omega arith in
    ap decoded word ∙ jalr_read_back c.args.rd c.args.rs1 c.args.offset (omega arith) (omega arith) (omega arith) (omega arith)
