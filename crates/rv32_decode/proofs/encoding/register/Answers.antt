use Rattle.std.proofs.Common.{◌≡◌, ap, ◌∙◌, arith}
use Rattle.rv32_decode.specs.Encoding.{encoded}
use Rattle.rv32_decode.specs.Rows.{decoded}
use Rattle.rv32_decode.specs.declared.instruction.Instr.TheVariants as instr
use Rattle.rv32_decode.proofs.ReadBackOperations.{register_read_back}
use Rattle.rv32_decode.proofs.encoding.register.Goals as goal

pub returns-clause-read_back : goal.returns-clause-read_back
returns-clause-read_back c =
    let word : c.assembled.result ≡ encoded (instr.Register c.args.op c.args.rd c.args.rs1 c.args.rs2) = omega arith in
    ap decoded word ∙ register_read_back c.args.op c.args.rd c.args.rs1 c.args.rs2 (omega arith) (omega arith) (omega arith)
