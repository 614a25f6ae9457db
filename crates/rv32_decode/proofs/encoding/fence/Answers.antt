use Rattle.std.proofs.Common.{◌≡◌, ◌+◌, ◌*◌, ◌%◌, ap, ◌∙◌, arith}
use Rattle.rv32_decode.specs.Encoding.{encoded}
use Rattle.rv32_decode.specs.Rows.{decoded}
use Rattle.rv32_decode.specs.declared.instruction.Instr.TheVariants as instr
use Rattle.rv32_decode.proofs.ReadBackOperations.{fence_read_back}
use Rattle.rv32_decode.proofs.encoding.fence.Goals as goal

pub returns-clause-read_back : goal.returns-clause-read_back
returns-clause-read_back c =
    let word : 15 + c.from.result * 16777216 % 4294967296 + c.from-2.result * 1048576 % 4294967296 ≡ encoded (instr.Fence c.args.sets) = omega arith in
    ap decoded word ∙ fence_read_back c.args.sets (omega arith) (omega arith)
