use Rattle.std.proofs.Common.{arith, sym}
use Rattle.trace_operations.proofs.Opcodes.{private_opcode}
use Rattle.trace_operations.proofs.items.has_operation.Goals as goal

pub returns-in_default : goal.returns-in_default
returns-in_default c = sym (private_opcode c.args.entry.now.sc_ok c.args.entry.now.word (λ is. first_of (omega arith, grind arith)) (λ is. first_of (omega arith, grind arith)) (λ is. first_of (omega arith, grind arith)))
