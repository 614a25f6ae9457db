use Rattle.std.proofs.Common.{arith}
use Rattle.text_fields.proofs.Loops.{hex_done, hex_step, hex_fails}
use Rattle.text_fields.proofs.reading.hex_into.Goals as goal

pub returns-in_err-byte : goal.returns-in_err-byte
returns-in_err-byte c = rw c.from_residual.ensures (hex_fails c.loop-i.i c.loop-i.out c.loop-i.rest.now _ (omega arith) c.in_err-byte.ensures c.loop-i.invariant)

pub loop-i-preserved : goal.loop-i-preserved
loop-i-preserved c = hex_step c.loop-i.i c.loop-i.out c.loop-i.rest.now c.in_ok-byte.tail.now c.in_ok-byte.byte _ (omega arith) (c.in_ok-byte.ensures) c.loop-i.invariant

pub returns : goal.returns
returns c = hex_done c.loop-i.i c.loop-i.out c.loop-i.rest.now _ (omega arith) c.loop-i.invariant
