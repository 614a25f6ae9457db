use Rattle.std.proofs.Common.{◌≡◌, length, ap, arith}
use Rattle.backing_memory.specs.Places.{length-lines_of}
use Rattle.backing_memory.proofs.memory.Memory.new.Goals as goal
use Rattle.backing_memory.proofs.memory.Memory.new.Goals.{in-Bytes16+in_ok-cut-in-Bytes16, in-Bytes64+in_ok-cut-in-Bytes64}
use Rattle.tl_types.specs.declared.line.LineSize.TheVariants as size

pub invariant_of-result : goal.invariant_of-result
invariant_of-result c =
    let given = ap length c.bytes-bytes.ensures.exact in
    elim c.match-size.branch [
      | in-Bytes16+in_ok-cut-in-Bytes16 w ↦
          rw (w.lines-is, w.in_ok-cut-in-Bytes16.ensures) (omega (arith, length-lines_of size.Bytes16 c.bytes-bytes.result.now))
      | in-Bytes64+in_ok-cut-in-Bytes64 w ↦
          rw (w.lines-is, w.in_ok-cut-in-Bytes64.ensures) (omega (arith, length-lines_of size.Bytes64 c.bytes-bytes.result.now))
    ]
