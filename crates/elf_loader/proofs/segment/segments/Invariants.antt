use Rattle.std.proofs.Common.{◌≡◌, ◌≤◌}
use Rattle.arrayvec.specs.ArrayVec.{array_vec_len}
use Rattle.elf_loader.proofs.Table.{segments_below}
use Rattle.elf_loader.proofs.segment.segments.Given as goal

abbrev pub invariant-loop-k : goal.invariant-loop-k
invariant-loop-k l = record { room : array_vec_len l.segments ≤ l.k; read : l.segments.items ≡ segments_below l.file l.k }
