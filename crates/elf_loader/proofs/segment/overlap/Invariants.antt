use Rattle.std.proofs.Common.{◌≡◌, length}
use Rattle.elf_loader.specs.Elf.{some_overlap}
use Rattle.elf_loader.proofs.segment.overlap.Given as goal

abbrev pub invariant-loop-rest : goal.invariant-loop-rest
invariant-loop-rest l = some_overlap l.rest ≡ some_overlap l.segments

abbrev pub decreases-loop-rest : goal.decreases-loop-rest
decreases-loop-rest l = length l.rest
