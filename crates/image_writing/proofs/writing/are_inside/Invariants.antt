use Rattle.std.proofs.Common.{◌↔◌, All, length}
use Rattle.elf_loader.specs.Image.{HasWord}
use Rattle.image_writing.proofs.writing.are_inside.Given as goal

abbrev pub invariant-loop-rest : goal.invariant-loop-rest
invariant-loop-rest l = All (λ p. HasWord l.image p.address) l.rest ↔ All (λ p. HasWord l.image p.address) l.patches

abbrev pub decreases-loop-rest : goal.decreases-loop-rest
decreases-loop-rest l = length l.rest
