use Rattle.std.proofs.Common.{◌≡◌, ◌++◌, All, length}
use Rattle.elf_loader.specs.Image.{HasWord}
use Rattle.image_orderings.specs.Programs.{own_patches}
use Rattle.image_orderings.specs.Replaced.{IsPatchOf}
use Rattle.image_orderings.proofs.programs.own_patches.Given as goal

abbrev pub invariant-loop-rest : goal.invariant-loop-rest
invariant-loop-rest l =
    (l.made.items ++ own_patches l.image l.rest ≡ own_patches l.image l.orderings)
    × (All (λ o. HasWord l.image o.address) l.rest × All (IsPatchOf l.image) l.made.items)

abbrev pub decreases-loop-rest : goal.decreases-loop-rest
decreases-loop-rest l = length l.rest
