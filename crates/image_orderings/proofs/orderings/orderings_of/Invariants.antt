use Rattle.std.proofs.Common.{◌≡◌, ◌++◌, ◌+◌, ◌*◌, ◌≤◌, All}
use Rattle.elf_loader.specs.Image.{HasWord, end_of}
use Rattle.elf_loader.specs.Size.{base}
use Rattle.image_orderings.specs.Orderings.{orderings_from, orderings_of}
use Rattle.image_orderings.proofs.orderings.orderings_of.Given as goal

abbrev pub invariant-loop-left : goal.invariant-loop-left
invariant-loop-left l =
    (l.found.items ++ orderings_from l.image l.address l.left ≡ orderings_of l.image)
    × ((l.address + 4 * l.left ≡ end_of l.image)
    × ((base ≤ l.address) × All (λ o. HasWord l.image o.address) l.found.items))

abbrev pub decreases-loop-left : goal.decreases-loop-left
decreases-loop-left l = l.left
