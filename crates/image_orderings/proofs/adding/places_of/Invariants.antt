use Rattle.std.proofs.Common.{◌≡◌, ◌++◌, ◌+◌, ◌*◌, ◌≤◌, All}
use Rattle.elf_loader.specs.Image.{end_of}
use Rattle.elf_loader.specs.Size.{base}
use Rattle.image_orderings.specs.Adding.{places_from, places_of}
use Rattle.image_orderings.specs.Replaced.{IsPatchOf}
use Rattle.image_orderings.proofs.adding.places_of.Given as goal

abbrev pub invariant-loop-left : goal.invariant-loop-left
invariant-loop-left l =
    (l.found.items ++ places_from l.image l.address l.left ≡ places_of l.image)
    × ((l.address + 4 * l.left ≡ end_of l.image)
    × ((base ≤ l.address) × All (IsPatchOf l.image) l.found.items))

abbrev pub decreases-loop-left : goal.decreases-loop-left
decreases-loop-left l = l.left
