use Rattle.std.proofs.Common.{◌≡◌, All, length}
use Rattle.elf_loader.specs.Image.{HasWord}
use Rattle.image_orderings.specs.Replaced.{patched}
use Rattle.image_orderings.proofs.replacing.patched.Given as goal

abbrev pub invariant-loop-rest : goal.invariant-loop-rest
invariant-loop-rest l =
    (patched l.made l.rest ≡ patched l.image l.patches)
    × (All (λ p. HasWord l.image p.address) l.rest × (length l.made.bytes ≡ length l.image.bytes))

abbrev pub decreases-loop-rest : goal.decreases-loop-rest
decreases-loop-rest l = length l.rest
