-- What of an image a hart may come to, and what it never meets.
use Rattle.std.specs.Prelude.{◌≡◌, ◌⊎◌, ℕ, List, filter, true}
use Rattle.elf_loader.specs.Image.{Initial}
use Rattle.image_orderings.specs.Flow.{may_come_to}
use Rattle.image_orderings.specs.Never.{IsNeverMet}
use Rattle.image_orderings.specs.declared.orderings.ImageOrdering.{ImageOrdering}
use Rattle.image_orderings.specs.declared.replacing.Patch.{Patch}

abbrev pub met_orderings : Initial → List ImageOrdering → List ImageOrdering
met_orderings image = filter (λ (o : ImageOrdering). may_come_to image o.address)

abbrev pub met_places : Initial → List Patch → List Patch
met_places image = filter (λ (p : Patch). may_come_to image p.address)

-- a hart may come there by the image's words, or none ever does
abbrev pub IsMetOrNever : Initial → (address : ℕ) → Type 0
IsMetOrNever image address = (may_come_to image address ≡ true) ⊎ IsNeverMet image address
