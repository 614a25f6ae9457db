-- Programs that are an image with words replaced where it orders memory operations.
use Rattle.std.specs.Prelude.{ℕ, ◌==◌, ◌∷◌, [], Bool, List, None, Option, Some, false, if◌then◌else◌, map, not}
use Rattle.elf_loader.specs.Image.{Initial, word_at}
use Rattle.image_orderings.specs.Forms.{without}
use Rattle.image_orderings.specs.declared.orderings.ImageOrdering.{ImageOrdering}
use Rattle.image_orderings.specs.declared.orderings.Part.{Part}
use Rattle.image_orderings.specs.declared.replacing.Patch.{Patch}

-- the word where each of these stands, as it is
abbrev pub own_patch : Initial → ImageOrdering → Patch
own_patch image o = record { address = o.address; word = word_at image o.address }

abbrev pub own_patches : Initial → List ImageOrdering → List Patch
own_patches image = map (own_patch image)

-- where it stands, the word without it
abbrev pub patch_without : ImageOrdering → Patch → Patch
patch_without o patch = if patch.address == o.address then record { address = patch.address; word = without o.part patch.word } else patch

abbrev pub patches_without : ImageOrdering → List Patch → List Patch
patches_without o = map (patch_without o)

-- at an address another word
abbrev pub patch_with : (address word : ℕ) → Patch → Patch
patch_with address word patch = if patch.address == address then record { address = patch.address; word = word } else patch

abbrev pub patches_with : (address word : ℕ) → List Patch → List Patch
patches_with address word = map (patch_with address word)

-- the word at an address, where one is replaced
abbrev pub word_in : List Patch → ℕ → Option ℕ
word_in [] address = None
word_in (patch ∷ rest) address = if patch.address == address then Some patch.word else word_in rest address

-- the word orders something that it does not without this part
abbrev pub has_part : Part → Option ℕ → Bool
has_part p None = false
has_part p (Some word) = not (without p word == word)

abbrev pub is_kept : List Patch → ImageOrdering → Bool
is_kept patches o = has_part o.part (word_in patches o.address)
