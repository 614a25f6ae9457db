-- Where an image may order more than it does, and programs in which it does.
use Rattle.std.specs.Prelude.{ℕ, ◌+◌, ◌/◌, ◌==◌, ◌&&◌, ◌∷◌, ◌++◌, [], Bool, List, filter, if◌then◌else◌, length, map, not, suc, zero}
use Rattle.elf_loader.specs.Image.{Initial, word_at}
use Rattle.elf_loader.specs.Size.{base}
use Rattle.image_orderings.specs.Forms.{is_weaker, strengthened, weaker_words, without}
use Rattle.image_orderings.specs.declared.orderings.Part.{Part}
use Rattle.image_orderings.specs.declared.orderings.Part.TheVariants.{Acquire, Release}
use Rattle.image_orderings.specs.declared.replacing.Patch.{Patch}
use Rattle.rv32_decode.specs.Rows.{decoded}

-- ---- where

abbrev pub patch_at : (address word : ℕ) → Patch
patch_at address word = record { address = address; word = word }

-- the word isn't all that it may be
abbrev pub may_be_more : ℕ → Bool
may_be_more word = not (strengthened word == word)

abbrev pub place_of : (address word : ℕ) → List Patch
place_of address word = if may_be_more word then patch_at address word ∷ [] else []

abbrev pub places_at : Initial → (address : ℕ) → List Patch
places_at image address = place_of address (word_at image address)

-- those of so many words from an address on, in the order of addresses
abbrev pub places_from : Initial → (address count : ℕ) → List Patch
places_from image address zero = []
places_from image address (suc count) = places_at image address ++ places_from image (address + 4) count

-- whatever word of memory looks like such an instruction counts as one
abbrev pub places_of : Initial → List Patch
places_of image = places_from image base (length image.bytes / 4)

-- ---- all that they may order

abbrev pub patch_strengthened : Patch → Patch
patch_strengthened patch = record { address = patch.address; word = strengthened patch.word }

abbrev pub patches_strengthened : List Patch → List Patch
patches_strengthened = map patch_strengthened

-- ---- less of it

-- the word isn't the same without it
abbrev pub orders_by : Part → ℕ → Bool
orders_by p word = not (without p word == word)

-- the word has this, and the word in whose place it stands hasn't
abbrev pub may_be_less : Part → (own word : ℕ) → Bool
may_be_less p own word = orders_by p word && not (orders_by p own)

-- the word without it, then
abbrev pub milder_by : Part → (own word : ℕ) → List ℕ
milder_by p own word = if may_be_less p own word then without p word ∷ [] else []

-- FENCEs that order less than it, and more than its own word
abbrev pub fences_between : (own word : ℕ) → List ℕ
fences_between own word = filter (λ form. is_weaker (decoded own) (decoded form)) (weaker_words word)

-- or the word without a bit that its own word hasn't
abbrev pub milder_words : (own word : ℕ) → List ℕ
milder_words own word = (fences_between own word ++ milder_by Release own word) ++ milder_by Acquire own word
