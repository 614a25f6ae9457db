-- Which words of memory an end can show.
use Rattle.std.specs.Prelude.{ℕ, ◌≡◌, ◌%◌, Bool, true, ◌&&◌, ◌==◌, List, [], ◌∷◌, All}
use Rattle.elf_loader.specs.Image.{HasWord, Initial}

-- an aligned word of memory lies at the address
abbrev pub CanShow : Initial → ℕ → Type 0
CanShow image address = (address % 4 ≡ 0) × HasWord image address

abbrev pub CanShowEach : Initial → List ℕ → Type 0
CanShowEach image addresses = All (CanShow image) addresses

-- each address is a multiple of 4
abbrev pub are_aligned : List ℕ → Bool
are_aligned [] = true
are_aligned (address ∷ rest) = address % 4 == 0 && are_aligned rest
