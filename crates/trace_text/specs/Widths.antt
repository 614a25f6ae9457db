-- How wide a line may be.
use Rattle.std.specs.Prelude.{◌≡◌, ℕ, ◌⊎◌}

abbrev pub IsWidth : ℕ → Type 0
IsWidth width = (width ≡ 16) ⊎ (width ≡ 64)
