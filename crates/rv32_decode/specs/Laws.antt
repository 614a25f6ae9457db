-- Laws of the instruction table.
use Rattle.std.specs.Prelude.{ℕ, ◌≤◌, count_by}
use Rattle.rv32_decode.specs.Rows.{rows, is_in}

-- no word is in two rows
abbrev pub RowsAreApart : Type 0
RowsAreApart = (word : ℕ) → count_by (is_in word) rows ≤ 1
