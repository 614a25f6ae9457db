-- A write to some of the bytes of one word of a line.
use Rattle.std.specs.Prelude.{ℕ, ◌+◌, ◌%◌, Bool, List, [], ◌∷◌, slice_set, if◌then◌else◌}
use Rattle.tl_types.specs.declared.line.LineData.{LineData}
use Rattle.tl_types.specs.declared.line.LineData.TheVariants.{Bytes16, Bytes64}

-- from a place on, each byte that is marked is written, and each other stays
abbrev pub with_marked : List ℕ → ℕ → List Bool → List ℕ → List ℕ
with_marked line at [] bytes = line
with_marked line at (mark ∷ marks) [] = line
with_marked line at (mark ∷ marks) (byte ∷ bytes) = with_marked (if mark then slice_set line at byte else line) (at + 1) marks bytes

-- the word at this address, which lies in the line at its remainder by the line's size
abbrev pub with_word : LineData → ℕ → List Bool → List ℕ → LineData
with_word (Bytes16 line) word marks bytes = Bytes16 (with_marked line (word % 16) marks bytes)
with_word (Bytes64 line) word marks bytes = Bytes64 (with_marked line (word % 64) marks bytes)
