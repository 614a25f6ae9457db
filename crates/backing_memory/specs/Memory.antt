-- Main memory as the lines that caches and messages carry.
use Rattle.std.specs.Prelude.{ℕ, ◌*◌, ◌/◌, ◌≤◌, List, [], ◌∷◌, map, take, drop, length, replicate, slice_index_or}
use Rattle.std.specs.List.{range_with_len}
use Rattle.tl_types.specs.Line.{length_of}
use Rattle.tl_types.specs.declared.line.LineData.{LineData}
use Rattle.tl_types.specs.declared.line.LineData.TheVariants as data_of
use Rattle.tl_types.specs.declared.line.LineSize.{LineSize}
use Rattle.tl_types.specs.declared.line.LineSize.TheVariants as size

-- the bytes in pieces of n, the k-th beginning at place k times n
abbrev pub pieces_of : ℕ → List ℕ → List (List ℕ)
pieces_of n bytes = map (λ k. take n (drop (k * n) bytes)) (range_with_len 0 (length bytes / n))

-- memory's bytes as lines, the one at the lowest address first
abbrev pub lines_of : LineSize → List ℕ → List LineData
lines_of size.Bytes16 bytes = map data_of.Bytes16 (pieces_of 16 bytes)
lines_of size.Bytes64 bytes = map data_of.Bytes64 (pieces_of 64 bytes)

-- what a reading outside memory would give
abbrev pub no_line : LineData
no_line = data_of.Bytes16 []

abbrev pub line_data : List LineData → ℕ → LineData
line_data lines k = slice_index_or lines k no_line

-- how many lines 1 MiB has at most
abbrev pub FitsMemory : List LineData → Type 0
FitsMemory lines = length lines ≤ 65536
