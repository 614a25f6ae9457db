-- Which bytes of memory a line has, for proofs in the crates above.
use Rattle.std.specs.Prelude.{◌≡◌, ℕ, ◌*◌, ◌/◌, ◌<◌, List, [], map, take, drop, length, slice_index_or}
use Rattle.std.proofs.Common.{refl, ◌∙◌, arith}
use Rattle.std.proofs.lemmas.List.{get_or-map, length-map}
use Rattle.std.proofs.lemmas.List.FromFn.{get_or-map-range_with_len, length-map-range_with_len}
use Rattle.backing_memory.specs.Memory.{line_data, lines_of, no_line, pieces_of}
use Rattle.tl_types.specs.Line.{bytes_of, length_of, size_of}
use Rattle.tl_types.specs.declared.line.LineData.TheVariants as data_of
use Rattle.tl_types.specs.declared.line.LineSize.{LineSize}
use Rattle.tl_types.specs.declared.line.LineSize.TheVariants as size

length-pieces : (n : ℕ) (bytes : List ℕ) → length (pieces_of n bytes) ≡ length bytes / n
length-pieces n bytes = simp length-map-range_with_len

pub length-lines_of : (s : LineSize) (bytes : List ℕ) → length (lines_of s bytes) ≡ length bytes / length_of s
length-lines_of size.Bytes16 bytes = length-map (pieces_of 16 bytes) data_of.Bytes16 ∙ length-pieces 16 bytes
length-lines_of size.Bytes64 bytes = length-map (pieces_of 64 bytes) data_of.Bytes64 ∙ length-pieces 64 bytes

piece : (n : ℕ) (bytes : List ℕ) (k : ℕ) → k < length bytes / n → slice_index_or (pieces_of n bytes) k [] ≡ take n (drop (k * n) bytes)
piece n bytes k h = get_or-map-range_with_len (λ j. take n (drop (j * n) bytes)) 0 (length bytes / n) k k [] h (omega arith)

short : (bytes : List ℕ) (k : ℕ) → k < length bytes / 16 → line_data (lines_of size.Bytes16 bytes) k ≡ data_of.Bytes16 (take 16 (drop (k * 16) bytes))
short bytes k h =
    let counted = length-pieces 16 bytes in
    let within : k < length (pieces_of 16 bytes) = omega arith in
    let e = get_or-map data_of.Bytes16 (pieces_of 16 bytes) k [] no_line within in
    rw (e, piece 16 bytes k h) refl

long : (bytes : List ℕ) (k : ℕ) → k < length bytes / 64 → line_data (lines_of size.Bytes64 bytes) k ≡ data_of.Bytes64 (take 64 (drop (k * 64) bytes))
long bytes k h =
    let counted = length-pieces 64 bytes in
    let within : k < length (pieces_of 64 bytes) = omega arith in
    let e = get_or-map data_of.Bytes64 (pieces_of 64 bytes) k [] no_line within in
    rw (e, piece 64 bytes k h) refl

-- each line has memory's line size
pub size-line_data : (s : LineSize) (bytes : List ℕ) (k : ℕ) → k < length bytes / length_of s → size_of (line_data (lines_of s bytes) k) ≡ s
size-line_data size.Bytes16 bytes k h = rw (short bytes k h) refl
size-line_data size.Bytes64 bytes k h = rw (long bytes k h) refl

-- line k has the bytes from k times the line's length on
pub bytes-line_data : (s : LineSize) (bytes : List ℕ) (k : ℕ) → k < length bytes / length_of s
    → bytes_of (line_data (lines_of s bytes) k) ≡ take (length_of s) (drop (k * length_of s) bytes)
bytes-line_data size.Bytes16 bytes k h = rw (short bytes k h) refl
bytes-line_data size.Bytes64 bytes k h = rw (long bytes k h) refl
