-- Lines of one size, kept as their bytes.
use Rattle.std.proofs.Common.{◌≡◌, ℕ, ◌/◌, ◌<◌, ◌≤◌, List, [], map, length, slice_set, refl, sym, ◌∙◌, arith}
use Rattle.std.proofs.lemmas.List.{get_or-map, length-map, map-set}
use Rattle.std.proofs.lemmas.List.FromFn.{length-map-range_with_len}
use Rattle.backing_memory.specs.Memory.{FitsMemory, line_data, no_line, pieces_of}
use Rattle.tl_types.specs.Line.{size_of}
use Rattle.tl_types.specs.declared.line.LineData.{LineData}
use Rattle.tl_types.specs.declared.line.LineData.TheVariants as data_of
use Rattle.tl_types.specs.declared.line.LineSize.TheVariants as size

pub size-short : (lines : List (List ℕ)) (i : ℕ) → i < length lines → size_of (line_data (map data_of.Bytes16 lines) i) ≡ size.Bytes16
size-short lines i h = let e = get_or-map data_of.Bytes16 lines i [] no_line h in rw e refl

pub size-long : (lines : List (List ℕ)) (i : ℕ) → i < length lines → size_of (line_data (map data_of.Bytes64 lines) i) ≡ size.Bytes64
size-long lines i h = let e = get_or-map data_of.Bytes64 lines i [] no_line h in rw e refl

-- a line of the one size is none of the other
pub short-is_not-long : (kept : List LineData) (lines : List (List ℕ)) (i : ℕ) (line : LineData) (bytes : List ℕ)
    → kept ≡ map data_of.Bytes16 lines → i < length kept → size_of line ≡ size_of (line_data kept i)
    → line ≡ data_of.Bytes64 bytes → ⊥
short-is_not-long kept lines i line bytes are inside fits is =
    let within : i < length lines = simp length-map at (rw are at inside) in
    let clash = rw (is, are, size-short lines i within) at fits in
    cc

pub long-is_not-short : (kept : List LineData) (lines : List (List ℕ)) (i : ℕ) (line : LineData) (bytes : List ℕ)
    → kept ≡ map data_of.Bytes64 lines → i < length kept → size_of line ≡ size_of (line_data kept i)
    → line ≡ data_of.Bytes16 bytes → ⊥
long-is_not-short kept lines i line bytes are inside fits is =
    let within : i < length lines = simp length-map at (rw are at inside) in
    let clash = rw (is, are, size-long lines i within) at fits in
    cc
