-- A line's size and bytes.
use Rattle.std.specs.Prelude.{ℕ, List, Option, Some, None, ◌==◌, ◌-◌, ◌%◌, if◌then◌else◌}
use Rattle.tl_types.specs.declared.line.LineData.{LineData}
use Rattle.tl_types.specs.declared.line.LineData.TheVariants as data_of
use Rattle.tl_types.specs.declared.line.LineSize.{LineSize}
use Rattle.tl_types.specs.declared.line.LineSize.TheVariants as size

-- how many bytes a line of this size has
abbrev pub length_of : LineSize → ℕ
length_of size.Bytes16 = 16
length_of size.Bytes64 = 64

-- the line that an address lies in, as the address of its first byte
abbrev pub line_of : LineSize → ℕ → ℕ
line_of size address = address - address % length_of size

-- the size of a line of so many bytes, where a line may have as many
abbrev pub size_of_bytes : ℕ → Option LineSize
size_of_bytes n = if n == length_of size.Bytes16 then Some size.Bytes16 else (if n == length_of size.Bytes64 then Some size.Bytes64 else None)

abbrev pub size_of : LineData → LineSize
size_of (data_of.Bytes16 bytes) = size.Bytes16
size_of (data_of.Bytes64 bytes) = size.Bytes64

-- a line's bytes, the one at the lowest address first
abbrev pub bytes_of : LineData → List ℕ
bytes_of (data_of.Bytes16 bytes) = bytes
bytes_of (data_of.Bytes64 bytes) = bytes
