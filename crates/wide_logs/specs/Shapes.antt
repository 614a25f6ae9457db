-- How many clients a log has, and how many bytes a line.
use Rattle.std.specs.Prelude.{ℕ, ◌≤◌, ◌==◌, Bool, true, false, Option, Some, None, if◌then◌else◌}
use Rattle.tl_types.specs.declared.line.LineSize.{LineSize}
use Rattle.tl_types.specs.declared.line.LineSize.TheVariants as size
use Rattle.wide_logs.specs.declared.shape.Shape.{Shape}
use Rattle.wide_logs.specs.declared.shape.Width.{Width}
use Rattle.wide_logs.specs.declared.shape.Width.TheVariants.{Bytes16, Bytes32, Bytes64, Bytes128}

abbrev pub bytes_of_width : Width → ℕ
bytes_of_width Bytes16 = 16
bytes_of_width Bytes32 = 32
bytes_of_width Bytes64 = 64
bytes_of_width Bytes128 = 128

abbrev pub width_of_bytes : ℕ → Option Width
width_of_bytes n = if n == 16 then Some Bytes16 else (if n == 32 then Some Bytes32 else (if n == 64 then Some Bytes64 else (if n == 128 then Some Bytes128 else None)))

-- what of a line is judged by itself, as a line of a machine of rvtl's: all of it, or each half
abbrev pub part_of : Width → LineSize
part_of Bytes16 = size.Bytes16
part_of Bytes32 = size.Bytes16
part_of Bytes64 = size.Bytes64
part_of Bytes128 = size.Bytes64

abbrev pub has_halves : Width → Bool
has_halves Bytes16 = false
has_halves Bytes32 = true
has_halves Bytes64 = false
has_halves Bytes128 = true

-- 1 to 64 clients
pub record IsShape (s : Shape) : Type 0 where
  pub some_client : 1 ≤ s.clients
  pub few_clients : s.clients ≤ 64
