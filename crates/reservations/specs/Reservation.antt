-- A hart's reservation (RISC-V Unprivileged ISA 20191213, section 8.2, "Load-Reserved/Store-Conditional Instructions").
-- This machine's own choice within that section: the reserved set is one word, and is lost with its line.
use Rattle.std.specs.Prelude.{ℕ, ◌+◌, Bool, false, ◌&&◌, ◌==◌, nat_le, nat_lt, Option, Some, None, if◌then◌else◌}
use Rattle.tl_types.specs.declared.line.LineSize.{LineSize}
use Rattle.tl_types.specs.Line.{length_of}

-- the reserved word is this one
abbrev pub is_valid : ℕ → Option ℕ → Bool
is_valid word None = false
is_valid word (Some reserved) = reserved == word

-- a line begins at its address and has as many bytes as its size says
abbrev pub lies_in : ℕ → LineSize → ℕ → Bool
lies_in line size address = nat_le line address && nat_lt address (line + length_of size)

-- what is left once the hart has lost a line
abbrev pub without_line : ℕ → LineSize → Option ℕ → Option ℕ
without_line line size None = None
without_line line size (Some word) = if lies_in line size word then None else Some word
