-- Where a column's labels stand.
use Rattle.std.specs.Prelude.{ℕ, ◌+◌, Bool, false, List, [], ◌∷◌, Option, Some, None, if◌then◌else◌}
use Rattle.std.specs.Str.{bytes_eq}
use Rattle.assembly_reading.specs.declared.statement.Statement.TheVariants.{One, Two, Branch, Jump, Nothing}
use Rattle.litmus_image.specs.declared.part.Line.{Line}
use Rattle.litmus_image.specs.declared.part.Line.TheVariants.{Label, Code}

-- how many instructions a line makes
abbrev pub width : Line → ℕ
width (Label name) = 0
width (Code (One i)) = 1
width (Code (Two i j)) = 2
width (Code (Branch op rs1 rs2 label)) = 1
width (Code (Jump rd label)) = 1
width (Code Nothing) = 0

abbrev pub is_label : Line → List ℕ → Bool
is_label (Label label) name = bytes_eq label name
is_label (Code s) name = false

-- How many instructions stand before the first label of this name; `place` stand before these lines.
abbrev pub place_from : ℕ → List Line → List ℕ → Option ℕ
place_from place [] name = None
place_from place (line ∷ lines) name = if is_label line name then Some place else place_from (place + width line) lines name
