-- What a test has for each hart.
use Rattle.std.specs.Prelude.{ℕ, ◌==◌, List, [], ◌∷◌, if◌then◌else◌}
use Rattle.litmus_image.specs.declared.part.Line.{Line}
use Rattle.litmus_image.specs.declared.part.Line.TheVariants as line
use Rattle.litmus_parts.specs.declared.code.CodeLine.{CodeLine}
use Rattle.litmus_parts.specs.declared.code.Content.{Content}
use Rattle.litmus_parts.specs.declared.code.Content.TheVariants as content

abbrev pub line_of : Content → Line
line_of (content.Label name) = line.Label name
line_of (content.Code statement) = line.Code statement

-- the lines of a hart's column, in order
abbrev pub column_of : List CodeLine → ℕ → List Line
column_of [] hart = []
column_of (l ∷ lines) hart = if l.hart == hart then line_of l.content ∷ column_of lines hart else column_of lines hart
