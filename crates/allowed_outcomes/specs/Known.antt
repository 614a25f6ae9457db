-- What a file that was read allows.
use Rattle.std.specs.Prelude.{ℕ, Bool, List}
use Rattle.allowed_outcomes.specs.Allowing.{knows}
use Rattle.allowed_outcomes.specs.declared.allowing.Allowed.{Allowed}

-- a line is one of those of the file, without its number, or fits one in which `*` stands for a number
abbrev pub allows_line : Allowed → List ℕ → Bool
allows_line allowed line = knows allowed.lines.keys allowed.patterns.items line
