-- Why an escaped text is safe, and a text in its place.
use Rattle.std.specs.Prelude.{◌≡◌, ◌≤◌, ℕ, List, Bool, true, ◌==◌, ◌&&◌, length, not}
use Rattle.std.specs.List.{list_all}
use Rattle.run_chart.specs.Fitting.{fitted}
use Rattle.run_chart.specs.Markup.{escaped}

-- neither < nor > nor "
abbrev pub is_plain : ℕ → Bool
is_plain b = not (b == 60) && (not (b == 62) && not (b == 34))

-- nothing in an escaped text begins or ends a tag, or ends an attribute
abbrev pub EscapingIsSafe : Type 0
EscapingIsSafe = (text : List ℕ) → list_all is_plain (escaped text) ≡ true

-- a text has at most as many bytes as there is room for
abbrev pub FittedTextsFit : Type 0
FittedTextsFit = (room : ℕ) (text : List ℕ) → 3 ≤ room → length (fitted room text) ≤ room
