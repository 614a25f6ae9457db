use Rattle.std.proofs.Common.{◌≡◌, ◌||◌, List, ℕ, length, map}
use Rattle.std.specs.List.{list_any}
use Rattle.allowed_outcomes.specs.Allowing.{allows, is_allowed_line, knows, outcome_in}
use Rattle.allowed_outcomes.proofs.allowing.Allowed.new.Given as goal

-- what was kept and what is left allow the same outcomes as all
abbrev pub invariant-loop-line : goal.invariant-loop-line
invariant-loop-line l = (line : List ℕ) → (knows l.lines.keys l.patterns.items line || list_any (allows line) (map outcome_in l.rest)) ≡ is_allowed_line l.fn.text line

abbrev pub decreases-loop-line : goal.decreases-loop-line
decreases-loop-line l = length l.rest
