-- The lines in which random runs are told.
use Rattle.std.specs.Prelude.{ℕ, zero, suc, ◌+◌, List, [], ◌∷◌, ◌++◌, codes, decimal}
use Rattle.exploration_text.specs.Text.{harts_text}
use Rattle.explorer.specs.Ends.{outcomes_of}
use Rattle.explorer.specs.FlatExplorationOutcomes.{Outcome}
use Rattle.explorer.specs.declared.samples.sampled.Sampled.{Sampled}

-- an end's number, how many runs came to it, and how each hart ended
abbrev pub counted_line : (number times : ℕ) → Outcome → List ℕ
counted_line number times outcome = decimal number ++ (codes "  " ++ (decimal times ++ (harts_text 0 outcome.results ++ codes "\n")))

-- counted from a number on
abbrev pub counted_lines : ℕ → List Outcome → List ℕ → List ℕ
counted_lines number [] _ = []
counted_lines number (o ∷ os) [] = []
counted_lines number (o ∷ os) (n ∷ ns) = counted_line number n o ++ counted_lines (number + 1) os ns

abbrev pub unended_line : ℕ → List ℕ
unended_line zero = []
unended_line (suc n) = codes "unended: " ++ (decimal (suc n) ++ codes " runs\n")

abbrev pub runs_line : ℕ → List ℕ
runs_line runs = codes "sampled: " ++ (decimal runs ++ codes " runs, not complete\n")

abbrev pub sampled_text : Sampled → List ℕ
sampled_text s = counted_lines 1 (outcomes_of s.ends.items) s.times.items ++ (unended_line s.unended ++ runs_line s.runs)
