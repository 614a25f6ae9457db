-- The parts of lines in which an exploration is told.
use Rattle.std.specs.Prelude.{ℕ, zero, suc, ◌+◌, List, [], ◌∷◌, ◌++◌, Option, Some, None, codes, decimal}
use Rattle.exploration_text.specs.Failures.{failures_part}
use Rattle.explorer.specs.declared.exploration.Stuck.{Stuck}
use Rattle.explorer.specs.Shown.{HartEnd}
use Rattle.hart_ends.specs.Ends.{hart_text}
use Rattle.state_search.specs.declared.findings.Extent.{Extent}
use Rattle.state_search.specs.declared.findings.Extent.TheVariants.{Complete, LimitMet, Ended, OutOfMemory}
use Rattle.state_search.specs.declared.until.Ending.{Ending}
use Rattle.state_search.specs.declared.until.Ending.TheVariants.{First, Time}

-- ---- harts

abbrev pub gap_before : ℕ → List ℕ
gap_before zero = codes "  "
gap_before (suc h) = codes "   "

abbrev pub hart_field : ℕ → HartEnd → List ℕ
hart_field h r = gap_before h ++ hart_text h r.status r.output

-- from hart h on
abbrev pub harts_text : ℕ → List HartEnd → List ℕ
harts_text h [] = []
harts_text h (r ∷ rs) = hart_field h r ++ harts_text (h + 1) rs

-- ---- lines

abbrev pub stuck_line : Option Stuck → List ℕ
stuck_line None = []
stuck_line (Some stuck) = codes "stuck: " ++ (decimal stuck.states ++ codes " states from which no schedule ends\n")

-- why it ended before all states were found
abbrev pub ending_text : Ending → List ℕ
ending_text First = codes "incomplete: ended at the first, "
ending_text Time = codes "incomplete: ended by --seconds, "

abbrev pub last_line : Extent → (outcomes failures states : ℕ) → List ℕ
last_line Complete outcomes failures states = codes "complete: " ++ (decimal outcomes ++ (codes " outcomes, " ++ (failures_part failures ++ (decimal states ++ codes " states\n"))))
last_line LimitMet outcomes failures states = codes "incomplete: " ++ (decimal states ++ codes " states met\n")
last_line (Ended ending) outcomes failures states = ending_text ending ++ (decimal states ++ codes " states met\n")
last_line OutOfMemory outcomes failures states = codes "incomplete: out of memory\n"
