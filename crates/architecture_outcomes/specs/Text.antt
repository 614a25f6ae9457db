-- The lines in which outcomes, and harts that stop, are told.
use Rattle.std.specs.Prelude.{ℕ, ◌+◌, List, [], ◌∷◌, ◌++◌, codes, decimal, length}
use Rattle.architecture_outcomes.specs.declared.architecture.Architecture.{Architecture}
use Rattle.architecture_outcomes.specs.declared.failing.Failing.{Failing}
use Rattle.architecture_outcomes.specs.declared.outcome.Outcome.{Outcome}
use Rattle.architecture_outcomes.specs.declared.outcome.Way.{Way}
use Rattle.architecture_outcomes.specs.declared.outcome.Way.TheVariants as way
use Rattle.architecture_outcomes.specs.Outcomes.{end_of}
use Rattle.elf_symbols.specs.Named.{Named}
use Rattle.exploration_text.specs.Failures.{failures_part, stopped_text}
use Rattle.exploration_text.specs.declared.wording.WordName.{WordName}
use Rattle.exploration_text.specs.Words.{end_text}
use Rattle.exploration_text.specs.RealisationVariants.{Events, Limit, NoMemory, Unrealised}
use Rattle.machine_types.specs.declared.model.MemoryModel.{MemoryModel}
use Rattle.machine_types.specs.declared.model.MemoryModel.TheVariants.{Rvwmo, Ztso}
use Rattle.state_search.specs.declared.findings.Extent.{Extent}
use Rattle.state_search.specs.declared.findings.Extent.TheVariants as extent
use Rattle.state_search.specs.declared.until.Ending.{Ending}
use Rattle.state_search.specs.declared.until.Ending.TheVariants as ending
use Rattle.text_fields.specs.Fields.{word}
use Rattle.window_search.specs.declared.left_out.Place.{Place}
use Rattle.window_search.specs.declared.left_out.Reach.{Reach}
use Rattle.window_search.specs.declared.left_out.Reach.TheVariants as reach

-- ---- outcomes

abbrev pub model_text : MemoryModel → List ℕ
model_text Rvwmo = codes "RVWMO"
model_text Ztso = codes "Ztso"

-- who comes to it
abbrev pub way_text : MemoryModel → Way → List ℕ
way_text model (way.Machine (Events events)) = codes "this machine"
way_text model (way.Machine NoMemory) = codes "without a script"
way_text model (way.Machine Limit) = codes "without a script"
way_text model (way.Machine Unrealised) = codes "without a script"
way_text model (way.ModelAlone trace) = model_text model ++ codes " alone"
way_text model (way.Model trace) = model_text model

-- the harts, the words behind them, and who comes to it
abbrev pub outcome_line : MemoryModel → List WordName → ℕ → Outcome → List ℕ
outcome_line model names number o = decimal number ++ (end_text names (end_of o) ++ (codes "   " ++ (way_text model o.way ++ codes "\n")))

-- counted from a number on
abbrev pub outcome_lines : MemoryModel → List WordName → ℕ → List Outcome → List ℕ
outcome_lines model names number [] = []
outcome_lines model names number (o ∷ os) = outcome_line model names number o ++ outcome_lines model names (number + 1) os

-- ---- harts that stop, whatever the other harts do then

abbrev pub stop_place : List Named → ℕ → Failing → List ℕ
stop_place symbols number f = codes "failure " ++ (decimal number ++ (codes "  " ++ stopped_text symbols f.failure.hart f.failure.stop))

-- the hart, where it stops and why, and who stops it
abbrev pub stop_line : MemoryModel → List Named → ℕ → Failing → List ℕ
stop_line model symbols number f = stop_place symbols number f ++ (codes "   " ++ (way_text model f.way ++ codes "\n"))

-- counted from a number on
abbrev pub stop_lines : MemoryModel → List Named → ℕ → List Failing → List ℕ
stop_lines model symbols number [] = []
stop_lines model symbols number (f ∷ fs) = stop_line model symbols number f ++ stop_lines model symbols (number + 1) fs

-- ---- the last line

-- a hart is followed over no more instructions in a row
abbrev pub rows_text : ℕ → List ℕ
rows_text longest = codes ", rows over " ++ (decimal longest ++ codes " instructions without an access left out")

-- more operations of a hart may not wait
abbrev pub window_text : ℕ → List ℕ
window_text window = codes ", windows over " ++ (decimal window ++ codes " left out")

-- where that was met
abbrev pub place_text : Place → List ℕ
place_text place = codes " (hart " ++ (decimal place.hart ++ (codes " at " ++ (word place.pc ++ codes ")")))

-- how far the search under the model came
abbrev pub reach_text : Reach → ℕ → List ℕ
reach_text reach.Whole window = codes ""
reach_text reach.Unjudged window = codes ", some outcomes or failures left out, as runs of over 4096 operations aren't judged"
reach_text reach.Unclosed window = codes ", a last pass over the states found more"
reach_text (reach.WindowMet place) window = window_text window ++ place_text place
reach_text (reach.ValuesMet place) window = codes ", values of a load over 256 left out" ++ place_text place
reach_text (reach.WaysMet place) window = codes ", ways of fetching on over 1000 left out" ++ place_text place
reach_text (reach.CallMet place) window = codes ", what a call by a loaded number allows may be left out" ++ place_text place
reach_text (reach.RowMet place) window = rows_text 10000 ++ place_text place
reach_text reach.LimitMet window = codes ", limit of states met"
reach_text (reach.Ended why) window = codes ""
reach_text reach.OutOfMemory window = codes ", out of memory"

-- how far the machine's own search came
abbrev pub machine_text : Extent → ℕ → List ℕ
machine_text extent.Complete states = codes ""
machine_text extent.LimitMet states = codes ", this machine incomplete: " ++ (decimal states ++ codes " states met")
machine_text (extent.Ended ending) states = codes ", this machine incomplete: ended"
machine_text extent.OutOfMemory states = codes ", this machine incomplete: out of memory"

abbrev pub count_text : (outcomes failures states : ℕ) → List ℕ
count_text outcomes failures states = decimal outcomes ++ (codes " outcomes, " ++ (failures_part failures ++ (decimal states ++ codes " states")))

-- neither search met a bound
abbrev pub whole_line : (outcomes failures states : ℕ) → List ℕ
whole_line outcomes failures states = codes "complete: " ++ (count_text outcomes failures states ++ codes "\n")

abbrev pub ended_text : Ending → List ℕ
ended_text ending.First = codes "incomplete: ended at the first, "
ended_text ending.Time = codes "incomplete: ended by --seconds, "

-- why it was ended, if it was
abbrev pub ending_before : Reach → List ℕ
ending_before (reach.Ended why) = ended_text why
ending_before _ = codes "incomplete: "

abbrev pub partial_line : Architecture → List ℕ
partial_line a = ending_before a.reach ++ (count_text (length a.outcomes.items) (length a.failures.items) a.states ++ (reach_text a.reach a.window ++ (machine_text a.machine a.machine_states ++ codes "\n")))

abbrev pub line_by : Reach → Extent → Architecture → List ℕ
line_by reach.Whole extent.Complete a = whole_line (length a.outcomes.items) (length a.failures.items) a.states
line_by _ _ a = partial_line a

abbrev pub last_line : Architecture → List ℕ
last_line a = line_by a.reach a.machine a

-- where words of memory, and addresses of the program, are called so
abbrev pub architecture_text : List WordName → List Named → Architecture → List ℕ
architecture_text names symbols a = outcome_lines a.model names 1 a.outcomes.items ++ (stop_lines a.model symbols 1 a.failures.items ++ last_line a)
