-- Which parts of a machine waves tell of.
use Rattle.std.specs.Prelude.{ℕ, if◌then◌else◌, List, [], ◌∷◌, ◌++◌, nat_eq}
use Rattle.std.specs.List.{flat_map, list_any, range_with_len}
use Rattle.indexmap.specs.IndexSet.{insert_key}
use Rattle.machine_model.specs.Views.{State}
use Rattle.tl_types.specs.declared.message.Channel.TheVariants.{A, B, C, D, E}
use Rattle.trace_recorder.specs.declared.logged.Logged.{Logged}
use Rattle.run_waves.specs.declared.groups.Group.{Group}
use Rattle.run_waves.specs.declared.groups.Group.TheVariants as part

-- ---- harts

abbrev pub of_hart : ℕ → List Group
of_hart h = part.Hart h ∷ part.Queue h A ∷ part.Queue h B ∷ part.Queue h C ∷ part.Queue h D ∷ part.Queue h E ∷ []

abbrev pub of_harts : ℕ → List Group
of_harts harts = flat_map of_hart (range_with_len 0 harts)

-- ---- lines

abbrev pub copy_of : ℕ → ℕ → List Group
copy_of line h = part.Copy h line ∷ part.Record h line ∷ []

abbrev pub copies_of : ℕ → ℕ → List Group
copies_of harts line = flat_map (copy_of line) (range_with_len 0 harts)

-- what each cache and the manager have of a line
abbrev pub of_line : ℕ → ℕ → List Group
of_line harts line = copies_of harts line ++ part.Transaction line ∷ []

-- nothing, where the line is among those that were met
abbrev pub of_new_line : ℕ → List ℕ → ℕ → List Group
of_new_line harts met line = if list_any (nat_eq line) met then [] else of_line harts line

-- the lines that messages are about, each where it is met first, if it isn't among these
abbrev pub of_lines_in : ℕ → List ℕ → List Logged → List Group
of_lines_in harts met [] = []
of_lines_in harts met (entry ∷ log) = of_new_line harts met entry.message.line ++ of_lines_in harts (insert_key nat_eq met entry.message.line) log

-- ---- all

-- each hart, its queues, and each line that a message was about
abbrev pub parts_of : State → List Group
parts_of s = of_harts s.views.notes.harts ++ of_lines_in s.views.notes.harts [] s.trace.log
