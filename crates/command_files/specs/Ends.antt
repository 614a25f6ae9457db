-- The lines in which a command tells how harts ended.
use Rattle.std.specs.Prelude.{ℕ, ◌+◌, List, [], ◌∷◌, ◌++◌, codes, map}
use Rattle.hart.specs.declared.status.Status.{Status}
use Rattle.hart_ends.specs.Ends.{hart_text}
use Rattle.machine_model.specs.Views.{State}

abbrev pub hart_line : ℕ → Status → List ℕ → List ℕ
hart_line hart status output = hart_text hart status output ++ codes "\n"

-- a line for each hart that has a status and an output, from a hart on
abbrev pub hart_lines : ℕ → List Status → List (List ℕ) → List ℕ
hart_lines hart [] outputs = []
hart_lines hart (status ∷ statuses) [] = []
hart_lines hart (status ∷ statuses) (output ∷ outputs) = hart_line hart status output ++ hart_lines (hart + 1) statuses outputs

-- of each hart of a machine
abbrev pub ends_of : State → List ℕ
ends_of s = hart_lines 0 s.trace.statuses (map (λ node. node.output) s.views.nodes)
