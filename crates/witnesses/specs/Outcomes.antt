-- What lists of retired instructions come to: how their harts end and which numbers they put out.
use Rattle.std.specs.Prelude.{ℕ, ◌+◌, ◌==◌, if◌then◌else◌, List, [], ◌∷◌, ◌++◌, Option, Some, None, length}
use Rattle.elf_loader.specs.Image.{Initial}
use Rattle.rv32_decode.specs.Rows.{decoded}
use Rattle.rv32_exec.specs.Meaning.{Access, Calls}
use Rattle.hart.specs.declared.retired.Retired.{Retired}
use Rattle.hart.specs.declared.state.Hart.{Hart}
use Rattle.hart.specs.declared.status.Status.{Status}
use Rattle.hart.specs.Ends.{access_at}
use Rattle.hart.specs.Run.{after, at_reset}
use Rattle.flat_model.specs.Shown.{HartEnd}
use Rattle.trace_recorder.specs.History.{History}

-- what an access puts out: the argument of an environment call of number 1
abbrev pub number_out : Access → List ℕ
number_out (Calls number argument) = if number == 1 then argument ∷ [] else []
number_out _ = []

-- what a hart puts out as it retires these entries
abbrev pub output_from : Hart → List Retired → List ℕ
output_from hart [] = []
output_from hart (entry ∷ rest) = number_out (access_at hart (decoded entry.word)) ++ output_from (after hart entry) rest

-- how harts stand behind their lists and what they put out, from hart `id` on
abbrev pub results_from : Initial → ℕ → ℕ → List (List Retired) → List Status → List HartEnd
results_from image harts id [] statuses = []
results_from image harts id (entries ∷ rest) [] = []
results_from image harts id (entries ∷ rest) (status ∷ statuses) =
    record { status = status; output = output_from (at_reset image id harts) entries } ∷ results_from image harts (id + 1) rest statuses

-- the outcome that is read off a trace's lists
abbrev pub results_of : History → List HartEnd
results_of t = results_from t.image (length t.entries) 0 t.entries t.statuses
