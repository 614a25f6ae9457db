-- How a hart ended, as the commands tell it.
use Rattle.std.specs.Prelude.{ℕ, List, [], ◌∷◌, ◌++◌, codes, decimal}
use Rattle.std.specs.List.{flat_map}
use Rattle.hart.specs.declared.status.Status.{Status}
use Rattle.hart.specs.declared.status.Status.TheVariants.{Running, Stopped, Exited}

abbrev pub status_text : Status → List ℕ
status_text Running = codes "run"
status_text (Stopped code) = codes "stop " ++ decimal code
status_text (Exited code) = codes "exit " ++ decimal code

abbrev pub number_text : ℕ → List ℕ
number_text n = codes " " ++ decimal n

-- the numbers that it put out, if there are any
abbrev pub output_text : List ℕ → List ℕ
output_text [] = []
output_text (n ∷ ns) = codes " output" ++ flat_map number_text (n ∷ ns)

abbrev pub hart_text : ℕ → Status → List ℕ → List ℕ
hart_text hart status output = codes "hart " ++ (decimal hart ++ (codes ": " ++ (status_text status ++ output_text output)))
