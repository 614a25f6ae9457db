-- What standard error is told of the traces that show what only the memory model allows.
use Rattle.std.specs.Prelude.{ℕ, ◌≡◌, ◌+◌, ◌∷◌, ◌++◌, [], List, None, Option, Some, codes, decimal}
use Rattle.architecture_outcomes.specs.declared.outcome.Outcome.{Outcome}
use Rattle.architecture_outcomes.specs.declared.outcome.Way.{Way}
use Rattle.architecture_outcomes.specs.declared.outcome.Way.TheVariants.{Machine, Model, ModelAlone}
use Rattle.command_files.specs.Faults.{Name}
use Rattle.notes.specs.Overtaking.{overtakings}
use Rattle.notes.specs.declared.overtaking.Overtaking.{Overtaking}
use Rattle.text_fields.specs.Writing.{Begins}

-- a list grew by what P holds of
abbrev pub GrowsBy : List ℕ → List ℕ → (List ℕ → Type 0) → Type 0
GrowsBy old new P = (added : List ℕ) × (new ≡ old ++ added) × P added

-- a line with the outcome's number; what else it says is left open
abbrev pub IsRemark : ℕ → List ℕ → Type 0
IsRemark number line = (remark : List ℕ) × (line ≡ codes "outcome " ++ (decimal number ++ (codes ": " ++ (remark ++ codes "\n"))))

-- a line for each operation that overtakes one
abbrev pub AreRemarks : ℕ → List Overtaking → List ℕ → Type 0
AreRemarks number [] text = text ≡ []
AreRemarks number (pair ∷ rest) text = (line : List ℕ) × (more : List ℕ) × (text ≡ line ++ more) × IsRemark number line × AreRemarks number rest more

-- where none overtakes another a line too, on what else the machine doesn't do
abbrev pub AreReasons : ℕ → List Overtaking → List ℕ → Type 0
AreReasons number [] text = IsRemark number text
AreReasons number (pair ∷ rest) text = AreRemarks number (pair ∷ rest) text

-- those of the trace of an outcome that only the memory model allows; of the others none
abbrev pub TellsWay : ℕ → Way → List ℕ → Type 0
TellsWay number (Machine script) text = text ≡ []
TellsWay number (ModelAlone trace) text = AreReasons number (overtakings trace.history) text
TellsWay number (Model trace) text = text ≡ []

-- those of each outcome, counted from a number on
abbrev pub TellsWays : ℕ → List Outcome → List ℕ → Type 0
TellsWays number [] text = text ≡ []
TellsWays number (o ∷ rest) text = (here : List ℕ) × (more : List ℕ) × (text ≡ here ++ more) × TellsWay number o.way here × TellsWays (number + 1) rest more

-- where a folder was named for the traces a beginning of this went out, and else nothing
abbrev pub AreRemarked : Option Name → List Outcome → (before after : Option (List ℕ)) → Type 0
AreRemarked None outcomes before after = after ≡ before
AreRemarked (Some folder) outcomes before after = (remarks : List ℕ) × TellsWays 1 outcomes remarks × Begins before after remarks
