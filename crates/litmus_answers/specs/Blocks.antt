-- How a test's answer is told.
use Rattle.std.specs.Prelude.{ℕ, ◌==◌, Bool, true, false, List, ◌++◌, length, codes, decimal, if◌then◌else◌}
use Rattle.litmus_text.specs.declared.question.Kind.{Kind}
use Rattle.litmus_text.specs.declared.question.Kind.TheVariants.{Exists, NotExists, Forall}
use Rattle.litmus_answers.specs.declared.answer.Tally.{Tally}
use Rattle.litmus_answers.specs.declared.answer.Answer.{Answer}
use Rattle.litmus_answers.specs.declared.answer.Answer.TheVariants.{No, NoRun, Ok, Undecided}
use Rattle.litmus_answers.specs.declared.report.Report.{Report}
use Rattle.litmus_answers.specs.States.{state_lines}

abbrev pub kind_text : Kind → List ℕ
kind_text Exists = codes "Allowed"
kind_text NotExists = codes "Forbidden"
kind_text Forall = codes "Required"

abbrev pub answer_text : Answer → List ℕ
answer_text Ok = codes "Ok"
answer_text No = codes "No"
answer_text Undecided = codes "Undecided"
answer_text NoRun = codes "No run ends"

-- where all states were found, how often the proposition holds
abbrev pub whole_text : Bool → List ℕ → List ℕ
whole_text true text = text
whole_text false text = codes "Unknown"

abbrev pub often_text : Bool → Tally → List ℕ
often_text whole t =
    if t.positive == 0 then whole_text whole (codes "Never")
    else if t.negative == 0 then whole_text whole (codes "Always")
    else codes "Sometimes"

abbrev pub counts_text : Bool → Tally → List ℕ
counts_text whole t = often_text whole t ++ (codes " " ++ (decimal t.positive ++ (codes " " ++ decimal t.negative)))

abbrev pub head_text : Report → List ℕ
head_text r = codes "Test " ++ (r.name.now ++ (codes " " ++ (kind_text r.kind ++ (codes "\nStates " ++ (decimal (length r.states.now) ++ codes "\n")))))

abbrev pub tail_text : Report → List ℕ
tail_text r = answer_text r.answer ++ (codes "\nWitnesses\nPositive: " ++ (decimal r.tally.positive ++ (codes " Negative: " ++ (decimal r.tally.negative ++ codes "\n"))))

abbrev pub end_text : Report → List ℕ
end_text r = codes "Condition " ++ (r.question.now ++ (codes "\nObservation " ++ (r.name.now ++ (codes " " ++ (counts_text r.is_whole r.tally ++ codes "\n\n")))))

-- a test's block
abbrev pub block_text : Report → List ℕ
block_text r = head_text r ++ (state_lines r.names.now r.told.now r.states.now ++ (tail_text r ++ end_text r))

-- a test's line
abbrev pub brief_text : Report → List ℕ
brief_text r = r.name.now ++ (codes "   " ++ (answer_text r.answer ++ (codes "   " ++ counts_text r.is_whole r.tally)))
