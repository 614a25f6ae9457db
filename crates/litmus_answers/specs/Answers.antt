-- The answer to a question by the states that were found.
use Rattle.std.specs.Prelude.{ℕ, ◌+◌, ◌==◌, Bool, true, false, ◌&&◌, List, [], ◌∷◌, if◌then◌else◌}
use Rattle.std.specs.Global.{Vec}
use Rattle.litmus_parts.specs.declared.step.Step.{Step}
use Rattle.litmus_text.specs.declared.question.Kind.{Kind}
use Rattle.litmus_text.specs.declared.question.Kind.TheVariants.{Exists, NotExists, Forall}
use Rattle.litmus_parts.specs.declared.told.Told.{Told}
use Rattle.litmus_answers.specs.declared.answer.Tally.{Tally}
use Rattle.litmus_answers.specs.declared.answer.Answer.{Answer}
use Rattle.litmus_answers.specs.declared.answer.Answer.TheVariants as answer
use Rattle.litmus_answers.specs.Holding.{holds}

-- one more state
abbrev pub counted : Bool → Tally → Tally
counted true t = record { positive = t.positive + 1; negative = t.negative }
counted false t = record { positive = t.positive; negative = t.negative + 1 }

-- of how many states a proposition holds, and of how many it doesn't; so many were counted before these
abbrev pub tally_on : List (Vec ℕ) → List Told → List Step → Tally → List (Vec ℕ) → Tally
tally_on names told steps t [] = t
tally_on names told steps t (s ∷ states) = tally_on names told steps (counted (holds names told s.items steps) t) states

abbrev pub none : Tally
none = record { positive = 0; negative = 0 }

-- where all states were found, what isn't among them isn't there
abbrev pub unless_whole : Bool → Answer → Answer
unless_whole true a = a
unless_whole false a = answer.Undecided

-- a state for which the proposition holds settles exists and ~exists, one for which it doesn't settles forall
abbrev pub settled : Kind → Bool → Tally → Answer
settled Exists whole t = if t.positive == 0 then unless_whole whole answer.No else answer.Ok
settled NotExists whole t = if t.positive == 0 then unless_whole whole answer.Ok else answer.No
settled Forall whole t = if t.negative == 0 then unless_whole whole answer.Ok else answer.No

-- where no run ends, nothing is answered
abbrev pub answer_of : Kind → Bool → Tally → Answer
answer_of kind whole t = if t.positive == 0 && t.negative == 0 then unless_whole whole answer.NoRun else settled kind whole t
