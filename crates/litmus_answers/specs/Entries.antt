-- What was read of a log.
use Rattle.std.specs.Prelude.{ℕ, ◌++◌, ◌-◌, ◌==◌, Bool, List, [], ◌∷◌, Option, Some, codes, is_some, map, if◌then◌else◌}
use Rattle.std.specs.Global.{Vec}
use Rattle.std.specs.Option.{option_or}
use Rattle.text_fields.specs.Reading.{after}
use Rattle.text_words.specs.Words.{skip}
use Rattle.litmus_parts.specs.Scanning.{is_end}
use Rattle.litmus_answers.specs.Logs.{Said, answer_at, answer_in, count_at, state_at, states_in, test_at}
use Rattle.litmus_answers.specs.Naming.{plain}
use Rattle.litmus_answers.specs.declared.reading.Entry.{Entry}

-- nothing but blanks
abbrev pub is_blank_text : List ℕ → Bool
is_blank_text bytes = is_end (Some (skip bytes))

abbrev pub behind_states : List ℕ → Option (List ℕ)
behind_states line = option_or (after (codes "States ") line) (after (codes "Histogram (") line)

abbrev pub begins_test : List ℕ → Bool
begins_test line = is_some (test_at line)

-- states, without how they are kept
abbrev pub plain_states : List (Vec (Vec ℕ)) → List (List (List ℕ))
plain_states = map (λ (state : Vec (Vec ℕ)). plain state.items)

abbrev pub said : Entry → Said
said e = record { name = e.name.items; states = plain_states e.states.items; answer = e.answer }

abbrev pub all_said : List Entry → List Said
all_said = map said

-- what a line adds behind which so many states come
abbrev pub states_by : ℕ → List ℕ → List (List (List ℕ))
states_by n line = if n == 0 then [] else state_at line ∷ []

abbrev pub answer_by : ℕ → List ℕ → Option Bool → Option Bool
answer_by n line answer = if n == 0 then option_or answer (answer_at line) else answer

-- how many come behind it
abbrev pub left_by : ℕ → List ℕ → ℕ
left_by n line = if n == 0 then count_at line else n - 1

-- what is told of a test by lines behind those that were read, of which so many at the front have a state each
abbrev pub told_on : Entry → ℕ → List (List ℕ) → List (List (List ℕ)) × Option Bool
told_on e n others = (plain_states e.states.items ++ states_in n others, option_or e.answer (answer_in n others))
