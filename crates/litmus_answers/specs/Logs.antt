-- What a log has of tests, in blocks as herd7, rmem, litmus7 and `rvtl litmus` print them, and when two logs have the same of a test.
use Rattle.std.specs.Prelude.{ℕ, zero, suc, ◌&&◌, Bool, true, false, not, List, [], ◌∷◌, ◌++◌, Option, Some, None, Result, Ok, Err, codes, drop, if◌then◌else◌}
use Rattle.std.specs.List.{flat_map, list_all, list_any}
use Rattle.std.specs.Option.{option_or}
use Rattle.text_fields.specs.Reading.{◌>>=◌, after, guarded}
use Rattle.text_words.specs.Numbers.{number_of}
use Rattle.text_words.specs.Words.{skip, symbol_at, word}
use Rattle.text_words.specs.declared.numbers.Number.{Number}
use Rattle.text_words.specs.declared.numbers.Number.TheVariants.{Word, Wide}
use Rattle.litmus_parts.specs.Places.{place_at, value_at}
use Rattle.litmus_parts.specs.Scanning.{from, is_any, is_end, is_same, until}
use Rattle.litmus_parts.specs.Stops.{Read}
use Rattle.litmus_parts.specs.declared.places.Place.{Place}
use Rattle.litmus_parts.specs.declared.places.Value.{Value}
use Rattle.litmus_parts.specs.declared.places.Value.TheVariants.{Number as Numeral, Address}
use Rattle.litmus_parts.specs.declared.stop.Section.TheVariants.{Condition}
use Rattle.litmus_answers.specs.States.{place_text, signed_text}

-- what a log has of a test: its name, its states, each a list of places with their values, and whether its answer is Ok, if one is told
pub record Said : Type 0 where
  pub name : List ℕ
  pub states : List (List (List ℕ))
  pub answer : Option Bool

-- ---- lines

abbrev pub led : ℕ → List (List ℕ) → List (List ℕ)
led b [] = (b ∷ []) ∷ []
led b (piece ∷ others) = (b ∷ piece) ∷ others

-- the pieces of a text behind each of which one of these marks stands; the last one may have none
abbrev pub pieces : List ℕ → List ℕ → List (List ℕ)
pieces marks [] = []
pieces marks (b ∷ bytes) = if is_any marks b then [] ∷ pieces marks bytes else led b (pieces marks bytes)

abbrev pub lines : List ℕ → List (List ℕ)
lines text = pieces (codes "\n") text

-- `Test NAME ..` begins what is told of the test of this name
abbrev pub test_at : List ℕ → Option (List ℕ)
test_at line = after (codes "Test ") line >>= λ rest. Some (until (codes " \t\r") rest)

-- ---- how many states

abbrev pub counted : Option Number → ℕ
counted (Some (Word n)) = n
counted (Some Wide) = 0
counted None = 0

abbrev pub number_behind : Option (List ℕ) → ℕ
number_behind (Some rest) = counted (number_of (word rest))
number_behind None = 0

-- behind `States 4`, or `Histogram (4 states)`, so many lines have a state each
abbrev pub count_at : List ℕ → ℕ
count_at line = number_behind (option_or (after (codes "States ") line) (after (codes "Histogram (") line))

-- ---- a state

abbrev pub or_all : List ℕ → List ℕ → List ℕ
or_all [] line = line
or_all (b ∷ bytes) line = b ∷ bytes

-- what stands behind litmus7's count of runs, as `1000 :>` or `1 *>`
abbrev pub past_runs : List ℕ → List ℕ
past_runs line = or_all (drop 1 (from (codes ">") line)) line

abbrev pub read : {A : Type 0} → Read A → Option (A × List ℕ)
read (Ok x) = Some x
read (Err stop) = None

abbrev pub written : Value → List ℕ
written (Numeral n) = signed_text n
written (Address name) = name

-- a place with the value that stands here, and nothing else
abbrev pub set_to : Place → List ℕ → Option (Place × Value)
set_to place text = read (value_at Condition text) >>= λ value. guarded (is_end (Some (skip value.1))) (place, value.0)

-- a place and its value, and nothing else
abbrev pub setting_of : List ℕ → Option (Place × Value)
setting_of text = read (place_at Condition 10 text) >>= λ place. symbol_at (codes "=") place.1 >>= λ rest. set_to place.0 rest

-- in one spelling: a register as 0:x5, a location in brackets, a number in decimal and with its sign; what is no place with a value stands for itself
abbrev pub spelled : Option (Place × Value) → List ℕ → List ℕ
spelled (Some setting) text = place_text setting.0 ++ (codes "=" ++ written setting.1)
spelled None text = text

abbrev pub item_in : List ℕ → List (List ℕ)
item_in [] = []
item_in (b ∷ text) = spelled (setting_of (b ∷ text)) (b ∷ text) ∷ []

abbrev pub items_in : List (List ℕ) → List (List ℕ)
items_in = flat_map (λ piece. item_in (skip piece))

-- a semicolon ends each place with its value
abbrev pub state_at : List ℕ → List (List ℕ)
state_at line = items_in (pieces (codes ";") (past_runs line))

-- ---- the answer

-- a line with this word alone
abbrev pub is_alone : List ℕ → List ℕ → Bool
is_alone wanted line = is_end (after wanted line >>= λ rest. Some (skip rest))

abbrev pub answer_at : List ℕ → Option Bool
answer_at line = if is_alone (codes "Ok") line then Some true else if is_alone (codes "No") line then Some false else None

-- ---- what is told of a test

-- the states in these lines, of which so many at the front have one each
abbrev pub states_in : ℕ → List (List ℕ) → List (List (List ℕ))
states_in n [] = []
states_in zero (line ∷ others) = states_in (count_at line) others
states_in (suc n) (line ∷ others) = state_at line ∷ states_in n others

-- the first answer in those that have no state
abbrev pub answer_in : ℕ → List (List ℕ) → Option Bool
answer_in n [] = None
answer_in zero (line ∷ others) = option_or (answer_at line) (answer_in (count_at line) others)
answer_in (suc n) (line ∷ others) = answer_in n others

-- the lines before the one that begins another test
abbrev pub unless_test : Option (List ℕ) → List (List ℕ) → List (List ℕ)
unless_test (Some name) others = []
unless_test None others = others

abbrev pub body : List (List ℕ) → List (List ℕ)
body [] = []
body (line ∷ others) = unless_test (test_at line) (line ∷ body others)

abbrev pub said_of : (name : List ℕ) → (told : List (List ℕ)) → Said
said_of name told = record { name = name; states = states_in 0 told; answer = answer_in 0 told }

abbrev pub with_test : Option (List ℕ) → List (List ℕ) → List Said → List Said
with_test (Some name) others tests = said_of name (body others) ∷ tests
with_test None others tests = tests

abbrev pub tests_in : List (List ℕ) → List Said
tests_in [] = []
tests_in (line ∷ others) = with_test (test_at line) others (tests_in others)

-- what a log has, test by test
abbrev pub said_in : List ℕ → List Said
said_in log = tests_in (lines log)

-- ---- the same states

-- the same places with the same values, in whatever order
abbrev pub has_item : List (List ℕ) → List ℕ → Bool
has_item state item = list_any (λ known. is_same known item) state

abbrev pub is_part : List (List ℕ) → List (List ℕ) → Bool
is_part one other = list_all (has_item other) one

abbrev pub is_same_state : List (List ℕ) → List (List ℕ) → Bool
is_same_state one other = is_part one other && is_part other one

-- one of these states is this one
abbrev pub has_state : List (List (List ℕ)) → List (List ℕ) → Bool
has_state states state = list_any (is_same_state state) states

-- each of one's states is one of the other's
abbrev pub has_states : (one other : List (List (List ℕ))) → Bool
has_states one other = list_all (has_state other) one

-- both are told, and the same
abbrev pub is_same_answer : Option Bool → Option Bool → Bool
is_same_answer None other = false
is_same_answer (Some one) None = false
is_same_answer (Some true) (Some other) = other
is_same_answer (Some false) (Some other) = not other

-- both have the same states, in whatever order and however often, and the same answer
abbrev pub agrees : Said → Said → Bool
agrees one other = is_same_answer one.answer other.answer && (has_states one.states other.states && has_states other.states one.states)

-- each state that one has is among those of the other
abbrev pub is_within : Said → Said → Bool
is_within one other = has_states one.states other.states
