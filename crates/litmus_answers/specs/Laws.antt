-- A block that is printed is read again.
use Rattle.std.specs.Prelude.{ℕ, ◌≡◌, ◌<◌, ◌^◌, ◌==◌, ◌&&◌, nat_lt, Bool, true, false, List, [], ◌∷◌, ◌++◌, Option, Some, None, codes, length, map}
use Rattle.std.specs.Global.{Vec}
use Rattle.std.specs.List.{list_all, list_any}
use Rattle.text_words.specs.Words.{is_name, is_word_byte}
use Rattle.litmus_parts.specs.Header.{is_name_byte}
use Rattle.litmus_parts.specs.declared.told.Told.{Told}
use Rattle.litmus_parts.specs.declared.told.Told.TheVariants as told
use Rattle.litmus_answers.specs.Blocks.{block_text}
use Rattle.litmus_answers.specs.Logs.{Said, said_in}
use Rattle.litmus_answers.specs.Naming.{plain}
use Rattle.litmus_answers.specs.States.{told_text, value_text}
use Rattle.litmus_answers.specs.declared.answer.Answer.{Answer}
use Rattle.litmus_answers.specs.declared.answer.Answer.TheVariants.{No, NoRun, Ok, Undecided}
use Rattle.litmus_answers.specs.declared.report.Report.{Report}

-- a location's name is a word
abbrev pub is_location_name : List ℕ → Bool
is_location_name name = is_name name && list_all is_word_byte name

abbrev pub is_place : Told → Bool
is_place (told.Register hart register index) = nat_lt hart 10 && nat_lt register 32
is_place (told.Location name mask number) = is_location_name name

abbrev pub are_words : List ℕ → Bool
are_words = list_all (λ n. nat_lt n (2 ^ 32))

-- names and numbers are such as a test has them
pub record IsTold (r : Report) : Type 0 where
  pub name : list_all is_name_byte r.name.now ≡ true
  pub question : list_any (λ b. b == 10) r.question.now ≡ false
  pub names : list_all is_location_name (plain r.names.now) ≡ true
  pub places : list_all is_place r.told.now ≡ true
  pub states : list_all are_words (plain r.states.now) ≡ true
  pub few : length r.states.now < 2 ^ 32
  pub positive : r.tally.positive < 2 ^ 64
  pub negative : r.tally.negative < 2 ^ 64

-- a state's places with their values
abbrev pub items_of : List (Vec ℕ) → List Told → List ℕ → List (List ℕ)
items_of names [] state = []
items_of names (t ∷ others) [] = []
items_of names (t ∷ others) (n ∷ state) = (told_text t ++ (codes "=" ++ value_text names n)) ∷ items_of names others state

abbrev pub truth_of : Answer → Option Bool
truth_of Ok = Some true
truth_of No = Some false
truth_of Undecided = None
truth_of NoRun = None

-- what a report has of its test
abbrev pub reported : Report → Said
reported r = record { name = r.name.now; states = map (items_of r.names.now r.told.now) (plain r.states.now); answer = truth_of r.answer }

-- A block is read as its report: its test's name, exactly its states, and its answer.
abbrev pub BlocksReadBack : Type 0
BlocksReadBack = (r : Report) → IsTold r → said_in (block_text r) ≡ reported r ∷ []
