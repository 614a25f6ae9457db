-- Whether an answer is as the logs have it that are named.
use Rattle.std.specs.Prelude.{ℕ, ◌≡◌, ◌&&◌, Bool, true, false, List, [], ◌∷◌, Option, Some, None, if◌then◌else◌}
use Rattle.std.specs.Global.{Vec}
use Rattle.std.specs.Option.{option_map}
use Rattle.command_files.specs.Contents.{Contents, HoldsBytes}
use Rattle.litmus_answers.specs.Entries.{all_said}
use Rattle.litmus_answers.specs.Logs.{Said, agrees, is_within, said_in}
use Rattle.litmus_answers.specs.declared.reading.Entry.{Entry}
use Rattle.litmus_command.specs.Wishes.{Wishes}
use Rattle.litmus_command.specs.declared.logs.Logs.{Logs}
use Rattle.litmus_parts.specs.Scanning.{is_same}

-- what the logs have: the one whose states and answers are expected, and the one each of whose states has to be found
pub record Logged : Type 0 where
  pub expect : Option (List Said)
  pub seen : Option (List Said)

abbrev pub read : Option (Vec Entry) → Option (List Said)
read = option_map (λ (entries : Vec Entry). all_said entries.items)

abbrev pub logged : Logs → Logged
logged logs = record { expect = read logs.expect; seen = read logs.seen }

-- the first of these tests that has this name
abbrev pub test_named : List ℕ → List Said → Option Said
test_named name [] = None
test_named name (test ∷ tests) = if is_same name test.name then Some test else test_named name tests

-- a test that isn't there isn't as wanted
abbrev pub is_there : Option Said → (Said → Bool) → Bool
is_there None wanted = false
is_there (Some test) wanted = wanted test

-- the log has this test with the same states and the same answer
abbrev pub is_expected : Option (List Said) → Said → Bool
is_expected None own = true
is_expected (Some log) own = is_there (test_named own.name log) (λ test. agrees own test)

-- the log has this test, and no state that isn't found
abbrev pub has_seen : Option (List Said) → Said → Bool
has_seen None own = true
has_seen (Some log) own = is_there (test_named own.name log) (λ test. is_within test own)

abbrev pub first_of : List Said → Option Said
first_of [] = None
first_of (test ∷ tests) = Some test

-- a test's block is as the logs have it
abbrev pub as_logged : Logged → (block : List ℕ) → Bool
as_logged logs block = is_there (first_of (said_in block)) (λ own. is_expected logs.expect own && has_seen logs.seen own)

-- what the file of this name has, if one is named
abbrev pub IsLog : Contents → Option (List ℕ) → Option (List Said) → Type 0
IsLog held None log = log ≡ None
IsLog held (Some name) log = (text : List ℕ) × HoldsBytes held name text × (log ≡ Some (said_in text))

-- what the logs have that are named
pub record AreLogs (held : Contents) (w : Wishes) (logs : Logged) : Type 0 where
  pub expect : IsLog held w.expect logs.expect
  pub seen : IsLog held w.seen logs.seen

-- a block is as the logs have it that are named, or isn't
pub record IsJudged (held : Contents) (w : Wishes) (block : List ℕ) (is_as_logged : Bool) : Type 0 where
  pub logs : Logged
  pub are_logs : AreLogs held w logs
  pub judged : as_logged logs block ≡ is_as_logged
