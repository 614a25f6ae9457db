-- How a log is judged whose lines have halves: by two logs of the same messages, each with the bytes of one half. The clause of judge_wide on whole lines doesn't rest on these words.
use Rattle.std.specs.Prelude.{ℕ, zero, suc, ◌≡◌, Bool, true, false, List, [], ◌++◌, Option, Some, None, if◌then◌else◌, length, nat_lt, slice_get, take}
use Rattle.std.specs.Option.{option_or}
use Rattle.message_judge.specs.Breaches.{AreTold, BreaksAs, numbered}
use Rattle.message_judge.specs.Laws.{IsEndedVerdict, IsMessageVerdict}
use Rattle.message_judge.specs.Profile.{Profile}
use Rattle.message_judge.specs.declared.breaches.Breaches.{Breaches}
use Rattle.message_judge.specs.declared.breaches.Broken.{Broken}
use Rattle.message_judge.specs.declared.verdict.MessageBreach.{MessageBreach}
use Rattle.message_judge.specs.declared.verdict.MessageVerdict.{MessageVerdict}
use Rattle.message_judge.specs.declared.verdict.MessageVerdict.TheVariants.{Lawful, Unlawful}
use Rattle.trace_recorder.specs.declared.logged.Logged.{Logged}

-- ---- the verdict

-- the one of the earlier message; of the same message that of the first half
abbrev pub earlier : MessageVerdict → MessageVerdict → MessageVerdict
earlier Lawful two = two
earlier (Unlawful breach index) Lawful = Unlawful breach index
earlier (Unlawful breach index) (Unlawful other at) = if nat_lt at index then Unlawful other at else Unlawful breach index

pub record IsEarlierVerdict (profile : Profile) (first second : List Logged) (v : MessageVerdict) : Type 0 where
  pub one : MessageVerdict
  pub two : MessageVerdict
  pub first_judged : IsMessageVerdict profile None first one
  pub second_judged : IsMessageVerdict profile None second two
  pub told : v ≡ earlier one two

-- where all messages are lawful each question has its answer, as the first log tells
abbrev pub IsToldAtEnd : Profile → List Logged → (by_messages told : MessageVerdict) → Type 0
IsToldAtEnd profile first Lawful told = IsEndedVerdict profile None first told
IsToldAtEnd profile first (Unlawful breach index) told = told ≡ Unlawful breach index

-- the verdict on a log that has ended, or may go on
abbrev pub IsPartsVerdict : (ended : Bool) → Profile → (first second : List Logged) → MessageVerdict → Type 0
IsPartsVerdict false profile first second v = IsEarlierVerdict profile first second v
IsPartsVerdict true profile first second v = (by_messages : MessageVerdict) × IsEarlierVerdict profile first second by_messages × IsToldAtEnd profile first by_messages v

-- ---- all breaches

-- what the entry at this index breaks behind those before it, if there is one
abbrev pub BreaksBy : (Logged → Option MessageBreach → Type 0) → Option Logged → Option MessageBreach → Type 0
BreaksBy Breaks None found = found ≡ None
BreaksBy Breaks (Some e) found = Breaks e found

abbrev pub BreaksAt : Profile → List Logged → ℕ → Option MessageBreach → Type 0
BreaksAt profile log n found = BreaksBy (BreaksAs profile None (take n log)) (slice_get log n) found

-- the breaches of the first entries: of each what it breaks in the first log, or else in the second
abbrev pub ArePartBreachesOf : Profile → (first second : List Logged) → (entries : ℕ) → List Broken → Type 0
ArePartBreachesOf profile first second zero breaches = breaches ≡ []
ArePartBreachesOf profile first second (suc n) breaches =
    (before : List Broken) × (one : Option MessageBreach) × (two : Option MessageBreach) × ArePartBreachesOf profile first second n before
    × BreaksAt profile first n one × BreaksAt profile second n two × (breaches ≡ before ++ numbered n (option_or one two))

pub record AreCountedParts (profile : Profile) (first second : List Logged) (b : Breaches) : Type 0 where
  pub all : List Broken
  pub breaches : ArePartBreachesOf profile first second (length first) all
  pub told : AreTold all b.listed.items b.count
