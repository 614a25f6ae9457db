-- Every message of a log that breaks a rule.
use Rattle.std.specs.Prelude.{ℕ, zero, suc, ◌≡◌, IfSome, List, [], ◌∷◌, ◌++◌, Option, Some, None, length, slice_get, take}
use Rattle.coherent_log.specs.Followed as coherence
use Rattle.elf_loader.specs.Image.{Initial}
use Rattle.lawful_log.specs.Facts as order
use Rattle.lawful_log.specs.Facts.{known_of}
use Rattle.lawful_log.specs.Followed.{waits_first}
use Rattle.lawful_log.specs.declared.profile.Profile.{Profile}
use Rattle.lawful_log.specs.declared.rule.LogRule.{LogRule}
use Rattle.message_judge.specs.declared.breaches.Breaches.{Breaches}
use Rattle.message_judge.specs.declared.breaches.Broken.{Broken}
use Rattle.message_judge.specs.declared.verdict.MessageBreach.{MessageBreach}
use Rattle.message_judge.specs.declared.verdict.MessageBreach.TheVariants.{Incoherent, Unanswered, Unlawful, Unwritten}
use Rattle.message_judge.specs.declared.verdict.MessageVerdict.{MessageVerdict}
use Rattle.message_judge.specs.declared.verdict.MessageVerdict.TheVariants as message
use Rattle.trace_recorder.specs.declared.logged.Logged.{Logged}

-- the first rule of the lawful log that an entry breaks, by what the log before it counts up to, whether it is lawful or not, and by what waits in front of its queue
abbrev pub BreaksRule : Profile → List Logged → Logged → Option LogRule → Type 0
BreaksRule profile log e found = order.FindsBreach profile (waits_first e.hart e.message log) (known_of e.hart e.message.line log) e found

-- what an entry breaks behind a log: that rule, or else the first of the coherent log
abbrev pub BreaksAs : Profile → Option Initial → List Logged → Logged → Option MessageBreach → Type 0
BreaksAs profile image log e None = BreaksRule profile log e None × coherence.FindsBreach image log e None
BreaksAs profile image log e (Some (Unlawful rule)) = BreaksRule profile log e (Some rule)
BreaksAs profile image log e (Some (Incoherent breach)) = BreaksRule profile log e None × coherence.FindsBreach image log e (Some breach)
BreaksAs profile image log e (Some Unanswered) = ⊥
BreaksAs profile image log e (Some (Unwritten address)) = ⊥

-- with the entry's number
abbrev pub numbered : ℕ → Option MessageBreach → List Broken
numbered index None = []
numbered index (Some found) = record { breach = found; index = index } ∷ []

-- the breaches of a log's first entries, each behind all entries before it
abbrev pub AreBreachesOf : Profile → Option Initial → List Logged → (entries : ℕ) → List Broken → Type 0
AreBreachesOf profile image log zero breaches = breaches ≡ []
AreBreachesOf profile image log (suc n) breaches =
    (before : List Broken) × (found : Option MessageBreach) × AreBreachesOf profile image log n before
    × IfSome (slice_get log n) (λ e. BreaksAs profile image (take n log) e found) × (breaches ≡ before ++ numbered n found)

-- of all of them the first hundred, and how many they are
pub record AreTold (all listed : List Broken) (count : ℕ) : Type 0 where
  pub first : listed ≡ take 100 all
  pub number : count ≡ length all

pub record AreCounted (profile : Profile) (image : Option Initial) (log : List Logged) (b : Breaches) : Type 0 where
  pub all : List Broken
  pub breaches : AreBreachesOf profile image log (length log) all
  pub told : AreTold all b.listed.items b.count

-- the verdict that the first of them is
abbrev pub verdict_of : List Broken → MessageVerdict
verdict_of [] = message.Lawful
verdict_of (first ∷ rest) = message.Unlawful first.breach first.index
