-- Both parts of a log, entry by entry.
use Rattle.std.proofs.Common.{ℕ, suc, ◌+◌, ◌<◌, ◌≤◌, List, [], ◌∷◌, ◌++◌, ◌≡◌, ◌∙◌, Option, Some, None, arith, get_or, length, refl, subst, sym, take, Bool, true, false, Ok, Err, ap, ltb}
use Rattle.std.specs.Prelude.{IfOk, Result, slice_get}
use Rattle.std.specs.Option.{option_or}
use Rattle.std.proofs.lemmas.Bool.{ltb-true}
use Rattle.std.proofs.lemmas.List.{take_all, take_more}
use Rattle.std.proofs.lemmas.Option.{slice_get-get_or, slice_get_within}
use Rattle.message_judge.specs.Breaches.{AreTold, BreaksAs, numbered}
use Rattle.message_judge.specs.Following.{Judges}
use Rattle.message_judge.specs.Laws.{IsMessageVerdict}
use Rattle.message_judge.specs.Profile.{Profile}
use Rattle.message_judge.specs.declared.breaches.Broken.{Broken}
use Rattle.message_judge.specs.declared.following.Judge.{Judge}
use Rattle.message_judge.specs.declared.verdict.MessageBreach.{MessageBreach}
use Rattle.message_judge.specs.declared.verdict.MessageVerdict.{MessageVerdict}
use Rattle.parted_judge.specs.Parts.{ArePartBreachesOf, BreaksAt, BreaksBy, IsEarlierVerdict, IsPartsVerdict, IsToldAtEnd, earlier}
use Rattle.trace_recorder.specs.declared.logged.Logged.{Logged}

-- what stands at the index is the next entry
pub next_is : (log : List Logged) (i : ℕ) (e : Logged) → slice_get log i ≡ Some e → take (i + 1) log ≡ take i log ++ e ∷ []
next_is log i e stands =
    let within : i < length log = slice_get_within log i e stands in
    let same : get_or log i e ≡ e = some_same (get_or log i e) e (sym (slice_get-get_or log i e within) ∙ stands) in
    subst (λ (x : Logged). take (i + 1) log ≡ take i log ++ x ∷ []) same (take_more log i e within)
  where
    some_same : (x y : Logged) → ◌≡◌ {A = Option Logged} (Some x) (Some y) → x ≡ y
    some_same x y is = cc

-- one entry further, if there is one
pub one_further : (profile : Profile) (log : List Logged) (i : ℕ) (e : Logged) (found : Option MessageBreach) (new : Judge) → slice_get log i ≡ Some e
    → BreaksAs profile None (take i log) e found × Judges new (take i log ++ e ∷ []) → BreaksAt profile log i found × Judges new (take (i + 1) log)
one_further profile log i e found new stands (breaks, judges) = (
  subst (λ (o : Option Logged). BreaksBy (BreaksAs profile None (take i log)) o found) (sym stands) breaks,
  subst (Judges new) (sym (next_is log i e stands)) judges,
)

pub none_further : (profile : Profile) (log : List Logged) (i : ℕ) (judge : Judge) → slice_get log i ≡ None → length log ≤ i
    → Judges judge (take i log) → BreaksAt profile log i None × Judges judge (take (i + 1) log)
none_further profile log i judge none past judges = (
  subst (λ (o : Option Logged). BreaksBy (BreaksAs profile None (take i log)) o None) (sym none) refl,
  subst (Judges judge) (take_all i log past ∙ sym (take_all (i + 1) log (omega (arith, past)))) judges,
)

-- what the next entry breaks is listed
pub listed_further : (profile : Profile) (first second : List Logged) (i : ℕ) (before after : List Broken) (one two : Option MessageBreach)
    → ArePartBreachesOf profile first second i before → BreaksAt profile first i one → BreaksAt profile second i two → after ≡ before ++ numbered i (option_or one two)
    → ArePartBreachesOf profile first second (i + 1) after
listed_further profile first second i before after one two are breaks other is =
    let next : suc i ≡ i + 1 = omega arith in
    subst (λ n. ArePartBreachesOf profile first second n after) next (before, one, two, are, breaks, other, is)

-- all are counted, and the first of them listed
pub all_told : (all listed : List Broken) (count : ℕ) → count ≡ length all → listed ≡ take 100 all → AreTold all listed count
all_told all listed count number first = record { first = first; number = number }

-- what was looked up stands there
pub got : (log : List Logged) (i : ℕ) (e : Logged) → true ≡ ltb i (length log) → e ≡ get_or log i e → slice_get log i ≡ Some e
got log i e within is = slice_get-get_or log i e (ltb-true i (length log) (sym within)) ∙ ap (λ (x : Logged). Some x) (sym is)

-- so of what a judge answers of the next entry
pub next_told : {E : Type 0} → (profile : Profile) (log : List Logged) (i : ℕ) (e : Logged) (old new : Judge) (r : Result (Option MessageBreach) E) → slice_get log i ≡ Some e
    → IfOk r (λ found. (before : List Logged) → Judges old before → BreaksAs profile None before e found × Judges new (before ++ e ∷ []))
    → IfOk r (λ found. Judges old (take i log) → BreaksAt profile log i found × Judges new (take (i + 1) log))
next_told profile log i e old new (Ok found) stands told = λ judges. one_further profile log i e found new stands (told (take i log) judges)
next_told profile log i e old new (Err error) stands told = tt

-- ---- the verdict on both

module _ (profile : Profile) (first second : List Logged) (one two told : MessageVerdict) (of_first : IsMessageVerdict profile None first one) (of_second : IsMessageVerdict profile None second two) (earliest : told ≡ earlier one two) where
  by_both : IsEarlierVerdict profile first second told
  by_both = record { one = one; two = two; first_judged = of_first; second_judged = of_second; told = earliest }

  pub going_on : (ended : Bool) → ended ≡ false → IsPartsVerdict ended profile first second told
  going_on true is = absurd cc
  going_on false is = by_both

  pub at_end : {E : Type 0} → (ended : Bool) (r : Result MessageVerdict E) → ended ≡ true → IfOk r (IsToldAtEnd profile first told) → IfOk r (IsPartsVerdict ended profile first second)
  at_end true (Ok v) is so = (told, by_both, so)
  at_end true (Err error) is so = tt
  at_end false r is so = absurd cc
