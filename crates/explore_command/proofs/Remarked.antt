-- What is told of traces, line after line.
use Rattle.std.proofs.Common.{◌≡◌, ◌∙◌, ◌+◌, ◌-◌, ◌<◌, ◌≤◌, ◌∷◌, ◌++◌, ℕ, [], List, None, OnOk, Option, Result, Some, ap, arith, drop, get_or, length, refl, subst, sym, take}
use Rattle.std.proofs.lemmas.List.{append-nil, append_assoc}
use Rattle.std.specs.Prelude.{codes, decimal}
use Rattle.explore_command.specs.Telling.{AreReasons, AreRemarked, AreRemarks, GrowsBy, IsRemark, TellsWay, TellsWays}
use Rattle.architecture_outcomes.specs.declared.outcome.Outcome.{Outcome}
use Rattle.explore_command.proofs.Refused.{behind_first, nothing}
use Rattle.architecture_outcomes.specs.declared.outcome.Way.{Way}
use Rattle.architecture_outcomes.specs.declared.outcome.Way.TheVariants.{Machine, Model, ModelAlone}
use Rattle.command_files.specs.Faults.{Name}
use Rattle.notes.specs.Overtaking.{overtakings}
use Rattle.notes.specs.declared.overtaking.Overtaking.{Overtaking}
use Rattle.search_files.proofs.Words.{first_is}

none_of : {A : Type 0} (xs : List A) → length xs < 1 → xs ≡ []
none_of [] few = refl
none_of (x ∷ xs) few = absurd (omega (arith, few))

pub first_of : {A : Type 0} (xs : List A) (x default : A) → 1 ≤ length xs → x ≡ get_or xs 0 default → xs ≡ x ∷ take (length xs - 1) (drop 1 xs)
first_of xs x default some is = first_is xs default some ∙ ap (λ y. y ∷ take (length xs - 1) (drop 1 xs)) (sym is)

-- ---- of a trace

-- behind these lines those of the pairs that are left make all of them
pub record HasTold (number : ℕ) (old lines : List ℕ) (left all : List Overtaking) : Type 0 where
  pub done : List ℕ
  pub grown : lines ≡ old ++ done
  pub whole : (more : List ℕ) → AreRemarks number left more → AreRemarks number all (done ++ more)

pub none_told : (number : ℕ) (old : List ℕ) (left all : List Overtaking) → left ≡ all → HasTold number old old left all
none_told number old left all same = record { done = []; grown = sym (append-nil old); whole = λ more so. subst (λ (pairs : List Overtaking). AreRemarks number pairs more) same so }

pub one_told : (number : ℕ) (old lines new : List ℕ) (left all : List Overtaking) → 1 ≤ length left → HasTold number old lines left all → GrowsBy lines new (IsRemark number) → HasTold number old new (take (length left - 1) (drop 1 left)) all
one_told number old lines new [] all some told (line, grown, is) = absurd (omega (arith, some))
one_told number old lines new (pair ∷ rest) all some told (line, grown, is) = subst (λ (pairs : List Overtaking). HasTold number old new pairs all) (sym (behind_first pair rest)) (record {
  done = told.done ++ line;
  grown = grown ∙ (ap (λ (xs : List ℕ). xs ++ line) told.grown ∙ append_assoc old told.done line);
  whole = λ more so. subst (AreRemarks number all) (sym (append_assoc told.done line more)) (told.whole (line ++ more) (line, more, refl, is, so));
})

pub all_told : (number : ℕ) (old lines : List ℕ) (left all : List Overtaking) → length left < 1 → HasTold number old lines left all → GrowsBy old lines (AreRemarks number all)
all_told number old lines left all few told =
    (told.done, told.grown, subst (AreRemarks number all) (append-nil told.done) (told.whole [] (subst (λ (pairs : List Overtaking). AreRemarks number pairs []) (sym (none_of left few)) refl)))

-- where there are none, one line tells so
pub none_reasoned : {T E : Type 0} (r : Result T E) (number : ℕ) (old new : List ℕ) (pairs all : List Overtaking) → pairs ≡ all → length pairs ≡ 0 → OnOk r (GrowsBy old new (IsRemark number)) → OnOk r (GrowsBy old new (AreReasons number all))
none_reasoned {T} {E} r number old new pairs all same none told =
    subst (λ (ps : List Overtaking). OnOk r (GrowsBy old new (AreReasons number ps))) (sym (none_of pairs (omega (arith, none))) ∙ same) told

pub some_reasoned : {T E : Type 0} (r : Result T E) (number : ℕ) (old new : List ℕ) (pairs all : List Overtaking) → pairs ≡ all → 0 < length pairs → OnOk r (GrowsBy old new (AreRemarks number pairs)) → OnOk r (GrowsBy old new (AreReasons number all))
some_reasoned r number old new [] all same some told = absurd (omega (arith, some))
some_reasoned r number old new (pair ∷ rest) all same some told =
    subst (λ (ps : List Overtaking). OnOk r (GrowsBy old new (AreReasons number ps))) same told

-- ---- of all outcomes

pub record HasToldWays (number : ℕ) (lines : List ℕ) (left all : List Outcome) : Type 0 where
  pub whole : (more : List ℕ) → TellsWays number left more → TellsWays 1 all (lines ++ more)

pub no_way_told : (lines : List ℕ) (all : List Outcome) → lines ≡ [] → HasToldWays 1 lines all all
no_way_told lines all none = record { whole = λ more so. subst (λ (xs : List ℕ). TellsWays 1 all (xs ++ more)) (sym none) so }

pub one_way_told : (number : ℕ) (lines new : List ℕ) (left tail all : List Outcome) (o : Outcome) → left ≡ o ∷ tail → HasToldWays number lines left all → GrowsBy lines new (TellsWay number o.way) → HasToldWays (number + 1) new tail all
one_way_told number lines new left tail all o first told (here, grown, is) = record {
  whole = λ more so. subst (TellsWays 1 all) (sym (append_assoc lines here more) ∙ ap (λ (xs : List ℕ). xs ++ more) (sym grown))
      (told.whole (here ++ more) (subst (λ (os : List Outcome). TellsWays number os (here ++ more)) (sym first) (here, more, refl, is, so)));
}

pub all_ways_told : (number : ℕ) (lines : List ℕ) (left all : List Outcome) → length left < 1 → HasToldWays number lines left all → TellsWays 1 all lines
all_ways_told number lines left all few told =
    subst (TellsWays 1 all) (append-nil lines) (told.whole [] (subst (λ (os : List Outcome). TellsWays number os []) (sym (none_of left few)) refl))

-- ---- of none

some_remarks : (number : ℕ) (pairs : List Overtaking) → (text : List ℕ) × AreRemarks number pairs text
some_remarks number [] = ([], refl)
some_remarks number (pair ∷ rest) =
    let more = some_remarks number rest in
    let line : List ℕ = codes "outcome " ++ (decimal number ++ (codes ": " ++ ([] ++ codes "\n"))) in
    (line ++ more.0, (line, more.0, refl, ([], refl), more.1))

some_reasons : (number : ℕ) (pairs : List Overtaking) → (text : List ℕ) × AreReasons number pairs text
some_reasons number [] = (codes "outcome " ++ (decimal number ++ (codes ": " ++ ([] ++ codes "\n"))), ([], refl))
some_reasons number (pair ∷ rest) = some_remarks number (pair ∷ rest)

some_of_way : (number : ℕ) (way : Way) → (text : List ℕ) × TellsWay number way text
some_of_way number (Machine script) = ([], refl)
some_of_way number (ModelAlone trace) = some_reasons number (overtakings trace.history)
some_of_way number (Model trace) = ([], refl)

some_of_ways : (number : ℕ) (outcomes : List Outcome) → (text : List ℕ) × TellsWays number outcomes text
some_of_ways number [] = ([], refl)
some_of_ways number (o ∷ rest) =
    let here = some_of_way number o.way in
    let more = some_of_ways (number + 1) rest in
    (here.0 ++ more.0, (here.0, more.0, refl, here.1, more.1))

-- where nothing went out, that is a beginning of what there is to tell
pub untold : (scripts : Option Name) (outcomes : List Outcome) (before after : Option (List ℕ)) → after ≡ before → AreRemarked scripts outcomes before after
untold None outcomes before after same = same
untold (Some folder) outcomes before after same = let all = some_of_ways 1 outcomes in (all.0, all.1, nothing before after all.0 same)
