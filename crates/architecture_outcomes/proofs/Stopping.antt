-- Harts that stop, those of the machine and those that the model allows beyond them: each is shown, once, and none is missing.
use Rattle.std.proofs.Common.{◌≡◌, ◌<◌, ◌≤◌, ◌⊎◌, ◌++◌, inl, inr, ℕ, Bool, true, false, List, [], ◌∷◌, Some, All, Contains, IsPermutation, IsTrue, ap, arith, length, map, refl, subst}
use Rattle.std.specs.List.{list_any}
use Rattle.std.proofs.lemmas.List.Elements.{All-cons, All-nil, All-weaker}
use Rattle.architecture_outcomes.specs.declared.failing.Failing.{Failing}
use Rattle.architecture_outcomes.specs.declared.outcome.Outcome.{Outcome}
use Rattle.architecture_outcomes.specs.Failings.{HasEachFailure, HasSought, IsDecidedStop, IsShown, TellsEachStop, failures_in, machine_stop, of_failure, of_run}
use Rattle.architecture_outcomes.specs.Outcomes.{TellEach, ends_of}
use Rattle.architecture_outcomes.proofs.Each.{machine_there, model_there}
use Rattle.architecture_outcomes.proofs.Together.{Contains-map}
use Rattle.elf_loader.specs.Image.{Initial}
use Rattle.exploration_text.specs.ExplorerFailures.{IsRealFailure, failures_of as failures_found}
use Rattle.exploration_text.specs.FoundFailure.{FoundFailure}
use Rattle.machine_types.specs.declared.config.Config.{Config}
use Rattle.performed_words.specs.Outcomes.{Outcome as End}
use Rattle.window_search.specs.Failure.{Failure}
use Rattle.window_search.specs.Stops.{IsFailedRun, TellsFirst, failures_of, is_same_failure}
use Rattle.window_search.specs.Told.{endings_of}
use Rattle.window_search.specs.declared.failing.FailedRun.{FailedRun}
use Rattle.window_search.proofs.StopsOnce.{not_there}
use Rattle.witnesses.specs.declared.witness.Witness.{Witness}
use Rattle.witnesses.specs.Witnesses.{IsWitness}

abbrev pub failing_failure : Failing → Failure
failing_failure f = f.failure

-- ---- those of the machine

pub same_failures : (found : List FoundFailure) → failures_found found ≡ failures_in (map of_failure found)
same_failures [] = refl
same_failures (f ∷ fs) = ap (λ xs. f.failure ∷ xs) (same_failures fs)

same_stops : (found : List FoundFailure) → map Some (failures_found found) ≡ map machine_stop (map of_failure found)
same_stops [] = refl
same_stops (f ∷ fs) = ap (λ xs. Some f.failure ∷ xs) (same_stops fs)

pub all_scripted : (image : Initial) (config : Config) (addresses : List ℕ) (found : List FoundFailure) → All (IsRealFailure image config addresses) found → All (λ f. IsShown image config addresses (of_failure f)) found
all_scripted image config addresses found all = All-weaker (IsRealFailure image config addresses) (λ f. IsShown image config addresses (of_failure f)) (λ f real. (f, real, refl, refl)) found all

pub all_decided_found : (found : List FoundFailure) → All IsDecidedStop (map of_failure found)
all_decided_found [] = All-nil IsDecidedStop
all_decided_found (f ∷ fs) = All-cons IsDecidedStop (of_failure f) (map of_failure fs) tt (all_decided_found fs)

pub each_stop_told : (image : Initial) (config : Config) (found : List FoundFailure) → HasEachFailure image config (failures_found found) → TellsEachStop image config (map of_failure found)
each_stop_told image config found each events x stopped = subst (λ os. Contains os (Some x)) (same_stops found) (Contains-map Some (failures_found found) x (each events x stopped))

pub some_of : (found : List FoundFailure) → 0 < length found → 0 < length (map of_failure found)
some_of [] some = absurd (omega (arith, some))
some_of (f ∷ fs) some = omega arith

-- ---- one beyond them

pub shown_beyond : (image : Initial) (config : Config) (addresses : List ℕ) (failings : List Failing) (run : FailedRun) (is_complete : Bool) → list_any (λ (f : Failing). is_same_failure f.failure run.failure) failings ≡ false → IsFailedRun image config run
    → (IsTrue is_complete → HasEachFailure image config (failures_in failings)) → IsShown image config addresses (of_run is_complete run)
shown_beyond image config addresses failings run true none failed each = (failed, λ events stopped. not_there failing_failure failings run.failure none (each refl events run.failure stopped))
shown_beyond image config addresses failings run false none failed each = failed

pub decided_beyond : (is_complete : Bool) (run : FailedRun) → IsTrue is_complete → IsDecidedStop (of_run is_complete run)
decided_beyond true run complete = tt
decided_beyond false run complete = cc complete

-- ---- what is sought

-- some runs are told of
pub some_in : (runs : List FailedRun) (failings : List Failing) → ((x : Failure) → Contains (failures_of runs) x → Contains (failures_in failings) x) → 0 < length runs → 0 < length failings
some_in [] failings kept some = absurd (omega (arith, some))
some_in (run ∷ runs) [] kept some = absurd (none_of run.failure (kept run.failure (0, omega arith, refl)))
  where
    none_of : (x : Failure) → Contains [] x → ⊥
    none_of x (place, within, at) = omega (arith, within)
some_in (run ∷ runs) (f ∷ fs) kept some = omega arith

-- what is sought of the machine is told
pub machine_sought : (Stops OtherStops : Type 0) (IsSought Other : End → Type 0) (stopped failings : List Failing) (found beyond joined sorted : List Outcome) → joined ≡ beyond ++ found → IsPermutation joined sorted → length stopped ≤ length failings
    → HasSought Stops IsSought stopped (ends_of found) → HasSought (Stops ⊎ OtherStops) (λ end. IsSought end ⊎ Other end) failings (ends_of sorted)
machine_sought Stops OtherStops IsSought Other stopped failings found beyond joined sorted joined_is moved more (inl (seeks, some)) = inl (inl seeks, omega (arith, some, more))
machine_sought Stops OtherStops IsSought Other stopped failings found beyond joined sorted joined_is moved more (inr there) = inr (machine_there IsSought Other found beyond joined sorted joined_is moved there)

-- and so is what is sought of the model
pub model_sought : (Stops OtherStops : Type 0) (IsSought Other : End → Type 0) (image : Initial) (config : Config) (addresses : List ℕ) (witnesses : List Witness) (runs : List FailedRun) (failings : List Failing) (found beyond joined sorted : List Outcome) → joined ≡ beyond ++ found
    → IsPermutation joined sorted → ((x : Failure) → Contains (failures_of runs) x → Contains (failures_in failings) x) → TellEach (endings_of addresses witnesses) found beyond → All (IsWitness image config) witnesses
    → TellsFirst OtherStops Other addresses witnesses runs → HasSought (Stops ⊎ OtherStops) (λ end. IsSought end ⊎ Other end) failings (ends_of sorted)
model_sought Stops OtherStops IsSought Other image config addresses witnesses runs failings found beyond joined sorted joined_is moved kept told are (inl (seeks, some)) = inl (inr seeks, some_in runs failings kept some)
model_sought Stops OtherStops IsSought Other image config addresses witnesses runs failings found beyond joined sorted joined_is moved kept told are (inr there) =
    inr (model_there IsSought Other image config addresses witnesses found beyond joined sorted joined_is moved told are there)
