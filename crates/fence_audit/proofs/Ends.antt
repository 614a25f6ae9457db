-- What the machine's own search found, as outcomes.
use Rattle.std.proofs.Common.{◌≡◌, ℕ, List, [], ◌∷◌, Less, All, ap, map, refl}
use Rattle.std.specs.List.{AllByRecursion}
use Rattle.std.specs.List.Sorted.{IsStrictlySortedBy}
use Rattle.std.specs.Ordering.{on}
use Rattle.std.proofs.lemmas.List.Elements.{All-map, All-weaker}
use Rattle.architecture_outcomes.specs.Ends.{outcome_of, outcomes_of}
use Rattle.architecture_outcomes.specs.ExplorerFailures.{IsRealFailure, failures_of}
use Rattle.architecture_outcomes.specs.Failings.{IsShown, failures_in, of_failure}
use Rattle.architecture_outcomes.specs.Found.{Found}
use Rattle.architecture_outcomes.specs.Outcomes.{IsMachine, end_of, ends_of, of_found}
use Rattle.elf_loader.specs.Image.{Initial}
use Rattle.exploration_text.specs.FoundFailure.{FoundFailure}
use Rattle.exploration_text.specs.Ranks.{outcome_cmp}
use Rattle.machine_types.specs.declared.config.Config.{Config}

led_by : {A : Type 0} (x : A) (xs ys : List A) → xs ≡ ys → x ∷ xs ≡ x ∷ ys
led_by {A} x xs ys e = ap (λ (zs : List A). x ∷ zs) e

pub same_ends : (fs : List Found) → outcomes_of fs ≡ ends_of (map of_found fs)
same_ends [] = refl
same_ends (f ∷ fs) = led_by (outcome_of f) (outcomes_of fs) (ends_of (map of_found fs)) (same_ends fs)

pub all_found : (fs : List Found) → All (λ o. IsMachine o.way) (map of_found fs)
all_found fs = All-map (λ o. IsMachine o.way) of_found fs (λ k d l. tt)

ranks_each : (f : Found) (gs : List Found) → AllByRecursion (λ g. outcome_cmp (outcome_of f) (outcome_of g) ≡ Less) gs → AllByRecursion (λ o. outcome_cmp (outcome_of f) (end_of o) ≡ Less) (map of_found gs)
ranks_each f [] up = tt
ranks_each f (g ∷ gs) up = (up.0, ranks_each f gs up.1)

pub strict : (fs : List Found) → IsStrictlySortedBy (on outcome_of outcome_cmp) fs → IsStrictlySortedBy (on end_of outcome_cmp) (map of_found fs)
unfolding IsStrictlySortedBy
strict [] up = tt
strict (f ∷ fs) up = (ranks_each f fs up.0, strict fs up.1)

-- ---- the harts that it stops

pub same_failures : (found : List FoundFailure) → failures_of found ≡ failures_in (map of_failure found)
same_failures [] = refl
same_failures (f ∷ fs) = ap (λ xs. f.failure ∷ xs) (same_failures fs)

pub all_scripted : (image : Initial) (config : Config) (addresses : List ℕ) (found : List FoundFailure) → All (IsRealFailure image config addresses) found → All (λ f. IsShown image config addresses (of_failure f)) found
all_scripted image config addresses found all = All-weaker (IsRealFailure image config addresses) (λ f. IsShown image config addresses (of_failure f)) (λ f real. (f, real, refl, refl)) found all
