-- What the machine's own search found, as outcomes.
use Rattle.std.proofs.Common.{◌≡◌, List, [], ◌∷◌, Less, All, ap, map, refl}
use Rattle.std.specs.List.{AllByRecursion}
use Rattle.std.specs.List.Sorted.{IsStrictlySortedBy}
use Rattle.std.specs.Ordering.{on}
use Rattle.std.proofs.lemmas.List.Elements.{All-map}
use Rattle.architecture_outcomes.specs.Outcomes.{IsMachine, end_of, ends_of, of_found}
use Rattle.exploration_text.specs.Found.{Found}
use Rattle.exploration_text.specs.Ends.{outcome_of, outcomes_of}
use Rattle.exploration_text.specs.Ranks.{outcome_cmp}
use Rattle.performed_words.specs.Outcomes.{Outcome as End}

pub same_ends : (fs : List Found) → outcomes_of fs ≡ ends_of (map of_found fs)
same_ends [] = refl
same_ends (f ∷ fs) = ap (λ (es : List End). outcome_of f ∷ es) (same_ends fs)

pub all_found : (fs : List Found) → All (λ o. IsMachine o.way) (map of_found fs)
all_found fs = All-map (λ o. IsMachine o.way) of_found fs (λ k d l. tt)

ranks_each : (f : Found) (gs : List Found) → AllByRecursion (λ g. outcome_cmp (outcome_of f) (outcome_of g) ≡ Less) gs → AllByRecursion (λ o. outcome_cmp (outcome_of f) (end_of o) ≡ Less) (map of_found gs)
ranks_each f [] up = tt
ranks_each f (g ∷ gs) up = (up.0, ranks_each f gs up.1)

pub strict : (fs : List Found) → IsStrictlySortedBy (on outcome_of outcome_cmp) fs → IsStrictlySortedBy (on end_of outcome_cmp) (map of_found fs)
unfolding IsStrictlySortedBy
strict [] up = tt
strict (f ∷ fs) up = (ranks_each f fs up.0, strict fs up.1)
