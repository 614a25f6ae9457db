-- What the machine's outcomes and those beyond them are together.
use Rattle.std.proofs.Common.{◌≡◌, ◌∙◌, ◌<◌, ℕ, List, [], ◌∷◌, ◌++◌, Option, Some, All, Contains, IsPermutation, ap, ap₂, map, refl, subst, sym}
use Rattle.std.specs.List.{AllByRecursion}
use Rattle.std.proofs.lemmas.List.{get_or-map, length-map, map-append}
use Rattle.std.proofs.lemmas.List.Elements.{All-append, All-weaker, Contains-append_right, recursion_from_All}
use Rattle.std.proofs.lemmas.List.Sorted.{All-permutation, Contains-permutation, IsPermutation-map}
use Rattle.architecture_outcomes.specs.declared.outcome.Outcome.{Outcome}
use Rattle.architecture_outcomes.specs.declared.outcome.Way.{Way}
use Rattle.architecture_outcomes.specs.declared.outcome.Way.TheVariants.{Machine, Model, ModelAlone}
use Rattle.architecture_outcomes.specs.Outcomes.{IsDecided, IsMachine, IsWitnessed, TellsEachEnd, end_by, end_of, ends_of, machine_end}
use Rattle.architecture_outcomes.specs.Visited.{TellsEnd}
use Rattle.elf_loader.specs.Image.{Initial}
use Rattle.exploration_text.specs.Outcomes.{HasEachEnd}
use Rattle.performed_words.specs.Outcomes.{Outcome as End, machine_outcome}
use Rattle.machine_types.specs.declared.config.Config.{Config}
use Rattle.exploration_text.specs.Schedules.{led}

pub Contains-map : {X Y : Type 0} (f : X → Y) (xs : List X) (x : X) → Contains xs x → Contains (map f xs) (f x)
Contains-map f xs x (k, l, e) = (k, subst (λ n. k < n) (sym (length-map xs f)) l, get_or-map f xs k x (f x) l ∙ ap f e)

end_is : (o : End) (way : Way) → IsMachine way → end_by o way ≡ Some o
end_is o (Machine script) is = refl
end_is o (ModelAlone trace) is = absurd is
end_is o (Model trace) is = absurd is

decided : (way : Way) → IsMachine way → IsDecided way
decided (Machine script) is = tt
decided (ModelAlone trace) is = absurd is
decided (Model trace) is = absurd is

told_ends : (found : List Outcome) → AllByRecursion (λ o. IsMachine o.way) found → map machine_end found ≡ map Some (ends_of found)
told_ends [] all = refl
told_ends (o ∷ os) all = ap₂ (λ (e : Option End) (es : List (Option End)). e ∷ es) (end_is (end_of o) o.way all.0) (told_ends os all.1)

module _ (image : Initial) (config : Config) (addresses : List ℕ) (beyond joined sorted found : List Outcome) (joined_is : joined ≡ beyond ++ found) (moved : IsPermutation joined sorted) where
  both : (P : Outcome → Type 0) → All P beyond → All P found → All P sorted
  both P first second = All-permutation P joined sorted moved (subst (All P) (sym joined_is) (All-append P beyond found first second))

  pub all_shown : All (IsWitnessed image config addresses) beyond → All (IsWitnessed image config addresses) found → All (IsWitnessed image config addresses) sorted
  all_shown = both (IsWitnessed image config addresses)

  pub all_decided : All (λ o. IsDecided o.way) beyond → All (λ o. IsMachine o.way) found → All (λ o. IsDecided o.way) sorted
  all_decided first second = both (λ o. IsDecided o.way) first (All-weaker (λ o. IsMachine o.way) (λ o. IsDecided o.way) (λ o is. decided o.way is) found second)

  -- all that was found is told as the machine's, whatever stands before it
  told_found : All (λ o. IsMachine o.way) found → (o : End) → Contains (ends_of found) o → Contains (map machine_end (beyond ++ found)) (Some o)
  told_found machine o has =
      subst (λ (os : List (Option End)). Contains os (Some o)) (sym (map-append machine_end beyond found))
      (Contains-append_right (map machine_end beyond) (map machine_end found) (Some o)
      (subst (λ (os : List (Option End)). Contains os (Some o)) (sym (told_ends found (recursion_from_All (λ o. IsMachine o.way) found machine))) (Contains-map Some (ends_of found) o has)))

  pub end_told : All (λ o. IsMachine o.way) found → (end : End) → Contains (ends_of found) end → TellsEnd sorted end
  end_told machine end has =
      Contains-permutation (map machine_end joined) (map machine_end sorted) (Some end) (IsPermutation-map machine_end joined sorted moved)
      (subst (λ (os : List Outcome). Contains (map machine_end os) (Some end)) (sym joined_is) (told_found machine end has))

  pub each_told : All (λ o. IsMachine o.way) found → HasEachEnd image config addresses (ends_of found) → TellsEachEnd image config addresses sorted
  each_told machine each events ended = end_told machine (machine_outcome addresses (led image config events)) (each events ended)
