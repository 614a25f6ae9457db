-- What the machine's own search found, as outcomes.
use Rattle.std.proofs.Common.{◌≡◌, ◌∙◌, ◌<◌, ℕ, Bool, IfOk, Result, List, [], ◌∷◌, Option, Some, All, Contains, ap, map, refl, subst, sym}
use Rattle.std.proofs.lemmas.List.{get_or-map, length-map}
use Rattle.std.proofs.lemmas.List.Elements.{All-map}
use Rattle.architecture_outcomes.specs.Outcomes.{IsWitnessed, TellsEachEnd, machine_end, of_found}
use Rattle.elf_loader.specs.Image.{Initial}
use Rattle.architecture_outcomes.specs.Found.{Found}
use Rattle.architecture_outcomes.specs.Ends.{IsRealIn, outcome_of, outcomes_of}
use Rattle.architecture_outcomes.specs.ExplorerOutcomes.{HasEachEnd}
use Rattle.flat_exploration.specs.Outcomes.{Outcome as End, machine_outcome}
use Rattle.machine_types.specs.declared.config.Config.{Config}
use Rattle.architecture_outcomes.specs.Schedules.{led}
use Rattle.litmus_command.specs.Answers.{IsSearch}
use Rattle.litmus_command.specs.declared.program.Program.{Program}
use Rattle.litmus_command.specs.declared.search.Findings.{Findings}

Contains-map : {X Y : Type 0} (f : X → Y) (xs : List X) (x : X) → Contains xs x → Contains (map f xs) (f x)
Contains-map f xs x (k, l, e) = (k, subst (λ n. k < n) (sym (length-map xs f)) l, get_or-map f xs k x (f x) l ∙ ap f e)

told_ends : (fs : List Found) → map machine_end (map of_found fs) ≡ map Some (outcomes_of fs)
told_ends [] = refl
told_ends (f ∷ fs) = ap (λ (es : List (Option End)). Some (outcome_of f) ∷ es) (told_ends fs)

module _ (image : Initial) (config : Config) (addresses : List ℕ) (fs : List Found) where
  pub all_shown : All (IsRealIn image config addresses) fs → All (IsWitnessed image config addresses) (map of_found fs)
  all_shown real = All-map (IsWitnessed image config addresses) of_found fs real

  pub all_told : HasEachEnd image config addresses (outcomes_of fs) → TellsEachEnd image config addresses (map of_found fs)
  all_told each events ended =
      let end = machine_outcome addresses (led image config events) in
      subst (λ (es : List (Option End)). Contains es (Some end)) (sym (told_ends fs)) (Contains-map Some (outcomes_of fs) end (each events ended))

-- a search is of what is wanted
pub as_wanted : {E : Type 0} (wanted machine : Bool) (p : Program) (addresses : List ℕ) (r : Result Findings E) → IfOk r (IsSearch machine p addresses) → wanted ≡ machine → IfOk r (IsSearch wanted p addresses)
as_wanted wanted machine p addresses r so is = subst (λ (m : Bool). IfOk r (IsSearch m p addresses)) (sym is) so
