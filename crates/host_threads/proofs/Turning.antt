-- A turn that was taken: what it picked was tried, and it is told what came of that.
use Rattle.std.proofs.Common.{◌≡◌, ◌∙◌, ⊎_elim, ap, inl, inr, subst, sym, ℕ, Bool, Option, Some}
use Rattle.std.specs.Prelude.{◌⊎◌}
use Rattle.std.specs.declared.result.Result.{Result}
use Rattle.elf_loader.specs.Image.{Initial}
use Rattle.hart.specs.declared.state.Hart.{Hart}
use Rattle.hart.specs.declared.status.Status.{Status}
use Rattle.host_threads.specs.Endings.{outcome_of}
use Rattle.host_threads.specs.Picking.{CameOf, IsLeftOfPick, IsStep, IsTold, IsTurn, WasAnswered, WentAlone, left_of}
use Rattle.locked_fabric.specs.ApplyError.{ApplyError}
use Rattle.machine_model.specs.Views.{State, node_at}
use Rattle.machine_types.specs.declared.event.Event.{Event}
use Rattle.machine_types.specs.declared.event.Event.TheVariants.{Step}
use Rattle.machine_types.specs.declared.outcome.Outcome.{Outcome}

-- ---- what it is told

some_of : (a b : Event) → Some a ≡ Some b → a ≡ b
some_of a b e = cc e

came_alone : (image : Initial) (hart own : ℕ) (machine : State) (event : Event) (stood : Hart) (came : Result Outcome ApplyError) → own ≡ hart → IsStep own machine (Some event) stood → WentAlone image stood came → CameOf image hart machine event came
came_alone image hart own machine event stood came mine step went =
    inr (
      some_of event (Step hart) (step.0 ∙ ap (λ (h : ℕ). Some (Step h)) mine),
      subst (λ (at : Hart). WentAlone image at came) (step.1 ∙ ap (λ (h : ℕ). (node_at machine h).hart) mine) went,
    )

-- what came of a step that went on alone, or was tried all the same
pub told_alone : (image : Initial) (hart own : ℕ) (machine : State) (event : Event) (stood : Hart) (came : Result Outcome ApplyError) (told : Option Outcome) → own ≡ hart → IsStep own machine (Some event) stood
    → WasAnswered event came ⊎ WentAlone image stood came → told ≡ outcome_of came → IsTold image hart machine (Some event) told
told_alone image hart own machine event stood came told mine step did is = (
  came,
  ⊎_elim (λ (was : WasAnswered event came). inl was) (λ (went : WentAlone image stood came). came_alone image hart own machine event stood came mine step went) did,
  is,
)

-- ---- the turn

pub turned : {T : Type 0} (Picks : T → State → Option Outcome → Option Event → T → Type 0) (image : Initial) (hart own : ℕ) (seen : Option (ℕ × Status)) (old : T) (machine : State) (last : Option Outcome) (left : Option Event) (mid new : T) (alone : Bool) (stood : Hart) (told : Option Outcome)
    → own ≡ hart → new ≡ mid → IsLeftOfPick Picks own seen old machine last left mid alone stood → IsTold image hart machine left told → IsTurn Picks image hart seen old last new told
turned Picks image hart own seen old machine last left mid new alone stood told mine same pick is = record {
  machine = machine;
  asked = pick.asked;
  picks = subst (λ turn. Picks old machine last pick.asked turn) (sym same) pick.picks;
  told_is = subst (λ (h : ℕ). IsTold image hart machine (left_of seen h pick.asked) told) mine (subst (λ (event : Option Event). IsTold image hart machine event told) pick.left_is is);
}
