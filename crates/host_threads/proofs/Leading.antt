-- Where a journal leads, and that no event of it is refused where each changed the machine.
use Rattle.std.proofs.Common.{◌≡◌, ◌∙◌, refl, sym, subst, ℕ, ◌+◌, List, [], ◌∷◌}
use Rattle.locked_fabric.specs.Machine.{IsReached, KeepsHeadline, Replayed, replayed_from, unless_refused}
use Rattle.elf_loader.specs.Image.{Initial, IsImage}
use Rattle.locked_fabric.specs.FabricState.{AreMoves, FabricState, IsReplay, reset_of}
use Rattle.machine_types.specs.declared.config.Config.{Config}
use Rattle.machine_types.specs.declared.event.Event.{Event}
use Rattle.machine_types.specs.declared.outcome.Outcome.{Outcome}
use Rattle.machine_model.specs.Events.{Verdict, after_events, happens, verdict}
use Rattle.machine_model.specs.Events.Verdict.{Moves}
use Rattle.machine_model.specs.Laws.{IsHeadline}
use Rattle.machine_model.specs.Views.{State, opening}

-- a machine of this image and configuration is where its journal leads from their reset
pub leads_to : (image : Initial) (config : Config) (held : FabricState) (journal : List Event) (machine : State)
    → held.machine.trace.image ≡ image → held.machine.views.config ≡ config → IsReplay held → journal ≡ held.journal → machine ≡ held.machine
    → after_events (opening image config) journal ≡ machine
leads_to image config held journal machine of_image of_config replay of_journal of_machine =
    (λ i. after_events (opening (sym of_image i) (sym of_config i)) (of_journal i)) ∙ replay ∙ sym of_machine

-- a list of events leads to it, where image and configuration are still those at reset
pub reached_at : (image : Initial) (config : Config) (events : List Event) → (after_events (opening image config) events).trace.image ≡ image
    → (after_events (opening image config) events).views.config ≡ config → IsImage image → IsReached (after_events (opening image config) events)
reached_at image config events image_is config_is loaded = record {
  events = events;
  loaded = subst (λ (i : Initial). IsImage i) (sym image_is) loaded;
  leads =
      subst (λ (k : Config). after_events (opening s.trace.image k) events ≡ s) (sym config_is)
      (subst (λ (i : Initial). after_events (opening i config) events ≡ s) (sym image_is) refl);
}
  where
    s : State
    s = after_events (opening image config) events

-- the headline of a machine of this image and configuration
pub headline_at : (image : Initial) (config : Config) (s t : State) → s.trace.image ≡ image → s.views.config ≡ config → s ≡ t → KeepsHeadline s → IsHeadline image config t
headline_at image config s t of_image of_config same keeps =
    subst (λ (u : State). IsHeadline image config u) same
    (subst (λ (k : Config). IsHeadline image k s) of_config (subst (λ (i : Initial). IsHeadline i s.views.config s) of_image keeps))

-- ---- no event that changes the machine is refused

goes_on : (i : ℕ) (next : Replayed) (v : Verdict) (o : Outcome) (new : State) → v ≡ Moves o new → unless_refused v i next ≡ next
goes_on i next v o new is = subst (λ (w : Verdict). unless_refused w i next ≡ next) (sym is) refl

pub none_refused : (i : ℕ) (s : State) (events : List Event) → AreMoves s events → replayed_from i s events ≡ Replayed.Reached (after_events s events)
none_refused i s [] all = refl
none_refused i s (e ∷ events) all = goes_on i (replayed_from (i + 1) (happens s e) events) (verdict s e) all.0.0 all.0.1 all.0.2 ∙ none_refused (i + 1) (happens s e) events all.1

-- the journal of a machine of this image and configuration
pub moves_from : (image : Initial) (config : Config) (held : FabricState) (journal : List Event) → held.machine.trace.image ≡ image → held.machine.views.config ≡ config → AreMoves (reset_of held) held.journal → journal ≡ held.journal
    → AreMoves (opening image config) journal
moves_from image config held journal of_image of_config moves of_journal =
    subst (λ (events : List Event). AreMoves (opening image config) events) (sym of_journal)
    (subst (λ (k : Config). AreMoves (opening image k) held.journal) of_config (subst (λ (i : Initial). AreMoves (opening i held.machine.views.config) held.journal) of_image moves))
