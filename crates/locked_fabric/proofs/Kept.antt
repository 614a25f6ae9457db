-- What each fabric keeps stays kept, whether its machine stays or moves by an event.
use Rattle.std.proofs.Common.{◌≡◌, ◌∙◌, refl, sym, ap, subst, ℕ, ◌+◌, List, [], ◌∷◌, ◌++◌}
use Rattle.std.proofs.lemmas.List.{length-append}
use Rattle.machine_types.specs.declared.event.Event.{Event}
use Rattle.machine_types.specs.declared.outcome.Outcome.{Outcome}
use Rattle.machine_model.specs.Events.{Verdict, verdict, after_events, happens, state_by}
use Rattle.machine_model.specs.Events.Verdict.{Moves}
use Rattle.machine_model.specs.LawfulLog.{IsLawfulLog}
use Rattle.machine_model.specs.Laws.{ChangesAreCounted, KeepsImageAndConfig}
use Rattle.machine_model.specs.Views.{State, opening}
use Rattle.coherent_machine.specs.Machine.{KeepsHeadline}
use Rattle.locked_fabric.specs.FabricState.{AreMoves, FabricState, IsKept, IsMove, IsReplay, journalled, reset_of}

-- an event behind a list of events happens where the list leads
one_more : (s : State) (events : List Event) (e : Event) → after_events s (events ++ e ∷ []) ≡ happens (after_events s events) e
one_more s [] e = refl
one_more s (x ∷ events) e = one_more (happens s x) events e

-- two machines of one image and one configuration open alike
opens_alike : (old new : State) → KeepsImageAndConfig old new → opening new.trace.image new.views.config ≡ opening old.trace.image old.views.config
opens_alike old new stays = λ i. opening (stays.image i) (stays.config i)

replays_more : (held : FabricState) (e : Event) (o : Outcome) (new : State) → verdict held.machine e ≡ Moves o new → KeepsImageAndConfig held.machine new → IsReplay held → IsReplay (journalled held e new)
replays_more held e o new is stays was =
    ap (λ (s : State). after_events s (held.journal ++ e ∷ [])) (opens_alike held.machine new stays)
    ∙ one_more (opening held.machine.trace.image held.machine.views.config) held.journal e
    ∙ ap (λ (s : State). happens s e) was
    ∙ ap (λ (v : Verdict). state_by held.machine v) is

-- an event that changes the machine to which a list leads makes one list of changes with it
move_more : (s : State) (events : List Event) (e : Event) → AreMoves s events → IsMove (after_events s events) e → AreMoves s (events ++ e ∷ [])
move_more s [] e all one = (one, tt)
move_more s (x ∷ events) e all one = (all.0, move_more (happens s x) events e all.1 one)

moves_more : (held : FabricState) (e : Event) (o : Outcome) (new : State) → verdict held.machine e ≡ Moves o new → KeepsImageAndConfig held.machine new → IsReplay held → AreMoves (reset_of held) held.journal
    → AreMoves (reset_of (journalled held e new)) (held.journal ++ e ∷ [])
moves_more held e o new is stays was all =
    subst (λ (s : State). AreMoves s (held.journal ++ e ∷ [])) (sym (opens_alike held.machine new stays))
    (move_more (reset_of held) held.journal e all (subst (λ (s : State). IsMove s e) (sym was) (o, new, is)))

pub kept_moved : ChangesAreCounted → (held : FabricState) (e : Event) (o : Outcome) (new : State) → verdict held.machine e ≡ Moves o new → KeepsImageAndConfig held.machine new → KeepsHeadline new → IsLawfulLog new.trace.log → IsKept held → IsKept (journalled held e new)
kept_moved law held e o new is stays headline log kept = record {
  replay = replays_more held e o new is stays kept.replay;
  moves = moves_more held e o new is stays kept.replay kept.moves;
  book = ap (λ (n : ℕ). n + 1) kept.book ∙ sym (length-append held.journal (e ∷ []));
  changes = law held.machine e o new is ∙ ap (λ (n : ℕ). n + 1) kept.changes;
  headline = headline;
  log = log;
}

pub kept_still : (held : FabricState) (new : State) → new ≡ held.machine → IsKept held → IsKept (record held { machine = new })
kept_still held new is kept = subst (λ (s : State). IsKept (record held { machine = s })) (sym is) kept
