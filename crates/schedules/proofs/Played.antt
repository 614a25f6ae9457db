-- A machine with the events that changed it stays where they lead.
use Rattle.std.proofs.Common.{◌≡◌, ◌≢◌, ◌∙◌, refl, sym, ap, subst, ℕ, ◌+◌, List, [], ◌∷◌, ◌++◌, Option, Ok, Err, inl, inr, arith, Result as Answer}
use Rattle.std.specs.Prelude.{IfOk}
use Rattle.std.specs.declared.alloc.AllocError.{AllocError}
use Rattle.elf_loader.specs.Image.{Initial}
use Rattle.coherent_machine.specs.Machine.{Replayed, replayed_from, unless_refused}
use Rattle.coherent_machine.specs.Moves.{AreMoves, IsMove}
use Rattle.machine_types.specs.declared.config.Config.{Config}
use Rattle.machine_types.specs.declared.event.Event.{Event}
use Rattle.machine_types.specs.declared.outcome.Outcome.{Outcome}
use Rattle.machine_model.specs.Events.{Verdict, after_events, happens, state_by, verdict}
use Rattle.machine_model.specs.Events.Verdict.{IsBad, Keeps, IsLimited, Moves}
use Rattle.machine_model.specs.Laws.{ChangesAreCounted, KeepsImageAndConfig}
use Rattle.machine_model.specs.Views.{State, opening}
use Rattle.coherent_machine.specs.Applying.{Answers}
use Rattle.schedules.specs.declared.errors.Fault.{Fault}
use Rattle.schedules.specs.declared.schedule.Schedule.{Schedule}
use Rattle.schedules.specs.Schedules.{AnswersAs, IsPlayed, LeadsThere}

-- where the number of changes stays, the machine does
pub still : ChangesAreCounted → (old : State) (e : Event) (new : State) → new ≡ happens old e → new.views.changes ≡ old.views.changes → new ≡ old
still law old e new is same = is ∙ by_verdict (verdict old e) refl
  where
    by_verdict : (v : Verdict) → verdict old e ≡ v → state_by old v ≡ old
    by_verdict IsBad v = refl
    by_verdict (Keeps o) v = refl
    by_verdict IsLimited v = refl
    by_verdict (Moves o moved) v =
        absurd (let more = law old e o moved v in let changes = ap (λ (s : State). s.views.changes) (is ∙ ap (state_by old) v) in omega arith)

-- where it doesn't, the event moved the machine
pub moves : (old : State) (e : Event) (o : Outcome) (new : State) → Answers (verdict old e) old (Ok o) new → new.views.changes ≢ old.views.changes → verdict old e ≡ Moves o new
moves old e o new answers differ = by_verdict (verdict old e) answers
  where
    by_verdict : (v : Verdict) → Answers v old (Ok o) new → v ≡ Moves o new
    by_verdict IsBad a = absurd (cc (a.0))
    by_verdict (Keeps p) a = absurd (differ (ap (λ (s : State). s.views.changes) a.1))
    by_verdict IsLimited a = absurd (cc (a.0))
    by_verdict (Moves p moved) a = elim a [ inl x ↦ cc (x.0, x.1) | inr x ↦ absurd (cc (x.0)) ]

-- what is known of an answer is known of what it is found to be
pub answered : (v : Verdict) (old new : State) (r known : Answer (Option Outcome) Fault) → r ≡ known → AnswersAs v old r new → AnswersAs v old known new
answered v old new r known is answers = subst (λ (a : Answer (Option Outcome) Fault). AnswersAs v old a new) is answers

-- an event behind a list of events happens where the list leads
one_more : (s : State) (events : List Event) (e : Event) → after_events s (events ++ e ∷ []) ≡ happens (after_events s events) e
one_more s [] e = refl
one_more s (x ∷ events) e = one_more (happens s x) events e

-- and where none of the list is refused, nor is the one behind it
replays_more : (i : ℕ) (s : State) (events : List Event) (e : Event) (o : Outcome) (t new : State) → verdict t e ≡ Moves o new
    → replayed_from i s events ≡ Replayed.Reached t → replayed_from i s (events ++ e ∷ []) ≡ Replayed.Reached new
replays_more i s [] e o t new is p =
    let same : s ≡ t = cc p in
    subst (λ (x : State). replayed_from i x (e ∷ []) ≡ Replayed.Reached new) (sym same)
    (ap (λ (v : Verdict). unless_refused v i (Replayed.Reached (state_by t v))) is)
replays_more i s (x ∷ events) e o t new is p = by_verdict (verdict s x) (replays_more (i + 1) (happens s x) events e o t new is) p
  where
    by_verdict : (v : Verdict)
        → (replayed_from (i + 1) (happens s x) events ≡ Replayed.Reached t → replayed_from (i + 1) (happens s x) (events ++ e ∷ []) ≡ Replayed.Reached new)
        → unless_refused v i (replayed_from (i + 1) (happens s x) events) ≡ Replayed.Reached t
        → unless_refused v i (replayed_from (i + 1) (happens s x) (events ++ e ∷ [])) ≡ Replayed.Reached new
    by_verdict IsBad more q = absurd (cc q)
    by_verdict (Keeps k) more q = more q
    by_verdict IsLimited more q = absurd (cc q)
    by_verdict (Moves k moved) more q = more q

-- and where each of the list changes the machine, so does the one behind it
moves_more : (s : State) (events : List Event) (e : Event) → IsMove (after_events s events) e → AreMoves s events → AreMoves s (events ++ e ∷ [])
moves_more s [] e last each = (last, tt)
moves_more s (x ∷ events) e last each = (each.0, moves_more (happens s x) events e last each.1)

-- two machines of one image and one configuration open alike
pub opens_alike : (old new : State) → KeepsImageAndConfig old new → opening new.trace.image new.views.config ≡ opening old.trace.image old.views.config
opens_alike old new stays = λ i. opening (stays.image i) (stays.config i)

pub played_moved : (machine : State) (events : List Event) (e : Event) (o : Outcome) (new : State) → verdict machine e ≡ Moves o new → KeepsImageAndConfig machine new
    → IsPlayed (record { machine = machine; events = events }) → IsPlayed (record { machine = new; events = events ++ e ∷ [] })
played_moved machine events e o new is stays was = record {
  leads =
      ap (λ (s : State). after_events s (events ++ e ∷ [])) (opens_alike machine new stays)
      ∙ one_more (opening machine.trace.image machine.views.config) events e
      ∙ ap (λ (s : State). happens s e) was.leads
      ∙ ap (state_by machine) is;
  replays =
      ap (λ (s : State). replayed_from 0 s (events ++ e ∷ [])) (opens_alike machine new stays)
      ∙ replays_more 0 (opening machine.trace.image machine.views.config) events e o machine new is was.replays;
  moves =
      subst (λ (s : State). AreMoves s (events ++ e ∷ [])) (sym (opens_alike machine new stays))
      (moves_more (opening machine.trace.image machine.views.config) events e (subst (λ (s : State). IsMove s e) (sym was.leads) (o, new, is)) was.moves);
}

pub played_still : (machine : State) (events : List Event) (new : State) → new ≡ machine → IsPlayed (record { machine = machine; events = events }) → IsPlayed (record { machine = new; events = events })
played_still machine events new is was = subst (λ (s : State). IsPlayed (record { machine = s; events = events })) (sym is) was

-- ---- the same, of the image and configuration at reset

pub real_at : (reset start machine : State) (events : List Event) → start ≡ reset → after_events start events ≡ machine → machine ≡ after_events reset events
real_at reset start machine events same leads = sym leads ∙ ap (λ (s : State). after_events s events) same

pub replays_at : (reset start machine : State) (events : List Event) → start ≡ reset → after_events start events ≡ machine → replayed_from 0 start events ≡ Replayed.Reached machine
    → replayed_from 0 reset events ≡ Replayed.Reached (after_events reset events)
replays_at reset start machine events same leads replays =
    ap (λ (s : State). replayed_from 0 s events) (sym same) ∙ replays ∙ ap Replayed.Reached (real_at reset start machine events same leads)

pub moves_at : (reset start : State) (events : List Event) → start ≡ reset → AreMoves start events → AreMoves reset events
moves_at reset start events same each = subst (λ (s : State). AreMoves s events) same each

pub each_real : (reset start : State) (r : Answer Schedule AllocError) → start ≡ reset → IfOk r (λ schedule. after_events start schedule.events.items ≡ schedule.machine)
    → IfOk r (λ schedule. schedule.machine ≡ after_events reset schedule.events.items)
each_real reset start (Ok schedule) same leads = real_at reset start schedule.machine schedule.events.items same leads
each_real reset start (Err error) same leads = tt

pub each_replays : (reset start : State) (r : Answer Schedule AllocError) → start ≡ reset → IfOk r (λ schedule. after_events start schedule.events.items ≡ schedule.machine)
    → IfOk r (λ schedule. replayed_from 0 start schedule.events.items ≡ Replayed.Reached schedule.machine)
    → IfOk r (λ schedule. replayed_from 0 reset schedule.events.items ≡ Replayed.Reached (after_events reset schedule.events.items))
each_replays reset start (Ok schedule) same leads replays = replays_at reset start schedule.machine schedule.events.items same leads replays
each_replays reset start (Err error) same leads replays = tt

pub each_moves : (reset start : State) (r : Answer Schedule AllocError) → start ≡ reset → IfOk r (λ schedule. AreMoves start schedule.events.items) → IfOk r (λ schedule. AreMoves reset schedule.events.items)
each_moves reset start (Ok schedule) same each = moves_at reset start schedule.events.items same each
each_moves reset start (Err error) same each = tt

-- a replay that refuses nothing leads where its events lead
goes_on : (v : Verdict) (i : ℕ) (rest : Replayed) (t : State) → unless_refused v i rest ≡ Replayed.Reached t → rest ≡ Replayed.Reached t
goes_on IsBad i rest t p = absurd (cc p)
goes_on (Keeps o) i rest t p = p
goes_on IsLimited i rest t p = absurd (cc p)
goes_on (Moves o new) i rest t p = p

pub leads_to : (s t : State) (i : ℕ) (events : List Event) → replayed_from i s events ≡ Replayed.Reached t → after_events s events ≡ t
leads_to s t i [] p = cc p
leads_to s t i (e ∷ events) p = leads_to (happens s e) t (i + 1) events (goes_on (verdict s e) i (replayed_from (i + 1) (happens s e) events) t p)

-- what is kept of a machine's events leads where the machine is
pub leads_there : (image : Initial) (config : Config) (start machine : State) (events : List Event) (Holds : State → Type 0) → start ≡ opening image config
    → after_events start events ≡ machine → replayed_from 0 start events ≡ Replayed.Reached machine → AreMoves start events → Holds machine
    → LeadsThere image config Holds events
leads_there image config start machine events Holds same leads replays each there = record {
  replays = replays_at (opening image config) start machine events same leads replays;
  moves = moves_at (opening image config) start events same each;
  there = subst Holds (real_at (opening image config) start machine events same leads) there;
}
