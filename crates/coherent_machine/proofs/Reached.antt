-- What holds of a state that some list of events leads to, by the laws of every list of events.
use Rattle.std.proofs.Common.{◌≡◌, ◌∙◌, refl, sym, ap, subst, ℕ, ◌+◌, List, [], ◌∷◌, ◌++◌, ◌⊎◌, OnErr, OnOk, Ok, Err, inl, inr}
use Rattle.std.proofs.lemmas.List.{append-nil}
use Rattle.std.specs.declared.result.Result.{Result}
use Rattle.elf_loader.specs.Image.{Initial, IsImage}
use Rattle.machine_types.specs.declared.config.Config.{Config}
use Rattle.machine_types.specs.declared.event.Event.{Event}
use Rattle.machine_types.specs.declared.outcome.Outcome.{Outcome}
use Rattle.machine_model.specs.Events.{Verdict, after_events, happens, state_by, verdict}
use Rattle.machine_model.specs.Events.Verdict.{IsBad, Keeps, IsLimited, Moves}
use Rattle.machine_model.specs.Laws.{Always, Grows, Headline, ImageAndConfigStay, IsHeadline, KeepsImageAndConfig, NothingIsRewritten}
use Rattle.machine_model.specs.LawfulLog.{IsBeginningOf}
use Rattle.machine_model.specs.Views.{State, opening}
use Rattle.machine_parts.specs.Applying.{Answers}
use Rattle.coherent_machine.specs.Machine.{IsReached, KeepsHeadline, Replayed, replayed_from, unless_refused}
use Rattle.machine_parts.specs.declared.errors.ApplyError.{ApplyError}
use Rattle.machine_model.specs.History.{entries_of}

pub reached_opening : (image : Initial) (config : Config) → IsImage image → IsReached (opening image config)
reached_opening image config loaded = record { events = []; loaded = loaded; leads = refl }

one_more : (s : State) (events : List Event) (e : Event) → after_events s (events ++ e ∷ []) ≡ happens (after_events s events) e
one_more s [] e = refl
one_more s (x ∷ events) e = one_more (happens s x) events e

pub reached_more : ImageAndConfigStay → (s : State) (e : Event) → IsReached s → IsReached (happens s e)
reached_more stay s e r = record {
  events = more;
  loaded = subst IsImage (sym (stay s e).image) r.loaded;
  leads =
      subst (λ (c : Config). after_events (opening (happens s e).trace.image c) more ≡ happens s e) (sym (stay s e).config)
      (subst (λ (i : Initial). after_events (opening i s.views.config) more ≡ happens s e) (sym (stay s e).image)
      (one_more (opening s.trace.image s.views.config) r.events e ∙ ap (λ (x : State). happens x e) r.leads));
}
  where
    more : List Event
    more = r.events ++ e ∷ []

-- an answer leaves the old state or the meaning's
reached_by : (v : Verdict) (s new : State) (result : Result Outcome ApplyError) → Answers v s result new → IsReached s → IsReached (state_by s v) → IsReached new
reached_by IsBad s new result a r next = subst IsReached (sym a.1) r
reached_by (Keeps o) s new result a r next = subst IsReached (sym a.1) r
reached_by IsLimited s new result a r next = subst IsReached (sym a.1) r
reached_by (Moves o moved) s new result a r next =
    elim a [ inl x ↦ subst IsReached (sym x.1) next | inr x ↦ subst IsReached (sym x.1) r ]

pub reached_after : ImageAndConfigStay → (s new : State) (e : Event) (result : Result Outcome ApplyError) → Answers (verdict s e) s result new → IsReached s → IsReached new
reached_after stay s new e result a r = reached_by (verdict s e) s new result a r (reached_more stay s e r)

-- what an answer leaves is what it found, or what the event's meaning gives
left_by : (v : Verdict) (s new : State) (result : Result Outcome ApplyError) → Answers v s result new → (new ≡ s) ⊎ (new ≡ state_by s v)
left_by IsBad s new result a = inl a.1
left_by (Keeps o) s new result a = inl a.1
left_by IsLimited s new result a = inl a.1
left_by (Moves o moved) s new result a = elim a [ inl x ↦ inr x.1 | inr x ↦ inl x.1 ]

kept_by : (v : Verdict) (s new : State) (result : Result Outcome ApplyError) → Answers v s result new → OnErr result (new ≡ s)
kept_by v s new (Ok o) a = tt
kept_by IsBad s new (Err error) a = a.1
kept_by (Keeps o) s new (Err error) a = absurd (cc (a.0))
kept_by IsLimited s new (Err error) a = a.1
kept_by (Moves o moved) s new (Err error) a = elim a [ inl x ↦ absurd (cc (x.0)) | inr x ↦ x.1 ]

pub kept_on_error : (s new : State) (e : Event) (result : Result Outcome ApplyError) → Answers (verdict s e) s result new → OnErr result (new ≡ s)
kept_on_error s new e result a = kept_by (verdict s e) s new result a

happened_by : (v : Verdict) (s new : State) (result : Result Outcome ApplyError) → Answers v s result new → OnOk result (new ≡ state_by s v)
happened_by v s new (Err error) a = tt
happened_by IsBad s new (Ok o) a = absurd (cc (a.0))
happened_by (Keeps p) s new (Ok o) a = a.1
happened_by IsLimited s new (Ok o) a = absurd (cc (a.0))
happened_by (Moves p moved) s new (Ok o) a = elim a [ inl x ↦ x.1 | inr x ↦ absurd (cc (x.0)) ]

pub happened_on_ok : (s new : State) (e : Event) (result : Result Outcome ApplyError) → Answers (verdict s e) s result new → OnOk result (new ≡ happens s e)
happened_on_ok s new e result a = happened_by (verdict s e) s new result a

begins_itself : {A : Type 0} (xs : List A) → IsBeginningOf xs xs
begins_itself xs = ([], append-nil xs)

grows_none : (s : State) → Grows s.trace s.trace
grows_none s = record { performed = begins_itself s.trace.performed; entries = λ h. begins_itself (entries_of s.trace h); log = begins_itself s.trace.log }

pub grows_after : NothingIsRewritten → (s new : State) (e : Event) (result : Result Outcome ApplyError) → Answers (verdict s e) s result new → Grows s.trace new.trace
grows_after law s new e result a =
    elim (left_by (verdict s e) s new result a) [
      | inl x ↦ subst (λ (n : State). Grows s.trace n.trace) (sym x) (grows_none s)
      | inr x ↦ subst (λ (n : State). Grows s.trace n.trace) (sym x) (law s e)
    ]

stays_none : (s : State) → KeepsImageAndConfig s s
stays_none s = record { image = refl; line = refl; config = refl }

pub stays_after : ImageAndConfigStay → (s new : State) (e : Event) (result : Result Outcome ApplyError) → Answers (verdict s e) s result new → KeepsImageAndConfig s new
stays_after law s new e result a =
    elim (left_by (verdict s e) s new result a) [
      | inl x ↦ subst (λ (n : State). KeepsImageAndConfig s n) (sym x) (stays_none s)
      | inr x ↦ subst (λ (n : State). KeepsImageAndConfig s n) (sym x) (law s e)
    ]

-- a law of every list of events holds here
pub law_of : (P : Initial → Config → State → Type 0) → Always P → (s : State) → IsReached s → P s.trace.image s.views.config s
law_of P law s r = subst (P s.trace.image s.views.config) r.leads (law s.trace.image s.views.config r.events r.loaded)

pub headline_of : Headline → (s : State) → IsReached s → KeepsHeadline s
headline_of law s r = law_of IsHeadline law s r

-- image and configuration are those at reset
image_stays : ImageAndConfigStay → (s : State) (events : List Event) → (after_events s events).trace.image ≡ s.trace.image
image_stays stay s [] = refl
image_stays stay s (e ∷ events) = image_stays stay (happens s e) events ∙ (stay s e).image

config_stays : ImageAndConfigStay → (s : State) (events : List Event) → (after_events s events).views.config ≡ s.views.config
config_stays stay s [] = refl
config_stays stay s (e ∷ events) = config_stays stay (happens s e) events ∙ (stay s e).config

-- a replay that refuses nothing leads where its events lead
goes_on : (v : Verdict) (i : ℕ) (rest : Replayed) (t : State) → unless_refused v i rest ≡ Replayed.Reached t → rest ≡ Replayed.Reached t
goes_on IsBad i rest t p = absurd (cc p)
goes_on (Keeps o) i rest t p = p
goes_on IsLimited i rest t p = absurd (cc p)
goes_on (Moves o new) i rest t p = p

leads_to : (s t : State) (i : ℕ) (events : List Event) → replayed_from i s events ≡ Replayed.Reached t → after_events s events ≡ t
leads_to s t i [] p = cc p
leads_to s t i (e ∷ events) p = leads_to (happens s e) t (i + 1) events (goes_on (verdict s e) i (replayed_from (i + 1) (happens s e) events) t p)

-- so the headline holds there of the image and the configuration at reset
pub headline_from : ImageAndConfigStay → (image : Initial) (config : Config) (events : List Event) (t : State)
    → replayed_from 0 (opening image config) events ≡ Replayed.Reached t → KeepsHeadline t → IsHeadline image config t
headline_from stay image config events t p h =
    let leads = leads_to (opening image config) t 0 events p in
    subst (λ (x : Config). IsHeadline image x t) (sym (ap (λ (x : State). x.views.config) leads) ∙ config_stays stay (opening image config) events)
    (subst (λ (x : Initial). IsHeadline x t.views.config t) (sym (ap (λ (x : State). x.trace.image) leads) ∙ image_stays stay (opening image config) events) h)
