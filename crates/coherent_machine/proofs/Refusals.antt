-- How a list of events is applied one event at a time, and where it is refused.
use Rattle.std.proofs.Common.{ℕ, ◌≡◌, ◌∙◌, ◌+◌, refl, sym, ap, List, [], ◌∷◌, ◌++◌, length, Ok, Err, inl, inr, arith, ◌-◌, ◌≤◌, get_or, take, drop, subst}
use Rattle.std.proofs.lemmas.List.{append-nil, append_assoc, length-append, length-drop, take_all}
use Rattle.machine_types.specs.declared.event.Event.{Event}
use Rattle.machine_types.specs.declared.outcome.Outcome.{Outcome}
use Rattle.machine_model.specs.Events.{Verdict, happens, verdict}
use Rattle.machine_model.specs.Events.Verdict.{IsBad, Keeps, IsLimited, Moves}
use Rattle.machine_model.specs.Views.{State}
use Rattle.machine_parts.specs.Applying.{Answers}
use Rattle.machine_parts.specs.declared.errors.ApplyError.{ApplyError}
use Rattle.machine_parts.specs.declared.errors.ApplyError.TheVariants.{BadEvent, Limit, NoMemory}
use Rattle.coherent_machine.specs.Machine.{IsRefusedAt, Refuses, Replayed, replayed_from, unless_refused}

-- the events before the rest are accepted, as many as the index says, and lead here
pub record Applied (s : State) (events : List Event) (index : ℕ) (here : State) (rest : List Event) : Type 0 where
  pub before : List Event
  pub whole : before ++ rest ≡ events
  pub place : length before ≡ index
  pub leads : (more : List Event) → replayed_from 0 s (before ++ more) ≡ replayed_from index here more

pub none_applied : (s : State) (events : List Event) → Applied s events 0 s events
none_applied s events = record { before = []; whole = refl; place = refl; leads = λ more. refl }

-- the first event and the others
rest_is : {A : Type 0} (xs : List A) (d : A) → 1 ≤ length xs → xs ≡ get_or xs 0 d ∷ take (length xs - 1) (drop 1 xs)
rest_is {A = A} [] d some = absurd (omega (arith, some))
rest_is {A = A} (x ∷ xs) d some = ap (λ (r : List A). x ∷ r) (sym (take_all (length (x ∷ xs) - 1) (drop 1 (x ∷ xs)) (omega (arith, length-drop 1 (x ∷ xs)))))

pub rest_place : {A : Type 0} (xs : List A) (index count : ℕ) → 1 ≤ length xs → index + length xs ≡ count → index + 1 + length (take (length xs - 1) (drop 1 xs)) ≡ count
rest_place {A = A} xs index count some p =
    let same = ap (λ (r : List A). length r) (take_all (length xs - 1) (drop 1 xs) (omega (arith, length-drop 1 xs))) in
    omega (arith, some, p, same, length-drop 1 xs)

pub next_of : (s : State) (events : List Event) (index : ℕ) (here : State) (rest : List Event) (d : Event) → 1 ≤ length rest
    → Applied s events index here rest → Applied s events index here (get_or rest 0 d ∷ take (length rest - 1) (drop 1 rest))
next_of s events index here rest d some p = subst (Applied s events index here) (rest_is rest d some) p

goes_on : (v : Verdict) (s new : State) (o : Outcome) (i : ℕ) (rest : Replayed) → Answers v s (Ok o) new → unless_refused v i rest ≡ rest
goes_on IsBad s new o i rest a = absurd (cc (a.0))
goes_on (Keeps p) s new o i rest a = refl
goes_on IsLimited s new o i rest a = absurd (cc (a.0))
goes_on (Moves p moved) s new o i rest a = refl

pub one_applied : (s : State) (events : List Event) (index : ℕ) (here new : State) (event : Event) (rest : List Event) (o : Outcome)
    → Applied s events index here (event ∷ rest) → Answers (verdict here event) here (Ok o) new → new ≡ happens here event
    → Applied s events (index + 1) new rest
one_applied s events index here new event rest o p a n = record {
  before = p.before ++ event ∷ [];
  whole = append_assoc p.before (event ∷ []) rest ∙ p.whole;
  place = length-append p.before (event ∷ []) ∙ ap (λ (k : ℕ). k + 1) p.place;
  leads = λ more.
      ap (replayed_from 0 s) (append_assoc p.before (event ∷ []) more)
      ∙ (p.leads (event ∷ more)
      ∙ (goes_on (verdict here event) here new o index (replayed_from (index + 1) (happens here event) more) a
      ∙ ap (λ (t : State). replayed_from (index + 1) t more) (sym n)));
}

refuses : (v : Verdict) (s new : State) (error : ApplyError) → Answers v s (Err error) new → Refuses error v
refuses IsBad s new BadEvent a = refl
refuses IsBad s new Limit a = absurd (cc (a.0))
refuses IsBad s new NoMemory a = absurd (cc (a.0))
refuses (Keeps o) s new error a = absurd (cc (a.0))
refuses IsLimited s new BadEvent a = absurd (cc (a.0))
refuses IsLimited s new Limit a = refl
refuses IsLimited s new NoMemory a = absurd (cc (a.0))
refuses (Moves o moved) s new BadEvent a = elim a [ inl x ↦ absurd (cc (x.0)) | inr x ↦ absurd (cc (x.0)) ]
refuses (Moves o moved) s new Limit a = elim a [ inl x ↦ absurd (cc (x.0)) | inr x ↦ absurd (cc (x.0)) ]
refuses (Moves o moved) s new NoMemory a = elim a [ inl x ↦ absurd (cc (x.0)) | inr x ↦ x.2 ]

pub refused_next : (s : State) (events : List Event) (index : ℕ) (here new : State) (event : Event) (rest : List Event) (error : ApplyError)
    → Applied s events index here (event ∷ rest) → Answers (verdict here event) here (Err error) new
    → IsRefusedAt s events index error
refused_next s events index here new event rest error p a = record {
  before = p.before;
  event = event;
  later = rest;
  state = here;
  whole = p.whole;
  place = p.place;
  leads = ap (replayed_from 0 s) (sym (append-nil p.before)) ∙ p.leads [];
  refused = refuses (verdict here event) here new error a;
}

pub all_applied : (s : State) (events : List Event) (index : ℕ) (here : State) → Applied s events index here [] → replayed_from 0 s events ≡ Replayed.Reached here
all_applied s events index here p = ap (replayed_from 0 s) (sym p.whole) ∙ p.leads []
