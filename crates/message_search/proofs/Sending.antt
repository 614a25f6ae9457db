-- How a message is looked for, one event after the other.
use Rattle.std.proofs.Common.{ℕ, ◌≡◌, ◌∙◌, ◌+◌, ◌-◌, ◌<◌, ◌≤◌, ◌||◌, Bool, true, false, refl, sym, ap, subst, List, [], ◌∷◌, ◌++◌, append_assoc, length, None, Ok, Some, inl, inr, arith, get_or, take, drop}
use Rattle.std.specs.List.{list_any}
use Rattle.std.proofs.Math.Seq.{drop-append_seam, take-append_seam}
use Rattle.std.proofs.lemmas.Bool.Decides.{leb_tells}
use Rattle.std.proofs.lemmas.List.{append-nil, length-append, length-drop, take_all}
use Rattle.std.proofs.lemmas.List.Folds.{list_any-append}
use Rattle.coherent_machine.specs.Applying.{Answers}
use Rattle.coherent_machine.specs.Machine.{Replayed, replayed_from, unless_refused}
use Rattle.elf_loader.specs.Image.{Initial}
use Rattle.machine_model.specs.Events.{Verdict, after_events, happens, verdict}
use Rattle.machine_model.specs.Events.Verdict.{IsBad, IsLimited, Keeps, Moves}
use Rattle.machine_model.specs.Laws.{Grows}
use Rattle.machine_model.specs.Views.{State, opening}
use Rattle.machine_types.specs.declared.config.Config.{Config}
use Rattle.machine_types.specs.declared.event.Event.{Event}
use Rattle.machine_types.specs.declared.outcome.Outcome.{Outcome}
use Rattle.message_search.specs.First.{IsFirst}
use Rattle.message_search.specs.Sought.{is_sought, was_sent}
use Rattle.message_search.specs.declared.sought.Sought.{Sought}
use Rattle.trace_recorder.specs.declared.logged.Logged.{Logged}

-- the events before the rest are accepted and lead here, and none of them sends the message
pub record Unsent (s : Sought) (start : State) (events : List Event) (index : ℕ) (here : State) (rest : List Event) : Type 0 where
  pub before : List Event
  pub whole : before ++ rest ≡ events
  pub place : length before ≡ index
  pub goes : (more : List Event) → replayed_from 0 start (before ++ more) ≡ replayed_from index here more
  pub leads : after_events start before ≡ here
  pub unsent : (k : ℕ) → k ≤ index → was_sent s (after_events start (take k events)) ≡ false

none_unsent : (s : Sought) (image : Initial) (config : Config) (events : List Event) → Unsent s (opening image config) events 0 (opening image config) events
none_unsent s image config events = record {
  before = [];
  whole = refl;
  place = refl;
  goes = λ more. refl;
  leads = refl;
  unsent = λ k below.
      let none : k ≡ 0 = omega (arith, below) in
      ap (λ (n : ℕ). was_sent s (after_events (opening image config) (take n events))) none;
}

pub starts_unsent : (s : Sought) (image : Initial) (config : Config) (events : List Event) (here : State) → here ≡ opening image config → Unsent s (opening image config) events 0 here events
starts_unsent s image config events here is = subst (λ (m : State). Unsent s (opening image config) events 0 m events) (sym is) (none_unsent s image config events)

one_more : (s : State) (events : List Event) (e : Event) → after_events s (events ++ e ∷ []) ≡ happens (after_events s events) e
one_more s [] e = refl
one_more s (x ∷ events) e = one_more (happens s x) events e

-- the events before the rest are the first so many
front_is : (before rest events : List Event) (index : ℕ) → before ++ rest ≡ events → length before ≡ index → take index events ≡ before
front_is before rest events index whole place =
    ap (take index) (sym whole) ∙ ap (λ (n : ℕ). take n (before ++ rest)) (sym place) ∙ take-append_seam before rest

-- a log that grows has the message where it had it, or what was added does
log_sends : (s : Sought) (old new : List Logged) (told : ℕ) → ((more : List Logged) × (old ++ more ≡ new)) → told ≡ length old
    → list_any (is_sought s) new ≡ (list_any (is_sought s) old || list_any (is_sought s) (drop told new))
log_sends s old new told grown at =
    let added : drop told new ≡ grown.0 =
    ap (drop told) (sym grown.1) ∙ ap (λ (n : ℕ). drop n (old ++ grown.0)) at ∙ drop-append_seam old grown.0 in
    ap (list_any (is_sought s)) (sym grown.1)
    ∙ list_any-append (is_sought s) old grown.0
    ∙ ap (λ (xs : List Logged). list_any (is_sought s) old || list_any (is_sought s) xs) (sym added)

-- what was told of a log before is within it once it has grown
pub grown_within : (old new : State) (told : ℕ) → Grows old.trace new.trace → told ≡ length old.trace.log → told ≤ length new.trace.log
grown_within old new told grows at =
    let grown = grows.log in
    let same = ap (λ (xs : List Logged). length xs) grown.1 in
    omega (arith, at, same, length-append old.trace.log grown.0)

goes_on : (v : Verdict) (s new : State) (o : Outcome) (i : ℕ) (rest : Replayed) → Answers v s (Ok o) new → unless_refused v i rest ≡ rest
goes_on IsBad s new o i rest a = absurd (cc (a.0))
goes_on (Keeps p) s new o i rest a = refl
goes_on IsLimited s new o i rest a = absurd (cc (a.0))
goes_on (Moves p moved) s new o i rest a = refl

-- the first event and the others
rest_is : (xs : List Event) (d : Event) → 1 ≤ length xs → xs ≡ get_or xs 0 d ∷ take (length xs - 1) (drop 1 xs)
rest_is [] d some = absurd (omega (arith, some))
rest_is (x ∷ xs) d some = ap (λ (r : List Event). x ∷ r) (sym (take_all (length (x ∷ xs) - 1) (drop 1 (x ∷ xs)) (omega (arith, length-drop 1 (x ∷ xs)))))

module _ (s : Sought) (start : State) (events : List Event) (index : ℕ) (here new : State) (event : Event) (rest : List Event) (o : Outcome)
    (p : Unsent s start events index here (event ∷ rest)) (answers : Answers (verdict here event) here (Ok o) new) (leads : new ≡ happens here event) where
  whole_next : (p.before ++ event ∷ []) ++ rest ≡ events
  whole_next = append_assoc p.before (event ∷ []) rest ∙ p.whole

  place_next : length (p.before ++ event ∷ []) ≡ index + 1
  place_next = length-append p.before (event ∷ []) ∙ ap (λ (k : ℕ). k + 1) p.place

  goes_next : (more : List Event) → replayed_from 0 start ((p.before ++ event ∷ []) ++ more) ≡ replayed_from (index + 1) new more
  goes_next more =
      ap (replayed_from 0 start) (append_assoc p.before (event ∷ []) more)
      ∙ (p.goes (event ∷ more)
      ∙ (goes_on (verdict here event) here new o index (replayed_from (index + 1) (happens here event) more) answers
      ∙ ap (λ (t : State). replayed_from (index + 1) t more) (sym leads)))

  leads_next : after_events start (p.before ++ event ∷ []) ≡ new
  leads_next = one_more start p.before event ∙ (ap (λ (t : State). happens t event) p.leads ∙ sym leads)

  -- the first so many events lead there
  there_is : after_events start (take (index + 1) events) ≡ new
  there_is = ap (after_events start) (front_is (p.before ++ event ∷ []) rest events (index + 1) whole_next place_next) ∙ leads_next

  here_unsent : was_sent s here ≡ false
  here_unsent =
      sym (ap (was_sent s) (ap (after_events start) (front_is p.before (event ∷ rest) events index p.whole p.place) ∙ p.leads)) ∙ p.unsent index (omega arith)

  sends_next : (told : ℕ) → Grows here.trace new.trace → told ≡ length here.trace.log → was_sent s new ≡ list_any (is_sought s) (drop told new.trace.log)
  sends_next told grows at =
      log_sends s here.trace.log new.trace.log told grows.log at ∙ ap (λ (b : Bool). b || list_any (is_sought s) (drop told new.trace.log)) here_unsent

  -- the next event doesn't send it
  one_unsent : (told : ℕ) → Grows here.trace new.trace → told ≡ length here.trace.log → list_any (is_sought s) (drop told new.trace.log) ≡ false
      → Unsent s start events (index + 1) new rest
  one_unsent told grows at none = record {
    before = p.before ++ event ∷ [];
    whole = whole_next;
    place = place_next;
    goes = goes_next;
    leads = leads_next;
    unsent = λ k below. elim (leb_tells k index) [
      | inl early ↦ p.unsent k early.1
      | inr late ↦
          let last : k ≡ index + 1 = omega (arith, below, late.1) in
          ap (λ (n : ℕ). was_sent s (after_events start (take n events))) last ∙ (ap (was_sent s) there_is ∙ (sends_next told grows at ∙ none))
    ];
  }

-- it does
found : (s : Sought) (image : Initial) (config : Config) (events : List Event) (index : ℕ) (here new : State) (event : Event) (rest : List Event) (o : Outcome) (told : ℕ)
    → Unsent s (opening image config) events index here (event ∷ rest) → Answers (verdict here event) here (Ok o) new → new ≡ happens here event
    → Grows here.trace new.trace → told ≡ length here.trace.log → list_any (is_sought s) (drop told new.trace.log) ≡ true
    → IsFirst image config s events (Some (index + 1))
found s image config events index here new event rest o told p answers leads grows at sent =
    let start = opening image config in
    let next = p.before ++ event ∷ [] in
    let whole = whole_next s start events index here new event rest o p answers leads in
    let place = place_next s start events index here new event rest o p answers leads in
    let front = front_is next rest events (index + 1) whole place in
    let there = there_is s start events index here new event rest o p answers leads in
    record {
      met = record {
        within = omega (arith, ap (λ (xs : List Event). length xs) whole, length-append next rest, place);
        replays =
            ap (replayed_from 0 start) front
            ∙ (ap (replayed_from 0 start) (sym (append-nil next))
            ∙ (goes_next s start events index here new event rest o p answers leads []
            ∙ ap Replayed.Reached (sym there)));
        sent = ap (was_sent s) there ∙ (sends_next s start events index here new event rest o p answers leads told grows at ∙ sent);
      };
      unsent = λ k below. p.unsent k (omega (arith, below));
    }

module _ (s : Sought) (image : Initial) (config : Config) (events : List Event) (index : ℕ) (here new : State) (rest : List Event) (d : Event) (o : Outcome) (told : ℕ) (some : 1 ≤ length rest) where
  next : Unsent s (opening image config) events index here rest → Unsent s (opening image config) events index here (get_or rest 0 d ∷ take (length rest - 1) (drop 1 rest))
  next p = subst (λ (xs : List Event). Unsent s (opening image config) events index here xs) (rest_is rest d some) p

  pub next_found : Unsent s (opening image config) events index here rest → Answers (verdict here (get_or rest 0 d)) here (Ok o) new → new ≡ happens here (get_or rest 0 d)
      → Grows here.trace new.trace → told ≡ length here.trace.log → list_any (is_sought s) (drop told new.trace.log) ≡ true
      → IsFirst image config s events (Some (index + 1))
  next_found p answers leads grows at sent =
      found s image config events index here new (get_or rest 0 d) (take (length rest - 1) (drop 1 rest)) o told (next p) answers leads grows at sent

  pub next_unsent : Unsent s (opening image config) events index here rest → Answers (verdict here (get_or rest 0 d)) here (Ok o) new → new ≡ happens here (get_or rest 0 d)
      → Grows here.trace new.trace → told ≡ length here.trace.log → list_any (is_sought s) (drop told new.trace.log) ≡ false
      → Unsent s (opening image config) events (index + 1) new (take (length rest - 1) (drop 1 rest))
  next_unsent p answers leads grows at none =
      one_unsent s (opening image config) events index here new (get_or rest 0 d) (take (length rest - 1) (drop 1 rest)) o (next p) answers leads told grows at none

-- none of the events sends it
pub all_unsent : (s : Sought) (image : Initial) (config : Config) (events : List Event) (index : ℕ) (here : State) (rest : List Event) → length rest < 1 → Unsent s (opening image config) events index here rest
    → IsFirst image config s events None
all_unsent s image config events index here (x ∷ rest) none p = absurd (omega (arith, none))
all_unsent s image config events index here [] none p = record {
  met = tt;
  unsent = λ k below. elim (leb_tells k index) [
    | inl early ↦ p.unsent k early.1
    | inr late ↦
        let count = ap (λ (xs : List Event). length xs) (sym (append-nil p.before) ∙ p.whole) in
        let by_k = take_all k events (omega (arith, late.1, count, p.place)) in
        let by_index = take_all index events (omega (arith, count, p.place)) in
        ap (λ (xs : List Event). was_sent s (after_events (opening image config) xs)) (by_k ∙ sym by_index) ∙ p.unsent index (omega arith)
  ];
}
