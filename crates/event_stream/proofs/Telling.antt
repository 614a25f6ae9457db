-- How a list of events is told one event at a time.
use Rattle.std.proofs.Common.{ℕ, ◌≡◌, ◌∙◌, ◌+◌, refl, sym, ap, List, [], ◌∷◌, ◌++◌, length, Bool, true, false, ◌==◌, Option, Ok, Err, inl, inr, arith, ◌-◌, ◌≤◌, get_or, take, drop, subst}
use Rattle.std.proofs.lemmas.Bool.{eq-eqb, eqb-true}
use Rattle.std.proofs.lemmas.List.{append-nil, append_assoc, length-append, length-drop, take_all}
use Rattle.std.specs.Io.KnownBytes.{Appends}
use Rattle.coherent_machine.specs.Machine.{Refuses}
use Rattle.elf_symbols.specs.Named.{Named}
use Rattle.machine_types.specs.declared.event.Event.{Event}
use Rattle.machine_types.specs.declared.outcome.Outcome.{Outcome}
use Rattle.machine_model.specs.Events.{Verdict, happens, hart_of, verdict}
use Rattle.machine_model.specs.Events.Verdict.{IsBad, Keeps, IsLimited, Moves}
use Rattle.machine_model.specs.Laws.{ChangesAreCounted}
use Rattle.machine_model.specs.Views.{State}
use Rattle.coherent_machine.specs.Applying.{Answers}
use Rattle.coherent_machine.specs.ApplyError.{ApplyError}
use Rattle.coherent_machine.specs.TheVariants.{BadEvent, Limit, NoMemory}
use Rattle.rv32_exec.specs.declared.actions.Action.{Action}
use Rattle.text_fields.specs.Writing.{Begins}
use Rattle.text_fields.specs.Pages.{Paged}
use Rattle.text_fields.proofs.Pages.{paged_none}
use Rattle.text_fields.proofs.Written.{begins_first}
use Rattle.event_stream.proofs.Paging.{paged_fails, paged_out, paged_then}
use Rattle.event_stream.specs.declared.errors.StreamError.{StreamError}
use Rattle.event_stream.specs.declared.errors.StreamError.TheVariants as errors
use Rattle.event_stream.specs.declared.report.Lengths.{Lengths}
use Rattle.event_stream.specs.declared.strictness.Strictness.{Strictness}
use Rattle.event_stream.specs.declared.strictness.Strictness.TheVariants.{Lenient, Strict}
use Rattle.event_stream.specs.Lines.{report_lines}
use Rattle.event_stream.specs.Reports.{Report, StreamEnding, action_of, ending, ending_by, report, reports, reports_by}
use Rattle.event_stream.specs.Streams.{lines}
use Rattle.event_stream.specs.Telling.{IsHandedOn, IsTold, ends_at, lengths_of, report_behind}
use Rattle.event_stream.specs.Writing.{IsCut}

-- the events before the rest are told, as many as the index says, and lead here
pub record Told (names : List Named) (m : Strictness) (s : State) (events : List Event) (index : ℕ) (here : State) (rest : List Event) (old now : Option (List ℕ)) (page after : List ℕ) : Type 0 where
  pub before : List Event
  pub front : List ℕ
  pub whole : before ++ rest ≡ events
  pub place : length before ≡ index
  pub ends : (more : List Event) → ending m 0 s (before ++ more) ≡ ending m index here more
  pub lines_are : (more : List Event) → lines names m 0 s (before ++ more) ≡ front ++ lines names m index here more
  pub sent : Paged old now page after front

pub none_told : (names : List Named) (m : Strictness) (s : State) (events : List Event) (old : Option (List ℕ)) (page : List ℕ) → Told names m s events 0 s events old old page page
none_told names m s events old page = record { before = []; front = []; whole = refl; place = refl; ends = λ more. refl; lines_are = λ more. refl; sent = paged_none old page }

-- the first event and the others
rest_is : {A : Type 0} (xs : List A) (d : A) → 1 ≤ length xs → xs ≡ get_or xs 0 d ∷ take (length xs - 1) (drop 1 xs)
rest_is {A = A} [] d some = absurd (omega (arith, some))
rest_is {A = A} (x ∷ xs) d some = ap (λ (r : List A). x ∷ r) (sym (take_all (length (x ∷ xs) - 1) (drop 1 (x ∷ xs)) (omega (arith, length-drop 1 (x ∷ xs)))))

pub rest_place : {A : Type 0} (xs : List A) (index count : ℕ) → 1 ≤ length xs → index + length xs ≡ count → index + 1 + length (take (length xs - 1) (drop 1 xs)) ≡ count
rest_place {A = A} xs index count some p =
    let same = ap (λ (r : List A). length r) (take_all (length xs - 1) (drop 1 xs) (omega (arith, length-drop 1 xs))) in
    omega (arith, some, p, same, length-drop 1 xs)

pub next_of : (names : List Named) (m : Strictness) (s : State) (events : List Event) (index : ℕ) (here : State) (rest : List Event) (d : Event) (old now : Option (List ℕ)) (page after : List ℕ) → 1 ≤ length rest
    → Told names m s events index here rest old now page after → Told names m s events index here (get_or rest 0 d ∷ take (length rest - 1) (drop 1 rest)) old now page after
next_of names m s events index here rest d old now page after some p = subst (λ (r : List Event). Told names m s events index here r old now page after) (rest_is rest d some) p

-- ---- an event that is told

changes_stay : (s new : State) → new ≡ s → (s.views.changes == new.views.changes) ≡ false → ⊥
changes_stay s new e h = let same : (s.views.changes == new.views.changes) ≡ true = eq-eqb _ _ (sym (ap (λ (t : State). t.views.changes) e)) in cc

goes_on : (v : Verdict) (m : Strictness) (s new : State) (o : Outcome) (i : ℕ) (rest : StreamEnding) → Answers v s (Ok o) new → ends_at m s.views.changes new.views.changes ≡ false → ending_by v m i rest ≡ rest
goes_on IsBad m s new o i rest a h = absurd (cc (a.0))
goes_on (Keeps p) Lenient s new o i rest a h = refl
goes_on (Keeps p) Strict s new o i rest a h = absurd (changes_stay s new a.1 h)
goes_on IsLimited m s new o i rest a h = absurd (cc (a.0))
goes_on (Moves p moved) m s new o i rest a h = refl

is_reported : (v : Verdict) (m : Strictness) (s new : State) (e : Event) (o : Outcome) (i : ℕ) (rest : List Report) → Answers v s (Ok o) new → ends_at m s.views.changes new.views.changes ≡ false → reports_by v m i s e rest ≡ report i s e o ∷ rest
is_reported IsBad m s new e o i rest a h = absurd (cc (a.0))
is_reported (Keeps p) Lenient s new e o i rest a h = let same : p ≡ o = cc (a.0) in ap (λ (q : Outcome). report i s e q ∷ rest) same
is_reported (Keeps p) Strict s new e o i rest a h = absurd (changes_stay s new a.1 h)
is_reported IsLimited m s new e o i rest a h = absurd (cc (a.0))
is_reported (Moves p moved) m s new e o i rest a h =
    elim a [ inl x ↦ (let same : p ≡ o = cc (x.0) in ap (λ (q : Outcome). report i s e q ∷ rest) same) | inr x ↦ absurd (cc (x.0)) ]

lines_more : (names : List Named) (m : Strictness) (i : ℕ) (s new : State) (e : Event) (o : Outcome) (more : List Event) → Answers (verdict s e) s (Ok o) new → ends_at m s.views.changes new.views.changes ≡ false
    → lines names m i s (e ∷ more) ≡ report_lines names (report i s e o) ++ lines names m (i + 1) (happens s e) more
lines_more names m i s new e o more a h = rw (is_reported (verdict s e) m s new e o i (reports m (i + 1) (happens s e) more) a h) refl

-- what is told of an event, from the lengths before it
pub behind : (b : Lengths) (h : ℕ) (action : Option Action) (x : Report) (here new : State) (index : ℕ) (e : Event) (o : Outcome)
    → b ≡ lengths_of here h → h ≡ hart_of e → action ≡ action_of here e → new ≡ happens here e → x ≡ report_behind b action new index e o → x ≡ report index here e o
behind b h action x here new index e o eb eh ea en ex =
    ex
    ∙ ap (λ (c : Lengths). report_behind c action new index e o) (eb ∙ ap (lengths_of here) eh)
    ∙ ap (λ (a : Option Action). report_behind (lengths_of here (hart_of e)) a new index e o) ea
    ∙ ap (λ (s : State). report_behind (lengths_of here (hart_of e)) (action_of here e) s index e o) en

pub one_told : (names : List Named) (m : Strictness) (s : State) (events : List Event) (index : ℕ) (here new : State) (event : Event) (rest : List Event) (o : Outcome) (old now then : Option (List ℕ)) (page after next : List ℕ)
    → Told names m s events index here (event ∷ rest) old now page after → Answers (verdict here event) here (Ok o) new → new ≡ happens here event
    → ends_at m here.views.changes new.views.changes ≡ false → Paged now then after next (report_lines names (report index here event o))
    → Told names m s events (index + 1) new rest old then page next
one_told names m s events index here new event rest o old now then page after next p a n h w = record {
  before = p.before ++ event ∷ [];
  front = p.front ++ report_lines names (report index here event o);
  whole = append_assoc p.before (event ∷ []) rest ∙ p.whole;
  place = length-append p.before (event ∷ []) ∙ ap (λ (k : ℕ). k + 1) p.place;
  ends = λ more.
      ap (ending m 0 s) (append_assoc p.before (event ∷ []) more)
      ∙ (p.ends (event ∷ more)
      ∙ (goes_on (verdict here event) m here new o index (ending m (index + 1) (happens here event) more) a h
      ∙ ap (λ (t : State). ending m (index + 1) t more) (sym n)));
  lines_are = λ more.
      ap (lines names m 0 s) (append_assoc p.before (event ∷ []) more)
      ∙ (p.lines_are (event ∷ more)
      ∙ (ap (λ (t : List ℕ). p.front ++ t) (lines_more names m index here new event o more a h)
      ∙ (sym (append_assoc p.front (report_lines names (report index here event o)) (lines names m (index + 1) (happens here event) more))
      ∙ ap (λ (t : State). (p.front ++ report_lines names (report index here event o)) ++ lines names m (index + 1) t more) (sym n))));
  sent = paged_then old now then page after next p.front (report_lines names (report index here event o)) p.sent w;
}

pub fails_next : (names : List Named) (m : Strictness) (s : State) (events : List Event) (index : ℕ) (here new : State) (event : Event) (rest : List Event) (o : Outcome) (old now then : Option (List ℕ)) (page after : List ℕ)
    → Told names m s events index here (event ∷ rest) old now page after → Answers (verdict here event) here (Ok o) new
    → ends_at m here.views.changes new.views.changes ≡ false → Begins now then (after ++ report_lines names (report index here event o))
    → Begins old then (page ++ lines names m 0 s events)
fails_next names m s events index here new event rest o old now then page after p a h w =
    let told = report_lines names (report index here event o) in
    let later = lines names m (index + 1) (happens here event) rest in
    let whole : lines names m 0 s events ≡ p.front ++ (told ++ later) =
    ap (lines names m 0 s) (sym p.whole) ∙ (p.lines_are (event ∷ rest) ∙ ap (λ (t : List ℕ). p.front ++ t) (lines_more names m index here new event o rest a h)) in
    subst (λ (t : List ℕ). Begins old then (page ++ t)) (sym whole)
    (paged_fails old now then page after p.front (told ++ later) p.sent (subst (Begins now then) (append_assoc after told later) (begins_first now then (after ++ told) later w)))

pub all_told : (names : List Named) (m : Strictness) (s : State) (events : List Event) (index : ℕ) (here : State) (old now : Option (List ℕ)) (page after : List ℕ) → Told names m s events index here [] old now page after
    → (ending m 0 s events ≡ StreamEnding.Reached here) × Paged old now page after (lines names m 0 s events)
all_told names m s events index here old now page after p = (
  ap (ending m 0 s) (sym p.whole) ∙ p.ends [],
  subst (Paged old now page after) (sym (ap (lines names m 0 s) (sym p.whole) ∙ (p.lines_are [] ∙ append-nil p.front))) p.sent,
)

-- ---- an event at which the stream ends

cut_at : (names : List Named) (m : Strictness) (s : State) (events : List Event) (index : ℕ) (here : State) (event : Event) (rest : List Event) (old now then : Option (List ℕ)) (page after : List ℕ) (IsSuch : Verdict → Type 0)
    → Told names m s events index here (event ∷ rest) old now page after → IsSuch (verdict here event) → Appends now then after → IsCut m s events index IsSuch (λ told. page ++ lines names m 0 s told) old then
cut_at names m s events index here event rest old now then page after IsSuch p h w = record {
  before = p.before;
  event = event;
  later = rest;
  state = here;
  whole = p.whole;
  place = p.place;
  leads = ap (ending m 0 s) (sym (append-nil p.before)) ∙ p.ends [];
  such = h;
  sent = subst (λ (t : List ℕ). Appends old then (page ++ t)) (sym (ap (lines names m 0 s) (sym (append-nil p.before)) ∙ (p.lines_are [] ∙ append-nil p.front))) (paged_out old now then page after p.front p.sent w);
}

-- the page did not go out
cut_off : (names : List Named) (m : Strictness) (s : State) (events : List Event) (index : ℕ) (here : State) (rest : List Event) (old now then : Option (List ℕ)) (page after : List ℕ)
    → Told names m s events index here rest old now page after → Begins now then after → Begins old then (page ++ lines names m 0 s events)
cut_off names m s events index here rest old now then page after p w =
    let more = lines names m index here rest in
    subst (λ (t : List ℕ). Begins old then (page ++ t)) (sym (ap (lines names m 0 s) (sym p.whole) ∙ p.lines_are rest))
    (paged_fails old now then page after p.front more p.sent (begins_first now then after more w))

refuses : (v : Verdict) (s new : State) (error : ApplyError) → Answers v s (Err error) new → Refuses error v
refuses IsBad s new BadEvent a = refl
refuses IsBad s new Limit a = absurd (cc (a.0))
refuses IsBad s new NoMemory a = absurd (cc (a.0))
refuses (Keeps o) s new error a = absurd (cc (a.0))
refuses IsLimited s new BadEvent a = absurd (cc (a.0))
refuses IsLimited s new Limit a = refl
refuses IsLimited s new NoMemory a = absurd (cc (a.0))
refuses (Moves o moved) s new BadEvent a = elim a [ inl x ↦ absurd (cc (x.0)) | inr x ↦ absurd (cc (x.0)) ]
refuses (Moves o moved) s new Limit a = elim a [ inl x ↦ absurd (cc (x.0)) | inr x ↦ absurd (cc (x.0)) ]
refuses (Moves o moved) s new NoMemory a = elim a [ inl x ↦ absurd (cc (x.0)) | inr x ↦ x.2 ]

pub refused_next : (names : List Named) (m : Strictness) (s : State) (events : List Event) (index : ℕ) (here new : State) (event : Event) (rest : List Event) (error : ApplyError) (old now then : Option (List ℕ)) (page after left : List ℕ) (answer : StreamError)
    → Told names m s events index here (event ∷ rest) old now page after → Answers (verdict here event) here (Err error) new
    → IsHandedOn now then after (errors.Refused index error) answer → IsTold names m s events old then page left (Err answer) new
refused_next names m s events index here new event rest error old now then page after left answer p a w = elim w [
  | inl out ↦ subst (λ (e : StreamError). IsTold names m s events old then page left (Err e) new) (sym out.0)
      (cut_at names m s events index here event rest old now then page after (Refuses error) p (refuses (verdict here event) here new error a) out.1)
  | inr lost ↦ subst (λ (e : StreamError). IsTold names m s events old then page left (Err e) new) (sym lost.1) (cut_off names m s events index here (event ∷ rest) old now then page after p lost.2)
]

is_strict : (m : Strictness) (before now : ℕ) → ends_at m before now ≡ true → m ≡ Strict
is_strict Lenient before now h = absurd (cc (h))
is_strict Strict before now h = refl

unchanged : (m : Strictness) (before now : ℕ) → ends_at m before now ≡ true → before ≡ now
unchanged Lenient before now h = absurd (cc (h))
unchanged Strict before now h = eqb-true before now h

keeps : (v : Verdict) (s new : State) (o : Outcome) → Answers v s (Ok o) new → ((p : Outcome) (moved : State) → v ≡ Moves p moved → moved.views.changes ≡ s.views.changes + 1) → s.views.changes ≡ new.views.changes → v ≡ Keeps o
keeps IsBad s new o a counted same = absurd (cc (a.0))
keeps (Keeps p) s new o a counted same = let q : p ≡ o = cc (a.0) in ap Keeps q
keeps IsLimited s new o a counted same = absurd (cc (a.0))
keeps (Moves p moved) s new o a counted same =
    elim a [ inl x ↦ (let more = counted p moved refl in let here = ap (λ (t : State). t.views.changes) x.1 in absurd (omega (arith, more, here, same))) | inr x ↦ absurd (cc (x.0)) ]

pub idle_next : ChangesAreCounted → (names : List Named) (m : Strictness) (s : State) (events : List Event) (index : ℕ) (here new : State) (event : Event) (rest : List Event) (o : Outcome) (old now then : Option (List ℕ)) (page after left : List ℕ) (answer : StreamError)
    → Told names m s events index here (event ∷ rest) old now page after → Answers (verdict here event) here (Ok o) new → ends_at m here.views.changes new.views.changes ≡ true
    → IsHandedOn now then after (errors.Idle index o) answer → IsTold names m s events old then page left (Err answer) new
idle_next counted names m s events index here new event rest o old now then page after left answer p a h w = elim w [
  | inl out ↦ subst (λ (e : StreamError). IsTold names m s events old then page left (Err e) new) (sym out.0) (
    is_strict m _ _ h,
    cut_at names m s events index here event rest old now then page after (λ v. v ≡ Keeps o) p (keeps (verdict here event) here new o a (counted here event) (unchanged m _ _ h)) out.1,
  )
  | inr lost ↦ subst (λ (e : StreamError). IsTold names m s events old then page left (Err e) new) (sym lost.1) (cut_off names m s events index here (event ∷ rest) old now then page after p lost.2)
]

-- whether a stream ends, by numbers that are a state's
pub ends_is : (m : Strictness) (before now : ℕ) (result wanted : Bool) (here new : State) → result ≡ ends_at m before now → result ≡ wanted → before ≡ here.views.changes → now ≡ new.views.changes → ends_at m here.views.changes new.views.changes ≡ wanted
ends_is m before now result wanted here new e w eb en = sym (e ∙ (ap (λ (n : ℕ). ends_at m n now) eb ∙ ap (ends_at m here.views.changes) en)) ∙ w
