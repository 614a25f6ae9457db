-- What comes of an event, by cases: the state stays, or one act changes it. And what each act keeps holds after every list of events.
use Rattle.std.proofs.Common.{ℕ, ◌+◌, ◌<◌, ◌≤◌, Bool, true, false, List, [], ◌∷◌, ◌≡◌, refl, sym, ap, length}
use Rattle.std.specs.Prelude.{if◌then◌else◌, ◌||◌, nat_le, nat_lt}
use Rattle.std.proofs.lemmas.Bool.{and_parts, leb-false, ltb-false, ltb-true}
use Rattle.machine_types.specs.declared.limits.TheConstants.{MAX_CHANGES, MAX_ENTRIES}
use Rattle.machine_model.specs.Changing.{acted, next_place, outcome_of_act}
use Rattle.machine_model.specs.Events.{Verdict, IsBad, Keeps, IsLimited, Moves, after_events, counted, entries_by, happens, hart_of, is_good, is_limited, names_well, plan_of, state_by, verdict, verdict_by}
use Rattle.machine_model.specs.Views.{State}
use Rattle.machine_model.specs.declared.act.Act.{Act}
use Rattle.machine_model.specs.declared.act.Plan.{Plan}
use Rattle.machine_model.specs.declared.act.Plan.TheVariants.{Stays, Changes}
use Rattle.machine_types.specs.declared.event.Event.{Event}
use Rattle.machine_types.specs.declared.outcome.Outcome.{Outcome}
use Rattle.machine_model.proofs.Plans.{Rests, act_rests}

-- ---- an event

-- the event changes the machine, by this act
pub record IsMove (s : State) (e : Event) (a : Act) : Type 0 where
  pub good : is_good s e ≡ true
  pub in_h : hart_of e < length s.views.nodes
  pub named : names_well s e ≡ true
  pub planned : plan_of s e ≡ Changes a
  pub free : is_limited s (hart_of e) a ≡ false
  pub rests : Rests s e a

abbrev pub after_act : State → Event → Act → State
after_act s e a = counted (acted (hart_of e) a s)

pub move_by : (s : State) (e : Event) (a : Act) → is_good s e ≡ true → plan_of s e ≡ Changes a → is_limited s (hart_of e) a ≡ false → IsMove s e a
move_by s e a good planned free =
    let p = and_parts (nat_lt (hart_of e) (length s.views.nodes)) (names_well s e) good in
    record { good = good; in_h = ltb-true (hart_of e) (length s.views.nodes) p.0; named = p.1; planned = planned; free = free; rests = act_rests s e a planned }

pub move_is : (s : State) (e : Event) (a : Act) → IsMove s e a → happens s e ≡ after_act s e a
move_is s e a m = rw (m.good, m.planned, m.free) refl

pub by_verdict : (P : Verdict → Type 0) (s : State) (e : Event) → P IsBad → ((o : Outcome) → P (Keeps o)) → P IsLimited → ((a : Act) → IsMove s e a → P (Moves (outcome_of_act s (hart_of e) a) (after_act s e a))) → P (verdict s e)
by_verdict P s e bad keeps limited moves = good (is_good s e) refl
  where
    free : (a : Act) → is_good s e ≡ true → plan_of s e ≡ Changes a → (t : Bool) → is_limited s (hart_of e) a ≡ t → P (if t then IsLimited else Moves (outcome_of_act s (hart_of e) a) (after_act s e a))
    free a g is true f = limited
    free a g is false f = moves a (move_by s e a g is f)

    planned : is_good s e ≡ true → (p : Plan) → plan_of s e ≡ p → P (verdict_by s (hart_of e) p)
    planned g (Stays o) is = keeps o
    planned g (Changes a) is = free a g is (is_limited s (hart_of e) a) refl

    good : (t : Bool) → is_good s e ≡ t → P (if t then verdict_by s (hart_of e) (plan_of s e) else IsBad)
    good true g = planned g (plan_of s e) refl
    good false g = bad

-- of the state alone
pub by_event : (P : State → Type 0) (s : State) (e : Event) → P s → ((a : Act) → IsMove s e a → P (after_act s e a)) → P (happens s e)
by_event P s e stays moves = by_verdict (λ v. P (state_by s v)) s e stays (λ o. stays) stays moves

-- the other way round: what moved the machine
pub record HasMoved (s : State) (e : Event) (o : Outcome) (new : State) : Type 0 where
  pub act : Act
  pub move : IsMove s e act
  pub outcome_is : outcome_of_act s (hart_of e) act ≡ o
  pub new_is : new ≡ after_act s e act

pub has_moved : (s : State) (e : Event) (o : Outcome) (new : State) → verdict s e ≡ Moves o new → HasMoved s e o new
has_moved s e o new =
    by_verdict (λ v. v ≡ Moves o new → HasMoved s e o new) s e (λ x. absurd (cc x)) (λ k x. absurd (cc x)) (λ x. absurd (cc x))
    (λ a m x. record { act = a; move = m; outcome_is = cc x; new_is = sym (ap (state_by s) x) })

-- the limits were tested
pub record IsUnlimited (s : State) (h : ℕ) (a : Act) : Type 0 where
  pub few_changes : s.views.changes < MAX_CHANGES
  pub few_entries : next_place s h + entries_by a ≤ MAX_ENTRIES

pub unlimited : (s : State) (h : ℕ) (a : Act) → is_limited s h a ≡ false → IsUnlimited s h a
unlimited s h a e = go (nat_le MAX_CHANGES s.views.changes) refl (nat_lt MAX_ENTRIES (next_place s h + entries_by a)) refl e
  where
    go : (t : Bool) → nat_le MAX_CHANGES s.views.changes ≡ t → (u : Bool) → nat_lt MAX_ENTRIES (next_place s h + entries_by a) ≡ u → t || u ≡ false → IsUnlimited s h a
    go true f u g e = cc e
    go false f true g e = cc e
    go false f false g e = record { few_changes = leb-false MAX_CHANGES s.views.changes f; few_entries = ltb-false MAX_ENTRIES (next_place s h + entries_by a) g }

-- ---- lists of events

-- `G` is known already of each state
module _ (G P : State → Type 0) (known : (s : State) (e : Event) → G s → G (happens s e)) (acts : (s : State) (e : Event) (a : Act) → IsMove s e a → G s → P s → P (after_act s e a)) where
  pub happens_keeps : (s : State) (e : Event) → G s → P s → P (happens s e)
  happens_keeps s e g p = by_event P s e p (λ a m. acts s e a m g p)

  pub events_keep : (events : List Event) (s : State) → G s → P s → P (after_events s events)
  events_keep [] s g p = p
  events_keep (e ∷ events) s g p = events_keep events (happens s e) (known s e g) (happens_keeps s e g p)

-- nothing need be known
abbrev pub Anything : State → Type 0
Anything s = Unit {0}
