-- What stands once an event is decided under the limits.
use Rattle.std.proofs.Common.{◌≡◌, ◌≢◌, ◌∙◌, ◌+◌, ◌%◌, ◌<◌, ◌≤◌, length, refl, sym, ap, subst, ℕ, Bool, true, false, Ok, Err, inl, inr}
use Rattle.std.proofs.lemmas.Bool.{and_parts, ltb-false, ltb-true, or_parts}
use Rattle.std.specs.Prelude.{◌==◌, if◌then◌else◌, IsTrue, nat_le, nat_lt}
use Rattle.std.specs.declared.result.Result.{Result}
use Rattle.std.specs.Result.{IsErrAnd}
use Rattle.machine_types.specs.declared.limits.TheConstants.{MAX_CHANGES, MAX_ENTRIES}
use Rattle.machine_model.specs.declared.act.Act.{Act}
use Rattle.machine_model.specs.declared.act.Plan.{Plan}
use Rattle.machine_model.specs.declared.act.Plan.TheVariants.{Stays, Changes}
use Rattle.machine_types.specs.declared.event.Event.{Event}
use Rattle.machine_types.specs.declared.outcome.Outcome.{Outcome}
use Rattle.machine_model.specs.declared.act.Act.TheVariants as act
use Rattle.machine_types.specs.declared.outcome.Outcome.TheVariants.{Stopped}
use Rattle.machine_model.specs.Changing.{acted, outcome_by, outcome_of_act, next_place}
use Rattle.machine_model.specs.Events.{Verdict, counted, entries_by, hart_of, is_good, is_limited, names_well, plan_of, verdict, verdict_by}
use Rattle.machine_model.specs.Events.Verdict.{IsBad, Keeps, IsLimited, Moves}
use Rattle.machine_model.specs.Ready.{AreReady, IsReady}
use Rattle.machine_model.proofs.Plans.{IsReady as IsFound, Rests, act_rests}
use Rattle.machine_model.specs.Views.{State, node_at}
use Rattle.machine_parts.specs.Applying.{Answers, answer_to, decided, decided_by}
use Rattle.machine_parts.specs.Unstalled.{IsAnswered, IsGivenUp, IsHandled, IsUnstalled, IsUnstalledBody}
use Rattle.tl_types.specs.declared.message.Body.{Body}
use Rattle.tl_types.specs.declared.message.Body.TheVariants.{AcquireBlock, ProbeBlock, ProbeAck, ProbeAckData, Release, ReleaseData, Grant, GrantData, ReleaseAck, GrantAck}
use Rattle.hart.specs.declared.status.Status.{Status}
use Rattle.hart.specs.declared.status.Status.TheVariants.{Exited, Running}
use Rattle.hart.specs.Run.{status_after}
use Rattle.hart.specs.Meaning.{Access, Private, Loads, Stores, DoesLr, DoesSc, DoesAmo, Fences, Calls, access_of}
use Rattle.machine_parts.specs.declared.errors.ApplyError.{ApplyError}
use Rattle.machine_parts.specs.declared.errors.ApplyError.TheVariants.{BadEvent, Limit, NoMemory}

-- the hart that a good event names is there
pub hart_there : (s : State) (e : Event) (h : ℕ) → h ≡ hart_of e → IsTrue (is_good s e) → h < length s.views.nodes
hart_there s e h own good =
    let count = length s.views.nodes in
    subst (λ (k : ℕ). k < count) (sym own) (ltb-true (hart_of e) count (and_parts (nat_lt (hart_of e) count) (names_well s e) good).0)

-- the event is good, this is its plan, and no limit stands against its act
pub record IsDecided (s : State) (e : Event) (a : Act) : Type 0 where
  pub good : is_good s e ≡ true
  pub plan : plan_of s e ≡ Changes a
  pub fits : is_limited s (hart_of e) a ≡ false

-- ---- an act

acts_by_limit : (s : State) (h : ℕ) (x a : Act) (b : Bool) → is_limited s h x ≡ b → (if b then Err Limit else Ok (Changes x)) ≡ Ok (Changes a) → (Changes x ≡ Changes a) × (is_limited s h a ≡ false)
acts_by_limit s h x a true limit is = absurd (cc (is))
acts_by_limit s h x a false limit is =
    let same : x ≡ a = cc is in
    (ap Changes same, subst (λ (y : Act). is_limited s h y ≡ false) same limit)

acts_by_plan : (s : State) (h : ℕ) (q : Plan) (a : Act) → decided_by s h q ≡ Ok (Changes a) → (q ≡ Changes a) × (is_limited s h a ≡ false)
acts_by_plan s h (Stays o) a is = absurd (cc (is))
acts_by_plan s h (Changes x) a is = acts_by_limit s h x a (is_limited s h x) refl is

acts_by_good : (s : State) (h : ℕ) (q : Plan) (a : Act) (b : Bool) → (if b then decided_by s h q else Err BadEvent) ≡ Ok (Changes a) → (b ≡ true) × ((q ≡ Changes a) × (is_limited s h a ≡ false))
acts_by_good s h q a true is = (refl, acts_by_plan s h q a is)
acts_by_good s h q a false is = absurd (cc (is))

pub acts : (s : State) (e : Event) (a : Act) → decided s e ≡ Ok (Changes a) → IsDecided s e a
acts s e a is =
    let found = acts_by_good s (hart_of e) (plan_of s e) a (is_good s e) is in
    record { good = found.0; plan = found.1.0; fits = found.1.1 }

-- so its hart is there
pub there : (s : State) (h : ℕ) (e : Event) (a : Act) → h ≡ hart_of e → decided s e ≡ Ok (Changes a) → h < length s.views.nodes
there s h e a own is = hart_there s e h own (acts s e a is).good

-- it is ready, and has room in its hart's list
pub ready : (s : State) (h : ℕ) (e : Event) (a : Act) → h ≡ hart_of e → AreReady s → decided s e ≡ Ok (Changes a) → IsReady h a s
ready s h e a own all is =
    let found = acts s e a is in
    subst (λ (k : ℕ). IsReady k a s) (sym own) (all e a found.good found.plan found.fits)

pub in_list : (s : State) (h : ℕ) (e : Event) (a : Act) → h ≡ hart_of e → decided s e ≡ Ok (Changes a) → next_place s h + entries_by a ≤ MAX_ENTRIES
in_list s h e a own is =
    let limits = or_parts (nat_le MAX_CHANGES s.views.changes) (nat_lt MAX_ENTRIES (next_place s (hart_of e) + entries_by a)) (acts s e a is).fits in
    subst (λ (k : ℕ). next_place s k + entries_by a ≤ MAX_ENTRIES) (sym own) (ltb-false MAX_ENTRIES (next_place s (hart_of e) + entries_by a) limits.1)

-- nothing stands in its way
unstalled_body : (s : State) (h line : ℕ) (b : Body) → IsFound s h line b → IsUnstalledBody h line b s
unstalled_body s h line (AcquireBlock grow) f = subst IsHandled (sym f.1) tt
unstalled_body s h line (ProbeBlock cap) f = subst IsAnswered (sym f.2) tt
unstalled_body s h line (ProbeAck change) f = tt
unstalled_body s h line (ProbeAckData change bytes) f = tt
unstalled_body s h line (Release change) f = tt
unstalled_body s h line (ReleaseData change bytes) f = tt
unstalled_body s h line (Grant cap) f = tt
unstalled_body s h line (GrantData cap bytes) f = tt
unstalled_body s h line ReleaseAck f = tt
unstalled_body s h line GrantAck f = tt

unstalled_act : (s : State) (e : Event) (a : Act) → Rests s e a → IsUnstalled (hart_of e) a s
unstalled_act s e (act.Stop code) r = tt
unstalled_act s e (act.Retire entry i d) r = tt
unstalled_act s e (act.Miss line grow) r = tt
unstalled_act s e (act.Drain word) r = tt
unstalled_act s e (act.Evict line) r = subst IsGivenUp (sym r.1.2) tt
unstalled_act s e (act.Deliver m) r = unstalled_body s (hart_of e) m.line m.body r.2.ready
unstalled_act s e (act.Local count) r = tt

pub unstalled : (s : State) (h : ℕ) (e : Event) (a : Act) → h ≡ hart_of e → decided s e ≡ Ok (Changes a) → IsUnstalled h a s
unstalled s h e a own is = subst (λ (k : ℕ). IsUnstalled k a s) (sym own) (unstalled_act s e a (act_rests s e a (acts s e a is).plan))

-- ---- the verdict

moves_by_good : (s : State) (h : ℕ) (q : Plan) (a : Act) (b : Bool) → b ≡ true → q ≡ Changes a → is_limited s h a ≡ false
    → (if b then verdict_by s h q else IsBad) ≡ Moves (outcome_of_act s h a) (counted (acted h a s))
moves_by_good s h (Stays o) a b good plan fits = absurd (cc (plan))
moves_by_good s h (Changes x) a false good plan fits = absurd (cc (good))
moves_by_good s h (Changes x) a true good plan fits =
    let same : x ≡ a = cc plan in
    ap (λ (y : Act). verdict_by s h (Changes y)) same
    ∙ ap (λ (b : Bool). if b then IsLimited else Moves (outcome_of_act s h a) (counted (acted h a s))) fits

pub moves : (s : State) (e : Event) (a : Act) → decided s e ≡ Ok (Changes a) → verdict s e ≡ Moves (outcome_of_act s (hart_of e) a) (counted (acted (hart_of e) a s))
moves s e a is =
    let found = acts s e a is in
    moves_by_good s (hart_of e) (plan_of s e) a (is_good s e) found.good found.plan found.fits

keeps_by_limit : (s : State) (h : ℕ) (x : Act) (o : Outcome) (b : Bool) (v : Verdict) → (if b then Err Limit else Ok (Changes x)) ≡ Ok (Stays o) → (if b then IsLimited else v) ≡ Keeps o
keeps_by_limit s h x o true v is = absurd (cc (is))
keeps_by_limit s h x o false v is = absurd (cc (is))

keeps_by_plan : (s : State) (h : ℕ) (q : Plan) (o : Outcome) → decided_by s h q ≡ Ok (Stays o) → verdict_by s h q ≡ Keeps o
keeps_by_plan s h (Stays p) o is = ap Keeps (cc (is))
keeps_by_plan s h (Changes x) o is = keeps_by_limit s h x o (is_limited s h x) _ is

keeps_by_good : (s : State) (h : ℕ) (q : Plan) (o : Outcome) (b : Bool) → (if b then decided_by s h q else Err BadEvent) ≡ Ok (Stays o) → (if b then verdict_by s h q else IsBad) ≡ Keeps o
keeps_by_good s h q o true is = keeps_by_plan s h q o is
keeps_by_good s h q o false is = absurd (cc (is))

pub keeps : (s : State) (e : Event) (o : Outcome) → decided s e ≡ Ok (Stays o) → verdict s e ≡ Keeps o
keeps s e o is = keeps_by_good s (hart_of e) (plan_of s e) o (is_good s e) is

refused_by_limit : (x : Act) (error : ApplyError) (b : Bool) (o : Outcome) (new : State) → (if b then Err Limit else Ok (Changes x)) ≡ Err error → answer_to (if b then IsLimited else Moves o new) ≡ Err error
refused_by_limit x error true o new is = ap Err (cc (is))
refused_by_limit x error false o new is = absurd (cc (is))

refused_by_plan : (s : State) (h : ℕ) (q : Plan) (error : ApplyError) → decided_by s h q ≡ Err error → answer_to (verdict_by s h q) ≡ Err error
refused_by_plan s h (Stays o) error is = absurd (cc (is))
refused_by_plan s h (Changes x) error is = refused_by_limit x error (is_limited s h x) (outcome_of_act s h x) (counted (acted h x s)) is

refused_by_good : (s : State) (h : ℕ) (q : Plan) (error : ApplyError) (b : Bool) → (if b then decided_by s h q else Err BadEvent) ≡ Err error → answer_to (if b then verdict_by s h q else IsBad) ≡ Err error
refused_by_good s h q error true is = refused_by_plan s h q error is
refused_by_good s h q error false is = ap Err (cc (is))

pub refused : (s : State) (e : Event) (error : ApplyError) → decided s e ≡ Err error → answer_to (verdict s e) ≡ Err error
refused s e error is = refused_by_good s (hart_of e) (plan_of s e) error (is_good s e) is

answers_by : (v : Verdict) (s : State) (error : ApplyError) → answer_to v ≡ Err error → Answers v s (Err error) s
answers_by IsBad s error is = (sym is, refl)
answers_by (Keeps o) s error is = absurd (cc (is))
answers_by IsLimited s error is = (sym is, refl)
answers_by (Moves o new) s error is = absurd (cc (is))

pub answers_kept : (s : State) (e : Event) (o : Outcome) → decided s e ≡ Ok (Stays o) → Answers (verdict s e) s (Ok o) s
answers_kept s e o is = subst (λ (v : Verdict). Answers v s (Ok o) s) (sym (keeps s e o is)) (refl, refl)

pub answers_refused : (s : State) (e : Event) (error : ApplyError) → decided s e ≡ Err error → Answers (verdict s e) s (Err error) s
answers_refused s e error is = answers_by (verdict s e) s error (refused s e error is)

-- only a stop leaves its hart stopped
abbrev status_after_by : Bool → ℕ → Status
status_after_by b argument = if b then Exited (argument % 256) else Running

calls_stop_none : (b : Bool) (argument code : ℕ) → outcome_by (status_after_by b argument) ≢ Stopped code
calls_stop_none true argument code is = cc
calls_stop_none false argument code is = cc

accesses_stop_none : (a : Access) (code : ℕ) → outcome_by (status_after a) ≢ Stopped code
accesses_stop_none Private code is = cc
accesses_stop_none (Loads address bytes) code is = cc
accesses_stop_none (Stores address bytes value) code is = cc
accesses_stop_none (DoesLr address) code is = cc
accesses_stop_none (DoesSc address value) code is = cc
accesses_stop_none (DoesAmo address op operand) code is = cc
accesses_stop_none Fences code is = cc
accesses_stop_none (Calls number argument) code is = calls_stop_none (number == 0) argument code is

pub stops_alone : (s : State) (h : ℕ) (a : Act) → ((code : ℕ) → a ≢ act.Stop code) → (code : ℕ) → outcome_of_act s h a ≢ Stopped code
stops_alone s h (act.Stop number) other code is = other number refl
stops_alone s h (act.Retire entry i d) other code is = accesses_stop_none (access_of i (node_at s h).hart.regs) code is
stops_alone s h (act.Miss line grow) other code is = cc
stops_alone s h (act.Drain word) other code is = cc
stops_alone s h (act.Evict line) other code is = cc
stops_alone s h (act.Deliver m) other code is = cc
stops_alone s h (act.Local count) other code is = cc

-- what is answered to an act
wants_memory : (result : Result Outcome ApplyError) → IsErrAnd result (λ error. error ≡ NoMemory) → result ≡ Err NoMemory
wants_memory (Ok o) is = absurd is
wants_memory (Err error) is = ap Err is

pub answers_moved : (s new : State) (h : ℕ) (e : Event) (a : Act) (o : Outcome) (result : Result Outcome ApplyError) → h ≡ hart_of e → decided s e ≡ Ok (Changes a) → o ≡ outcome_of_act s h a
    → result ≡ Ok o → new ≡ counted (acted h a s) → Answers (verdict s e) s result new
answers_moved s new h e a o result own is out answer moved =
    let going : verdict s e ≡ Moves (outcome_of_act s h a) (counted (acted h a s)) = moves s e a is ∙ ap (λ (k : ℕ). Moves (outcome_of_act s k a) (counted (acted k a s))) (sym own) in
    subst (λ (v : Verdict). Answers v s result new) (sym going) (inl (answer ∙ ap Ok out, moved))

pub answers_wanting : (s new : State) (h : ℕ) (e : Event) (a : Act) (result : Result Outcome ApplyError) → h ≡ hart_of e → decided s e ≡ Ok (Changes a)
    → IsErrAnd result (λ error. error ≡ NoMemory) → new ≡ s → ((code : ℕ) → a ≢ act.Stop code) → Answers (verdict s e) s result new
answers_wanting s new h e a result own is answer same other =
    let going : verdict s e ≡ Moves (outcome_of_act s h a) (counted (acted h a s)) = moves s e a is ∙ ap (λ (k : ℕ). Moves (outcome_of_act s k a) (counted (acted k a s))) (sym own) in
    subst (λ (v : Verdict). Answers v s result new) (sym going) (inr (wants_memory result answer, same, stops_alone s h a other))
