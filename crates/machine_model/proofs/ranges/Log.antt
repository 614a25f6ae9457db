-- Each message of the log is of one of the harts and of a line of memory, and carries whole lines.
use Rattle.std.proofs.Common.{ℕ, ◌<◌, Bool, true, false, List, [], ◌∷◌, ◌++◌, ◌≡◌, Option, Some, None, refl, sym, subst, length}
use Rattle.std.specs.Prelude.{◌==◌, ◌&&◌, not, if◌then◌else◌}
use Rattle.std.specs.List.{AllByRecursion, cons_option}
use Rattle.std.proofs.lemmas.Bool.{eq-eqb, false≢true}
use Rattle.std.proofs.lemmas.List.{append-nil}
use Rattle.elf_loader.specs.Image.{Initial, IsImage}
use Rattle.machine_model.specs.Deliveries.{taken}
use Rattle.machine_model.specs.Events.{after_events, happens, hart_of, is_piece}
use Rattle.machine_model.specs.LawfulLog.{IsBeginningOf, is_on, is_sent, sent_on, taken_on}
use Rattle.machine_model.specs.Laws.{Always, KeepsImageAndConfig}
use Rattle.machine_model.specs.Ranges.{CarriesWhole, InRangeAlways, IsOfMachine}
use Rattle.machine_model.specs.Views.{State, line_size, no_node, node_at, opening}
use Rattle.machine_model.specs.declared.act.Act.{Act}
use Rattle.machine_model.specs.declared.act.Act.TheVariants as act
use Rattle.machine_types.specs.declared.config.Config.{Config}
use Rattle.machine_types.specs.declared.event.Event.{Event}
use Rattle.machine_model.proofs.Growth.{happens_follows}
use Rattle.machine_model.proofs.bytes.Always.{Joint, joint_always}
use Rattle.machine_model.proofs.log.Acts.{Delivers, acted_keeps, handled_keeps}
use Rattle.machine_model.proofs.log.Events.{in_order_always}
use Rattle.machine_model.proofs.log.Lists.{sent_on_taken, taken_on_sent}
use Rattle.machine_model.proofs.log.manager.Always.{governed_always}
use Rattle.machine_model.proofs.log.manager.Sums.{AreBelow}
use Rattle.machine_model.proofs.log.Fronts.{front_of_move}
use Rattle.machine_model.proofs.log.Queues.{IsInOrder, Quiet, taken_order}
use Rattle.machine_model.proofs.order.Whole.{performed_once_always}
use Rattle.machine_model.proofs.ranges.Lines.{queued}
use Rattle.machine_model.proofs.ranges.Runs.{named_in_range, runs_in_range}
use Rattle.machine_model.proofs.ready.Always.{after_one_more, sound_always}
use Rattle.machine_model.proofs.runs.Runs.{runs_always}
use Rattle.tilelink_channels.specs.Queues.{queue_of}
use Rattle.tl_types.specs.Line.{length_of}
use Rattle.tl_types.specs.Message.{channel_of}
use Rattle.tl_types.specs.declared.line.LineSize.{LineSize}
use Rattle.tl_types.specs.declared.message.Channel.{Channel}
use Rattle.tl_types.specs.declared.message.Channel.TheVariants.{A, B, C, D, E}
use Rattle.tl_types.specs.declared.message.Msg.{Msg}
use Rattle.trace_recorder.specs.declared.logged.Direction.{Direction}
use Rattle.trace_recorder.specs.declared.logged.Direction.TheVariants.{Sent, Taken}
use Rattle.trace_recorder.specs.declared.logged.Logged.{Logged}
use Rattle.machine_model.proofs.Events.{IsMove, by_event}

-- ---- what was taken had been sent before

-- what came out of each queue had gone in by the earlier moment
abbrev TakesFrom : State → State → Type 0
TakesFrom s t = (c : Channel) (k : ℕ) → IsBeginningOf (taken_on c k t.trace.log) (sent_on c k s.trace.log)

module _ (s : State) (i : IsInOrder s) where
  quiet : (a b : State) → Quiet a b → TakesFrom s a → TakesFrom s b
  quiet a b q p c k = subst (λ log. IsBeginningOf (taken_on c k log) (sent_on c k s.trace.log)) (sym q.log) (p c k)

  sends : (h : ℕ) (m : Msg) (a : State) → TakesFrom s a → (c : Channel) (k : ℕ) → IsBeginningOf (taken_on c k (a.trace.log ++ (record { direction = Sent; hart = h; message = m }) ∷ [])) (sent_on c k s.trace.log)
  sends h m a p c k = subst (λ xs. IsBeginningOf xs (sent_on c k s.trace.log)) (sym (taken_on_sent c k a.trace.log h m)) (p c k)

  nothing_new : TakesFrom s s
  nothing_new c k = i.moments s.trace.log [] (append-nil s.trace.log) c k

  takes : (h : ℕ) (m : Msg) (rest : List Msg) → h < length s.views.nodes → queue_of (node_at s h).queues (channel_of m) ≡ m ∷ rest → TakesFrom s (taken h m s)
  takes h m rest in_h front c k =
      let log = (taken h m s).trace.log in
      subst (IsBeginningOf (taken_on c k log)) (sent_on_taken c k s.trace.log h m) ((taken_order h m s i rest in_h front).moments log [] (append-nil log) c k)

  delivers : (e : Event) (a : Act) → IsMove s e a → Delivers (TakesFrom s) s (hart_of e) a
  delivers e (act.Deliver m) k =
      let h = hart_of e in
      let front = front_of_move s i e m k in
      handled_keeps (TakesFrom s) quiet (λ h m a is p. sends h m a p) (λ h m a. TakesFrom s a) (λ h m a b. quiet a b) (λ h m a p. p)
      (λ h line cap change bytes a p. sends h _ a p) (λ h line body a is p. sends h _ a p) (λ h line body a is p. sends h _ a p)
      h m.line m.body (taken h m s) (takes h m front.0 k.in_h front.1)
  delivers e _ k = tt

  happens_takes : (e : Event) → TakesFrom s (happens s e)
  happens_takes e = by_event (TakesFrom s) s e nothing_new (λ a k. acted_keeps (TakesFrom s) quiet (λ h m b is p. sends h m b p) (hart_of e) a s (delivers e a k) nothing_new)

-- ---- lists

all_append : {X : Type 0} (P : X → Type 0) (xs ys : List X) → AllByRecursion P xs → AllByRecursion P ys → AllByRecursion P (xs ++ ys)
all_append P [] ys p q = q
all_append P (x ∷ xs) ys p q = (p.0, all_append P xs ys p.1 q)

all_front : {X : Type 0} (P : X → Type 0) (xs ys : List X) → AllByRecursion P (xs ++ ys) → AllByRecursion P xs
all_front P [] ys p = tt
all_front P (x ∷ xs) ys p = (p.0, all_front P xs ys p.1)

-- ---- what was sent

abbrev IsGood : Initial → LineSize → Msg → Type 0
IsGood image size m = (is_piece image m.line (length_of size) ≡ true) × CarriesWhole size m.body

abbrev AllSent : State → Type 0
AllSent s = (c : Channel) (k : ℕ) → k < s.views.config.harts → AllByRecursion (IsGood s.trace.image (line_size s)) (sent_on c k s.trace.log)

-- one event more
more_sent : (s t : State) → Joint t → IsImage t.trace.image → IsInOrder t → length t.views.nodes ≡ t.views.config.harts → KeepsImageAndConfig s t → TakesFrom s t → AllSent s → AllSent t
more_sent s t j is i nodes stays takes all c k in_k =
    subst (AllByRecursion P) (i.waiting c k (no_node t) (subst (λ n. k < n) (sym nodes) in_k)) (all_append P (taken_on c k t.trace.log) (queue_of (node_at t k).queues c) before (queued t j is k c))
  where
    P : Msg → Type 0
    P = IsGood t.trace.image (line_size t)

    old : AllByRecursion P (sent_on c k s.trace.log)
    old = subst (λ (im : Initial). AllByRecursion (IsGood im (line_size t)) (sent_on c k s.trace.log)) (sym stays.image)
        (subst (λ (g : Config). AllByRecursion (IsGood s.trace.image g.line) (sent_on c k s.trace.log)) (sym stays.config) (all c k (subst (λ (g : Config). k < g.harts) stays.config in_k)))

    before : AllByRecursion P (taken_on c k t.trace.log)
    before = let p = takes c k in all_front P (taken_on c k t.trace.log) p.0 (subst (AllByRecursion P) (sym p.1) old)

module _ (image : Initial) (config : Config) (is : IsImage image) where
  abbrev at : List Event → State
  at events = after_events (opening image config) events

  step : (done : List Event) (e : Event) → AllSent (at done) → AllSent (at (done ++ e ∷ []))
  step done e all =
      let sound = sound_always image config (done ++ e ∷ []) is in
      let same : happens (at done) e ≡ at (done ++ e ∷ []) = sym (after_one_more done (opening image config) e) in
      more_sent (at done) (at (done ++ e ∷ [])) (joint_always image config (done ++ e ∷ []) is) sound.image (in_order_always image config (done ++ e ∷ []) is) sound.nodes
      (subst (KeepsImageAndConfig (at done)) same (happens_follows (at done) e).stays) (subst (TakesFrom (at done)) same (happens_takes (at done) (in_order_always image config done is) e)) all

  steps : (done rest : List Event) → AllSent (at done) → AllSent (after_events (at done) rest)
  steps done [] all = all
  steps done (e ∷ rest) all = subst (λ s. AllSent (after_events s rest)) (after_one_more done (opening image config) e) (steps (done ++ e ∷ []) rest (step done e all))

  all_sent : (events : List Event) → AllSent (at events)
  all_sent events = steps [] events (λ c k in_k. tt)

-- ---- the log

on_own : (c : Channel) → is_on c c ≡ true
on_own A = refl
on_own B = refl
on_own C = refl
on_own D = refl
on_own E = refl

module _ (P : Msg → Type 0) where
  abbrev chosen : Bool → Msg → Option Msg
  chosen b m = if b then Some m else None

  tail : (b : Bool) (m : Msg) (ms : List Msg) → AllByRecursion P (cons_option (chosen b m) ms) → AllByRecursion P ms
  tail true m ms all = all.1
  tail false m ms all = all

  head : (b : Bool) (m : Msg) (ms : List Msg) → b ≡ true → AllByRecursion P (cons_option (chosen b m) ms) → P m
  head true m ms e all = all.0
  head false m ms e all = absurd (false≢true e)

  in_log : (n : ℕ) (log : List Logged) → AreBelow n log → ((c : Channel) (k : ℕ) → k < n → AllByRecursion P (sent_on c k log)) → ((c : Channel) (k : ℕ) → k < n → AllByRecursion P (taken_on c k log)) → AllByRecursion (λ (e : Logged). (e.hart < n) × P e.message) log
  in_log n [] below sent taken = tt
  in_log n (e ∷ log) below sent taken = (
    (below.0, here e.direction refl),
    in_log n log below.1 (λ c k l. tail (is_sent e.direction && e.hart == k && is_on c (channel_of e.message)) e.message (sent_on c k log) (sent c k l))
        (λ c k l. tail (not (is_sent e.direction) && e.hart == k && is_on c (channel_of e.message)) e.message (taken_on c k log) (taken c k l)),
  )
    where
      own : Channel
      own = channel_of e.message

      here : (d : Direction) → e.direction ≡ d → P e.message
      here Sent is = head (is_sent e.direction && e.hart == e.hart && is_on own own) e.message (sent_on own e.hart log) (rw (is, eq-eqb e.hart e.hart refl, on_own own) refl) (sent own e.hart below.0)
      here Taken is = head (not (is_sent e.direction) && e.hart == e.hart && is_on own own) e.message (taken_on own e.hart log) (rw (is, eq-eqb e.hart e.hart refl, on_own own) refl) (taken own e.hart below.0)

as_entries : (s : State) (log : List Logged) → AllByRecursion (λ (e : Logged). (e.hart < s.views.config.harts) × IsGood s.trace.image (line_size s) e.message) log → AllByRecursion (IsOfMachine s) log
as_entries s [] all = tt
as_entries s (e ∷ log) all = (record { hart = all.0.0; line = all.0.1.0; body = all.0.1.1 }, as_entries s log all.1)

log_of_machine : Always (λ image config s. AllByRecursion (IsOfMachine s) s.trace.log)
log_of_machine image config events is = as_entries s s.trace.log (in_log good s.views.config.harts s.trace.log (governed_always image config events is).below sent (λ c k l. let p = nothing_new s (in_order_always image config events is) c k in all_front good (taken_on c k s.trace.log) p.0 (subst (AllByRecursion good) (sym p.1) (sent c k l))))
  where
    s : State
    s = after_events (opening image config) events

    good : Msg → Type 0
    good = IsGood s.trace.image (line_size s)

    sent : AllSent s
    sent = all_sent image config is events

pub in_range_always : InRangeAlways
in_range_always image config events is =
    let s = after_events (opening image config) events in
    let runs = runs_always image config events is in
    let sound = sound_always image config events is in
    let listed = runs_in_range s.trace.image (length s.trace.entries) 0 s.trace.entries s.trace.statuses sound.image runs.runs in
    record { entries = listed.0; statuses = listed.1; performed = named_in_range s.trace s.trace.performed (performed_once_always image config events is).operations; log = log_of_machine image config events is }
