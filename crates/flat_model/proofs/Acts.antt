-- What an event of a machine changes, flat events show.
use Rattle.std.proofs.Common.{◌≡◌, ℕ, ◌+◌, ◌%◌, ◌<◌, List, [], ◌∷◌, Bool, true, false, Option, Some, None, refl, sym, ap, ◌∙◌, subst, cond, not, inl, inr, arith, length}
use Rattle.std.specs.Prelude.{nat_eq, nat_le, slice_index}
use Rattle.std.proofs.lemmas.Bool.{eqb-true, lt-ltb}
use Rattle.std.proofs.lemmas.List.{length-set}
use Rattle.machine_types.specs.declared.limits.TheConstants.{TRACKERS}
use Rattle.client_cache.specs.Cache.{evicted, probed}
use Rattle.client_cache.specs.declared.answers.Evict.{Evict}
use Rattle.client_cache.specs.declared.answers.Evict.TheVariants as evict
use Rattle.client_cache.specs.declared.answers.Probed.{Probed}
use Rattle.client_cache.specs.declared.answers.Probed.TheVariants as probe
use Rattle.client_cache.specs.declared.held.Held.TheVariants.{Trunk}
use Rattle.machine_model.specs.Directory.{acquired}
use Rattle.machine_model.specs.Acquired.{Acquired}
use Rattle.machine_model.specs.AcquiredVariants.{Handled, Busy}
use Rattle.machine_model.specs.Image.{Initial, byte_at as image_byte}
use Rattle.flat_model.specs.Changing as flat
use Rattle.flat_model.specs.Changing.{accessed}
use Rattle.flat_model.specs.declared.event.FlatEvent.{FlatEvent}
use Rattle.flat_model.specs.declared.event.FlatEvent.TheVariants as flat_event
use Rattle.flat_model.specs.Events as flat_events
use Rattle.flat_model.specs.Events.{flat_by}
use Rattle.flat_model.specs.Flat as of_flat
use Rattle.flat_model.specs.Flat.{Flat, FlatNode, with_word}
use Rattle.flat_model.specs.Shown.{HoldsPerformed, IsShownBy, Shows}
use Rattle.flat_model.specs.Steps as flat_steps
use Rattle.flat_model.specs.Steps.{FlatPlan, Stops, Retires, Drains}
use Rattle.flat_model.proofs.Accesses.{outlasts, reserved_line}
use Rattle.flat_model.proofs.Local.{local_memory, local_sees, steps_of}
use Rattle.flat_model.proofs.Memory.{InMemory, Wrote, WritesIn, copied_word, deed_holds, holds_still, holds_wrote, marked_or, memory_by, reads_memory}
use Rattle.flat_model.proofs.OneWay.{AloneIn}
use Rattle.flat_model.proofs.Plans.{Alike, Follows, FollowsDrain, HasLine, HasLines, drain_follows, seen, step_follows}
use Rattle.flat_model.proofs.Quiet.{delivered_sees, given_up_sees, missed_sees}
use Rattle.flat_model.proofs.Sees.{Outlasts, Sees, accessed_count, same_place, sees_accessed, sees_does, sees_drained, sees_retired, sees_stopped}
use Rattle.hart.specs.declared.retired.Retired.{Retired}
use Rattle.hart.specs.declared.state.Hart.{Hart}
use Rattle.hart.specs.Local.{private_row}
use Rattle.hart.specs.Run.{is_running}
use Rattle.machine_model.specs.declared.act.Act.TheVariants as act
use Rattle.machine_model.specs.declared.act.Deed.{Deed}
use Rattle.machine_model.specs.declared.act.Deed.TheVariants as deed
use Rattle.machine_model.specs.declared.act.Plan.{Plan}
use Rattle.machine_model.specs.declared.act.Plan.TheVariants.{Stays, Changes}
use Rattle.machine_types.specs.declared.config.Config.{Config}
use Rattle.machine_types.specs.declared.event.Event.{Event}
use Rattle.machine_types.specs.declared.event.Event.TheVariants as event
use Rattle.machine_types.specs.declared.outcome.Outcome.TheVariants as outcome
use Rattle.machine_model.specs.Changing.{acted, does, drained, next_place, went_alone}
use Rattle.machine_model.specs.Coherent.{IsCoherent}
use Rattle.machine_model.specs.Deliveries.{plan_body, plan_front, unless_acks_full, unless_busy, unless_releasing}
use Rattle.machine_model.specs.Events.{evict_by, hart_of, names_well, plan_of}
use Rattle.machine_model.specs.Laws.{ReservedIsTrunk}
use Rattle.machine_model.specs.Ready.{shape_of}
use Rattle.machine_model.specs.Steps.{Fetched}
use Rattle.machine_model.specs.Views.{Node, State, line_size, node_at, place_of}
use Rattle.machine_model.proofs.bytes.Always.{Joint}
use Rattle.machine_model.proofs.coherence.LinePlaces.{piece}
use Rattle.machine_model.proofs.order.Acts.{alone_grown, retired_known, retired_trace}
use Rattle.machine_model.proofs.order.Buffers as buffers
use Rattle.machine_model.proofs.order.Buffers.{KeepsBuffers}
use Rattle.machine_model.proofs.order.Deeds.{Facts, FitsDeed}
use Rattle.machine_model.proofs.order.Events.{IsFitPlan, plan_fit}
use Rattle.machine_model.proofs.order.Last.{drained_elsewhere, drained_last, retired_last}
use Rattle.machine_model.proofs.order.Moves.{OrderKept, done_same, drained_moves}
use Rattle.machine_model.proofs.order.Traces.{done, operations_on}
use Rattle.machine_model.proofs.runs.Runs.{AllStand}
use Rattle.machine_types.specs.declared.model.MemoryModel.{MemoryModel}
use Rattle.machine_model.specs.Order.{last_write}
use Rattle.machine_model.specs.Traces.{instructions, last_performed, operations_at}
use Rattle.machine_model.specs.Reservation.{is_valid}
use Rattle.rv32_decode.specs.declared.instruction.Instr.{Instr}
use Rattle.hart.specs.Meaning.{Access, DoesSc, DoesAmo, access_of}
use Rattle.store_buffer.specs.ByteMask.{is_marked}
use Rattle.store_buffer.specs.Entry.{entry_of}
use Rattle.store_buffer.specs.Groups.{Groups, oldest}
use Rattle.machine_model.specs.Queues.{front_of, queue_of}
use Rattle.tl_types.specs.declared.message.Body.{Body}
use Rattle.tl_types.specs.declared.message.Body.TheVariants.{AcquireBlock, ProbeBlock, ProbeAck, ProbeAckData, Release, ReleaseData, Grant, GrantData, ReleaseAck, GrantAck}
use Rattle.tl_types.specs.declared.message.Msg.{Msg}
use Rattle.machine_model.specs.History.{History}

-- what holds of a machine's state
pub record Base (s : State) : Type 0 where
  pub stand : AllStand s
  pub order : OrderKept s
  pub joint : Joint s
  pub coherent : IsCoherent s
  pub trunk : ReservedIsTrunk s
  pub shapes : (h : ℕ) → (node_at s h).cache.shape ≡ shape_of s
  pub alone : AloneIn s

-- flat events that show a state
pub record Reaches (f : Flat) (t : State) : Type 0 where
  pub events : List FlatEvent
  pub shows : Shows t (flat_events.after_events f events)

pub reaches_not : (f : Flat) (s : State) → Shows s f → Reaches f s
reaches_not f s v = record { events = []; shows = v }

sees : (s : State) (f : Flat) → Shows s f → Sees s f
sees s f v = record { config = v.config; count = v.count; nodes = v.nodes; trace = v.trace }

shows : (s : State) (f : Flat) → Sees s f → HoldsPerformed s.trace f.memory → Shows s f
shows s f v k = record { config = v.config; count = v.count; nodes = v.nodes; memory = k; trace = v.trace }

-- ---- nothing is performed that writes

same_last : (old new : History) (x : ℕ) → new.image ≡ old.image → done new ≡ done old → last_performed new x ≡ last_performed old x
same_last old new x i d = ap (λ (im : Initial). last_write (image_byte im) (done new) x) i ∙ ap (λ xs. last_write (image_byte old.image) xs x) d

holds_quiet : (s t : State) (memory : List ℕ) → KeepsBuffers s t → HoldsPerformed s.trace memory → HoldsPerformed t.trace memory
holds_quiet s t memory k h = holds_still s.trace t.trace memory k.image (λ x. same_last s.trace t.trace x k.image (done_same s.trace t.trace k.image k.entries k.performed)) h

-- ---- flat events

happens_by : (f : Flat) (e : FlatEvent) (p : FlatPlan) → flat_events.hart_of e < length f.nodes → flat_events.plan_of f e ≡ p → flat_events.happens f e ≡ flat_by f (flat_events.verdict_by f (flat_events.hart_of e) p)
happens_by f e p l is =
    ap (λ (b : Bool). flat_by f (cond b (flat_events.verdict_by f (flat_events.hart_of e) (flat_events.plan_of f e)) flat_events.IsBad)) (lt-ltb (flat_events.hart_of e) (length f.nodes) l)
    ∙ ap (λ q. flat_by f (flat_events.verdict_by f (flat_events.hart_of e) q)) is

one_event : (f : Flat) (e : FlatEvent) (t : State) (g : Flat) → flat_events.happens f e ≡ g → Shows t g → Reaches f t
one_event f e t g is v = record { events = e ∷ []; shows = subst (Shows t) (sym is) v }

accessed_memory : (h : ℕ) (o : Option ℕ) (f : Flat) → (accessed h o f).memory ≡ f.memory
accessed_memory h None f = refl
accessed_memory h (Some a) f = refl

does_memory : (model : MemoryModel) (h : ℕ) (d : Deed) (f : Flat) → (flat.does model h d f).memory ≡ memory_by d f.memory
does_memory model h deed.Private f = refl
does_memory model h (deed.Output n) f = refl
does_memory model h deed.Load f = refl
does_memory model h (deed.Store s) f = refl
does_memory model h deed.Seal f = refl
does_memory model h (deed.Lr word) f = refl
does_memory model h deed.Fail f = refl
does_memory model h (deed.Sc word value) f = refl
does_memory model h (deed.Amo word value) f = refl

-- how many nodes stay
does_count : (model : MemoryModel) (h : ℕ) (d : Deed) (f : Flat) → length (flat.does model h d f).nodes ≡ length f.nodes
does_count model h deed.Private f = refl
does_count model h (deed.Output n) f = length-set f.nodes h _
does_count model h deed.Load f = refl
does_count model h (deed.Store s) f = length-set f.nodes h _
does_count model h deed.Seal f = length-set f.nodes h _
does_count model h (deed.Lr word) f = length-set f.nodes h _
does_count model h deed.Fail f = length-set f.nodes h _
does_count model h (deed.Sc word value) f = length-set f.nodes h _
does_count model h (deed.Amo word value) f = refl

performs_memory : (h : ℕ) (places : List ℕ) (f : Flat) → (flat.performs h places f).memory ≡ f.memory
performs_memory h [] f = refl
performs_memory h (place ∷ places) f = performs_memory h places _

-- a flat node is the machine's, but for its reservation
seen_is : (n : Node) (m : FlatNode) → IsShownBy n m → m ≡ seen n m.reserved
seen_is n m i = go m.hart m.output m.reserved m.buffer i.hart i.output i.buffer
  where
    go : (hart : Hart) (output : List ℕ) (reserved : Option ℕ) (buffer : Groups) → hart ≡ n.hart → output ≡ n.output → buffer ≡ n.buffer → record { hart = hart; output = output; reserved = reserved; buffer = buffer } ≡ seen n reserved
    go hart output reserved buffer a b c = rw (a, b, c) refl

-- ---- one machine and its flat one

module _ (s : State) (f : Flat) (is : Base s) (v : Shows s f) (h : ℕ) (in_h : h < length s.views.nodes) where
  abbrev n : Node
  n = node_at s h

  abbrev r : Option ℕ
  r = (of_flat.node_at f h).reserved

  abbrev Goal : Plan → Type 0
  Goal (Stays o) = Unit {0}
  Goal (Changes a) = Reaches f (acted h a s)

  l : h < s.views.config.harts
  l = subst (λ c. h < c) is.stand.nodes in_h

  in_f : h < length f.nodes
  in_f = subst (λ c. h < c) (sym v.count) in_h

  alike : Alike n r f.memory
  alike = record {
    reads = λ address held e. reads_memory s is.joint is.coherent f.memory v.memory h address held l e;
    reserved = (v.nodes h in_h).reserved;
    holds = reserved_line s is.coherent is.trunk is.shapes is.alone h;
  }

  access_sees : (o : Option ℕ) → HasLines n o → Sees s (accessed h o f)
  access_sees o x = sees_accessed h o s f (subst (λ (c : Config). Outlasts s c h o) (sym v.config) (outlasts s is.coherent is.trunk is.shapes is.alone h o x)) (sees s f v)

  image_is : f.trace.image ≡ s.trace.image
  image_is = ap (λ (t : History). t.image) v.trace

  -- ---- quiet acts

  quiet : (t : State) → KeepsBuffers s t → Sees t f → Reaches f t
  quiet t k w = reaches_not f t (shows t f w (holds_quiet s t f.memory k v.memory))

  -- ---- a step

  follows : Follows n (flat_events.plan_of f (flat_event.Step h)) (flat_events.plan_of f (flat_event.Fail h)) (plan_of s (event.Step h))
  follows =
      let model = s.views.config.model in
      let image = s.trace.image in
      let place = next_place s h in
      let same : of_flat.node_at f h ≡ seen n r = seen_is n (of_flat.node_at f h) (v.nodes h in_h) in
      let step : flat_events.plan_of f (flat_event.Step h) ≡ flat_steps.plan_step model image f.memory (seen n r) place =
      ap (λ (c : Config). flat_steps.plan_step c.model f.trace.image f.memory (of_flat.node_at f h) (flat.next_place f h)) v.config
      ∙ (ap (λ i. flat_steps.plan_step model i f.memory (of_flat.node_at f h) (flat.next_place f h)) image_is
      ∙ (ap (λ m. flat_steps.plan_step model image f.memory m (flat.next_place f h)) same
      ∙ ap (flat_steps.plan_step model image f.memory (seen n r)) (same_place h s f (sees s f v)))) in
      let fail : flat_events.plan_of f (flat_event.Fail h) ≡ flat_steps.plan_fail image (seen n r) place =
      ap (λ i. flat_steps.plan_fail i (of_flat.node_at f h) (flat.next_place f h)) image_is
      ∙ (ap (λ m. flat_steps.plan_fail image m (flat.next_place f h)) same
      ∙ ap (flat_steps.plan_fail image (seen n r)) (same_place h s f (sees s f v))) in
      subst (λ p. Follows n p (flat_events.plan_of f (flat_event.Fail h)) (plan_of s (event.Step h))) (sym step)
      (subst (λ q. Follows n (flat_steps.plan_step model image f.memory (seen n r) place) q (plan_of s (event.Step h))) (sym fail)
      (step_follows model image n r f.memory alike place))

  -- the word that a deed writes lies in memory
  line_inside : (word : ℕ) → word % 4 ≡ 0 → HasLine n word → InMemory s.trace.image word
  line_inside word aligned x = subst (InMemory s.trace.image) (omega (arith, aligned)) (copied_word s is.joint h word x.0 x.1)

  valid_is : (word : ℕ) (o : Option ℕ) → is_valid word o ≡ true → o ≡ Some word
  valid_is word None e = absurd cc
  valid_is word (Some other) e = ap Some (eqb-true other word e)

  writes_in : (model : MemoryModel) (g : Fetched) (e : Retired) (a : Access) (d : Deed) → Facts g.instr a → FitsDeed model n g a e d → WritesIn s.trace.image d
  writes_in model g e (DoesSc address value) (deed.Sc word w) x fits = line_inside word (ap (λ z. z % 4) fits.0 ∙ x.1) (subst (HasLine n) (sym fits.0) (alike.holds address (valid_is address n.reserved fits.3)))
  writes_in model g e (DoesAmo address op operand) (deed.Amo word w) x fits = let t = fits.6 in line_inside word (ap (λ z. z % 4) fits.0 ∙ x.1) (subst (HasLine n) (sym fits.0) (Trunk t.0 t.1, t.2))
  writes_in model g e a deed.Private x fits = tt
  writes_in model g e a (deed.Output k) x fits = tt
  writes_in model g e a deed.Load x fits = tt
  writes_in model g e a (deed.Store k) x fits = tt
  writes_in model g e a deed.Seal x fits = tt
  writes_in model g e a (deed.Lr word) x fits = tt
  writes_in model g e a deed.Fail x fits = tt
  writes_in model g e _ _ x fits = absurd fits

  -- an instruction retires on both sides
  retire : (e : Retired) (i : Instr) (d : Deed) (o : Option ℕ) → HasLines n o → IsFitPlan s h (Changes (act.Retire e i d)) → Shows (acted h (act.Retire e i d) s) (flat.retired h e i (flat.does f.config.model h d (accessed h o f)))
  retire e i d o x p =
      let model = s.views.config.model in
      let t = acted h (act.Retire e i d) s in
      let g = accessed h o f in
      let done_sees : Sees (does model h d s) (flat.does model h d g) = sees_does model h d s g in_h (access_sees o x) in
      let on : h < length (does model h d s).views.nodes = let c = done_sees.count in let b = does_count model h d g in let a = accessed_count h o f in omega (arith, in_f, a, b, c) in
      let same : flat.does f.config.model h d g ≡ flat.does model h d g = ap (λ (c : Config). flat.does c.model h d g) v.config in
      let memory : (flat.does model h d g).memory ≡ memory_by d f.memory = does_memory model h d g ∙ ap (memory_by d) (accessed_memory h o f) in
      let facts = retired_known h e i s p.0 p.1 p.2 p.3 in
      let holds : HoldsPerformed t.trace (memory_by d f.memory) = deed_holds s.trace t.trace d f.memory (retired_trace h e i d s l is.stand).image (writes_in model p.2 e (access_of i n.hart.regs) d facts p.5) (λ y. retired_last h e i d s y l is.stand p.0 p.1 p.2 p.3 p.4 p.5 is.order) v.memory in
      subst (λ k. Shows t (flat.retired h e i k)) (sym same)
      (shows t (flat.retired h e i (flat.does model h d g)) (sees_retired h e i (does model h d s) (flat.does model h d g) on done_sees) (subst (HoldsPerformed t.trace) (sym memory) holds))

  step_goal : (p : Plan) → Follows n (flat_events.plan_of f (flat_event.Step h)) (flat_events.plan_of f (flat_event.Fail h)) p → IsFitPlan s h p → Goal p
  step_goal (Stays o) x p = tt
  step_goal (Changes (act.Stop code)) x p =
      one_event f (flat_event.Step h) _ (flat.stopped h code f) (happens_by f (flat_event.Step h) (Stops code) in_f x)
      (shows _ (flat.stopped h code f) (sees_stopped h code s f in_h (sees s f v)) (holds_quiet s _ f.memory (buffers.stopped_keeps h code s) v.memory))
  step_goal (Changes (act.Retire e i d)) (inl x) p = one_event f (flat_event.Step h) _ _ (happens_by f (flat_event.Step h) (Retires e i d x.0) in_f x.1) (retire e i d x.0 x.2 p)
  step_goal (Changes (act.Retire e i d)) (inr x) p = one_event f (flat_event.Fail h) _ _ (happens_by f (flat_event.Fail h) (Retires e i d None) in_f x) (retire e i d None tt p)
  step_goal (Changes (act.Miss line grow)) x p = quiet _ (buffers.missed_keeps h line grow s) (missed_sees f h line grow s (sees s f v))
  step_goal (Changes (act.Drain word)) x p = absurd x
  step_goal (Changes (act.Evict line)) x p = absurd x
  step_goal (Changes (act.Deliver m)) x p = absurd x
  step_goal (Changes (act.Local count)) x p = absurd x

  -- ---- a drain

  drain : (word : ℕ) → word % 4 ≡ 0 → HasLine n word → Shows (drained h word s) (flat.drained h word (accessed h (Some word) f))
  drain word aligned x =
      let g = accessed h (Some word) f in
      let t = drained h word s in
      let w = access_sees (Some word) x in
      let e = entry_of word (oldest n.buffer) in
      let m = of_flat.node_at g h in
      let by : Groups → List ℕ = λ b. with_word word (entry_of word (oldest b)).mask (entry_of word (oldest b)).bytes f.memory in
      let mine = entry_of word (oldest m.buffer) in
      let memory : (flat.drained h word g).memory ≡ by n.buffer = ap (with_word word mine.mask mine.bytes) (performs_memory h mine.ops g) ∙ ap by (w.nodes h in_h).buffer in
      let wrote : Wrote s.trace t.trace word e.mask e.bytes = record {
        image = (drained_moves h word s in_h).image;
        here = λ k b. drained_last h word k s in_h l is.order aligned b ∙ marked_or (is_marked e.mask k) (slice_index e.bytes k) (last_performed s.trace (word + k));
        there = λ y other. drained_elsewhere h word y s in_h l is.order other;
      } in
      shows t (flat.drained h word g) (sees_drained h word s g in_h w) (subst (HoldsPerformed t.trace) (sym memory) (holds_wrote s.trace t.trace word e.mask e.bytes f.memory (line_inside word aligned x) wrote v.memory))

  drain_goal : (word : ℕ) (p : Plan) → word % 4 ≡ 0 → FollowsDrain n word (flat_events.plan_of f (flat_event.Drain h word)) p → Goal p
  drain_goal word (Stays o) aligned x = tt
  drain_goal word (Changes (act.Drain w)) aligned x =
      subst (λ z. Reaches f (drained h z s)) (sym x.0)
      (one_event f (flat_event.Drain h word) _ (flat.drained h word (accessed h (Some word) f)) (happens_by f (flat_event.Drain h word) (Drains word) in_f x.1) (drain word aligned x.2))
  drain_goal word (Changes (act.Miss line grow)) aligned x = quiet _ (buffers.missed_keeps h line grow s) (missed_sees f h line grow s (sees s f v))
  drain_goal word (Changes (act.Stop code)) aligned x = absurd x
  drain_goal word (Changes (act.Retire e i d)) aligned x = absurd x
  drain_goal word (Changes (act.Evict line)) aligned x = absurd x
  drain_goal word (Changes (act.Deliver m)) aligned x = absurd x
  drain_goal word (Changes (act.Local count)) aligned x = absurd x

  -- ---- evictions and deliveries

  either : (P : Plan → Type 0) (b : Bool) (p q : Plan) → (b ≡ true → P p) → (b ≡ false → P q) → P (cond b p q)
  either P true p q x y = x refl
  either P false p q x y = y refl

  evict_goal : (line : ℕ) (e : Evict) → Goal (evict_by line e)
  evict_goal line evict.NotHeld = tt
  evict_goal line evict.AcquirePending = tt
  evict_goal line evict.ReleaseFull = tt
  evict_goal line (evict.Evicted change bytes) = quiet _ (buffers.given_up_keeps h line s) (given_up_sees f h line s (sees s f v))

  deliver : (m : Msg) → Goal (Changes (act.Deliver m))
  deliver m = quiet _ (buffers.delivered_keeps h m s) (delivered_sees f h m s (sees s f v))

  busy_goal : (a : Acquired) (m : Msg) → Goal (unless_busy a (Changes (act.Deliver m)))
  busy_goal Busy m = tt
  busy_goal (Handled sends) m = deliver m

  releasing_goal : (a : Probed) (m : Msg) → Goal (unless_releasing a (Changes (act.Deliver m)))
  releasing_goal probe.Releasing m = tt
  releasing_goal (probe.Answered change bytes) m = deliver m

  full_goal : (m : Msg) → Goal (unless_acks_full n (Changes (act.Deliver m)))
  full_goal m = either Goal (nat_le TRACKERS (length n.queues.e)) (Stays outcome.AckFull) (Changes (act.Deliver m)) (λ e. tt) (λ e. deliver m)

  body_goal : (line : ℕ) (body : Body) (m : Msg) → Goal (plan_body s h n line body (Changes (act.Deliver m)))
  body_goal line (AcquireBlock grow) m = busy_goal (acquired s.views.notes (place_of (line_size s) line) h grow).0 m
  body_goal line (ProbeBlock cap) m = releasing_goal (probed n.cache line cap).0 m
  body_goal line (ProbeAck change) m = deliver m
  body_goal line (ProbeAckData change bytes) m = deliver m
  body_goal line (Release change) m = deliver m
  body_goal line (ReleaseData change bytes) m = deliver m
  body_goal line (Grant cap) m = full_goal m
  body_goal line (GrantData cap bytes) m = full_goal m
  body_goal line ReleaseAck m = deliver m
  body_goal line GrantAck m = deliver m

  front_goal : (o : Option Msg) → Goal (plan_front s h n o)
  front_goal None = tt
  front_goal (Some m) = body_goal m.line m.body m

  -- ---- private instructions

  local_goal : (count : ℕ) → Goal (plan_of s (event.Local h count))
  local_goal count =
      let whole = nat_eq (length (private_row s.trace.image n.hart count)) count in
      let goes : Plan = cond whole (Changes (act.Local count)) (Stays outcome.NotLocal) in
      either Goal (not (is_running n.hart.status)) (Stays outcome.Halted) goes (λ e. tt)
      (λ e. either Goal whole (Changes (act.Local count)) (Stays outcome.NotLocal) (λ w. alone count (eqb-true _ _ w)) (λ w. tt))
    where
      alone : (count : ℕ) → length (private_row s.trace.image n.hart count) ≡ count → Reaches f (went_alone h count s)
      alone count w =
          let t = went_alone h count s in
          let k = sees s f v in
          let g = alone_grown h count s l is.stand is.order in
          let same : done t.trace ≡ done s.trace = ap (operations_at (instructions t.trace)) g.performed_is ∙ operations_on s.trace t.trace g.extends s.trace.performed is.order.resolved in
          let holds : HoldsPerformed t.trace f.memory = holds_still s.trace t.trace f.memory g.image (λ x. same_last s.trace t.trace x g.image same) v.memory in
          record {
            events = steps_of h count;
            shows = shows t _ (local_sees h count s f in_h w k) (subst (HoldsPerformed t.trace) (sym (local_memory h count s f in_h w k)) holds);
          }

-- ---- any event

abbrev pub IsGoal : State → Flat → ℕ → Plan → Type 0
IsGoal s f h (Stays o) = Unit {0}
IsGoal s f h (Changes a) = Reaches f (acted h a s)

as_goal : (s : State) (f : Flat) (is : Base s) (v : Shows s f) (h : ℕ) (in_h : h < length s.views.nodes) (p : Plan) → Goal s f is v h in_h p → IsGoal s f h p
as_goal s f is v h in_h (Stays o) x = tt
as_goal s f is v h in_h (Changes a) x = x

pub event_goal : (s : State) (f : Flat) → Base s → Shows s f → (e : Event) → hart_of e < length s.views.nodes → names_well s e ≡ true → IsGoal s f (hart_of e) (plan_of s e)
event_goal s f is v (event.Step h) in_h w = as_goal s f is v h in_h _ (step_goal s f is v h in_h (plan_of s (event.Step h)) (follows s f is v h in_h) (plan_fit s (event.Step h)))
event_goal s f is v (event.Drain h word) in_h w =
    as_goal s f is v h in_h _ (drain_goal s f is v h in_h word (plan_of s (event.Drain h word)) (piece s.trace.image word 4 w).aligned
    (subst (λ m. FollowsDrain (node_at s h) word (flat_steps.plan_drain m word) (plan_of s (event.Drain h word))) (sym (seen_is (node_at s h) (of_flat.node_at f h) (v.nodes h in_h))) (drain_follows (node_at s h) (of_flat.node_at f h).reserved word)))
event_goal s f is v (event.Evict h line) in_h w = as_goal s f is v h in_h _ (evict_goal s f is v h in_h line (evicted (node_at s h).cache line).0)
event_goal s f is v (event.Deliver channel h) in_h w = as_goal s f is v h in_h _ (front_goal s f is v h in_h (front_of (queue_of (node_at s h).queues channel)))
event_goal s f is v (event.Local h count) in_h w = as_goal s f is v h in_h _ (local_goal s f is v h in_h count)
