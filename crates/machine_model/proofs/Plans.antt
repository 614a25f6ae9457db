-- What an act rests on: all that its event's plan tested before it came to the act.
-- This file alone walks over the plans; whoever asks something of every act asks it of what the act rests on (`Rests`), by seven cases. So an outcome by which nothing changes is spoken of here, and nowhere else.
use Rattle.std.proofs.Common.{ℕ, ◌<◌, ◌/◌, ◌%◌, ◌^◌, Bool, true, false, List, ◌≡◌, inl, inr, Option, Some, None, refl, ap, sym, ◌∙◌, subst, arith}
use Rattle.std.specs.Prelude.{◌==◌, ◌&&◌, not, if◌then◌else◌, length, nat_le, nat_lt}
use Rattle.std.proofs.Math.Nat.{mod-lt, one-le-pow}
use Rattle.std.proofs.lemmas.Bool.{and_from, eqb-true, leb-false, lt-ltb}
use Rattle.machine_types.specs.declared.limits.TheConstants.{TRACKERS}
use Rattle.client_cache.specs.Cache.{copy_at, evicted, probed, wanted}
use Rattle.client_cache.specs.Held.{bytes_in, perm_of}
use Rattle.client_cache.specs.declared.answers.Evict.{Evict}
use Rattle.client_cache.specs.declared.answers.Evict.TheVariants as evict
use Rattle.client_cache.specs.declared.answers.Probed.{Probed}
use Rattle.client_cache.specs.declared.answers.Probed.TheVariants as probe
use Rattle.client_cache.specs.declared.answers.Want.{Want}
use Rattle.client_cache.specs.declared.answers.Want.TheVariants as want
use Rattle.client_cache.specs.declared.held.Held.{Held}
use Rattle.client_cache.specs.declared.held.Held.TheVariants.{Branch, Trunk}
use Rattle.directory.specs.Directory.{acquired}
use Rattle.directory.specs.declared.answer.Acquired.{Acquired}
use Rattle.directory.specs.declared.answer.Acquired.TheVariants.{Handled}
use Rattle.directory.specs.declared.answer.Sent.{Sent}
use Rattle.elf_loader.specs.Image.{word_at}
use Rattle.hart.specs.Local.{private_row}
use Rattle.hart.specs.Run.{can_fetch, has_answers, is_running, next_stop, stop_with}
use Rattle.hart.specs.declared.retired.Retired.{Retired}
use Rattle.machine_model.specs.Changing.{next_place}
use Rattle.machine_model.specs.Deciding.{miss_by, plan_miss, reading, reading_by, writing, writing_by}
use Rattle.machine_model.specs.Deliveries.{is_trunk, plan_body, plan_front, unless_acks_full, unless_busy, unless_releasing}
use Rattle.machine_model.specs.Events.{evict_by, hart_of, plan_of}
use Rattle.machine_model.specs.LawfulLog.{is_grant}
use Rattle.machine_model.specs.Steps.{Fetched, plan_access, plan_amo, plan_call, plan_fence, plan_instr, plan_load, plan_lr, plan_sc, plan_store, plan_unless, retires, update, waits_for_stores, write_waits}
use Rattle.machine_model.specs.Views.{Node, State, line_size, node_at, place_of}
use Rattle.machine_model.specs.Words.{number_of_bytes, read_from, store_of, word_in, word_of}
use Rattle.machine_model.specs.declared.act.Act.{Act}
use Rattle.machine_model.specs.declared.act.Act.TheVariants as act
use Rattle.machine_model.specs.declared.act.Deed.{Deed}
use Rattle.machine_model.specs.declared.act.Deed.TheVariants as deed
use Rattle.machine_model.specs.declared.act.Plan.{Plan}
use Rattle.machine_model.specs.declared.act.Plan.TheVariants.{Stays, Changes}
use Rattle.machine_types.specs.declared.event.Event.{Event}
use Rattle.machine_types.specs.declared.event.Event.TheVariants as event
use Rattle.machine_types.specs.declared.model.MemoryModel.{MemoryModel}
use Rattle.machine_types.specs.declared.outcome.Outcome.{Outcome}
use Rattle.machine_types.specs.declared.outcome.Outcome.TheVariants as outcome
use Rattle.machine_model.proofs.CacheCalls.{IsNoMiss, by_test, by_wanted}
use Rattle.machine_model.proofs.order.Deeds.{FitsDeed}
use Rattle.memory_model.specs.Rules.{fences}
use Rattle.memory_model.specs.declared.operation.Kind.TheVariants as kind
use Rattle.reservations.specs.Reservation.{is_valid}
use Rattle.rv32_decode.specs.Rows.{decoded}
use Rattle.rv32_decode.specs.declared.instruction.AmoOp.{AmoOp}
use Rattle.rv32_decode.specs.declared.instruction.Instr.{Instr}
use Rattle.rv32_exec.specs.Meaning.{Access, Private, Loads, Stores, DoesLr, DoesSc, DoesAmo, Fences, Calls, access_of, stop_of}
use Rattle.store_buffer.specs.ByteMask.{covers, laid_over, marks_of_access}
use Rattle.store_buffer.specs.Groups.{Groups, drainable, fits, forwarded, has, is_empty}
use Rattle.tilelink_channels.specs.Queues.{front_of, queue_of, room_of}
use Rattle.tl_types.specs.Line.{line_of}
use Rattle.tl_types.specs.declared.line.LineData.{LineData}
use Rattle.tl_types.specs.declared.message.Body.{Body}
use Rattle.tl_types.specs.declared.message.Body.TheVariants.{AcquireBlock, ProbeBlock, Grant, GrantData}
use Rattle.tl_types.specs.declared.message.Channel.{Channel}
use Rattle.tl_types.specs.declared.message.Channel.TheVariants.{E}
use Rattle.tl_types.specs.declared.message.Msg.{Msg}
use Rattle.tl_types.specs.declared.permission.Cap.{Cap}
use Rattle.tl_types.specs.declared.permission.Change.{Change}
use Rattle.tl_types.specs.declared.permission.Grow.{Grow}
use Rattle.tl_types.specs.declared.permission.Grow.TheVariants.{NtoB, NtoT, BtoT}
use Rattle.tl_types.specs.declared.permission.Perm.TheVariants as perm

-- ---- what each act rests on

-- an Acquire goes out for the line of an address, by the cache's own answer; who asks to write what it reads has a Branch copy
pub record Misses (n : Node) (address line : ℕ) (grow : Grow) : Type 0 where
  pub lies : line ≡ line_of n.cache.shape.size address
  pub answer : (wanted n.cache line grow).0 ≡ want.Missed grow
  pub reader : is_trunk (perm_of (copy_at n.cache line)) ≡ false
  pub branch : grow ≡ BtoT → perm_of (copy_at n.cache line) ≡ perm.Branch

-- the address whose line's copy an access wants
abbrev pub Wants : Access → ℕ → Type 0
Wants (Loads address bytes) x = x ≡ address
Wants (DoesLr address) x = x ≡ address
Wants (DoesAmo address op operand) x = x ≡ address
Wants _ x = ⊥

-- a store has a place in the buffer
abbrev pub HasPlace : Groups → Deed → Type 0
HasPlace b (deed.Store store) = fits store.word b ≡ true
HasPlace b _ = Unit {0}

-- an access is done by this deed, with this entry
pub record Does (model : MemoryModel) (n : Node) (f : Fetched) (a : Access) (e : Retired) (d : Deed) : Type 0 where
  pub pc : e.pc ≡ n.hart.pc
  pub word : e.word ≡ f.word
  pub answers : has_answers a e ≡ true
  pub fit : FitsDeed model n f a e d
  pub place : HasPlace n.buffer d

abbrev pub fetched_at : State → ℕ → Instr → Fetched
fetched_at s h i = record { word = word_at s.trace.image (node_at s h).hart.pc; instr = i; place = next_place s h }

-- an instruction that doesn't stop at its hart
pub record GoesOn (s : State) (h : ℕ) (i : Instr) : Type 0 where
  pub running : is_running (node_at s h).hart.status ≡ true
  pub fetched : can_fetch s.trace.image (node_at s h).hart.pc ≡ true
  pub decodes : decoded (word_at s.trace.image (node_at s h).hart.pc) ≡ Some i
  pub no_stop : stop_of i (node_at s h).hart.pc (node_at s h).hart.regs (length s.trace.image.bytes) ≡ None

pub record Retires (s : State) (h : ℕ) (e : Retired) (i : Instr) (d : Deed) : Type 0 where
  pub goes_on : GoesOn s h i
  pub does : Does s.views.config.model (node_at s h) (fetched_at s h i) (access_of i (node_at s h).hart.regs) e d

-- the hart's copy of the word's line may be written
abbrev pub HasTrunk : Node → ℕ → Type 0
HasTrunk n word = (dirty : Bool) × (bytes : LineData) × (copy_at n.cache (line_of n.cache.shape.size word) ≡ Some (Trunk dirty bytes))

pub record Drains (n : Node) (word : ℕ) : Type 0 where
  pub waits : has word n.buffer ≡ true
  pub oldest : drainable word n.buffer ≡ true
  pub trunk : HasTrunk n word

abbrev pub Leaves : Node → ℕ → Type 0
Leaves n line = (change : Change) × (bytes : Option LineData) × ((evicted n.cache line).0 ≡ evict.Evicted change bytes)

-- the manager isn't busy with the line of an Acquire, and the cache has no Release of the line of a Probe unanswered
abbrev pub IsReady : State → ℕ → ℕ → Body → Type 0
IsReady s h line (AcquireBlock grow) = (sends : Sent) × ((acquired s.views.notes (place_of (line_size s) line) h grow).0 ≡ Handled sends)
IsReady s h line (ProbeBlock cap) = (change : Change) × (bytes : Option LineData) × ((probed (node_at s h).cache line cap).0 ≡ probe.Answered change bytes)
IsReady s h line _ = Unit {0}

-- the message in front of a queue; a Grant has room for its GrantAck
pub record Delivers (s : State) (h : ℕ) (channel : Channel) (m : Msg) : Type 0 where
  pub front : front_of (queue_of (node_at s h).queues channel) ≡ Some m
  pub ready : IsReady s h m.line m.body
  pub room : is_grant m.body ≡ true → length (node_at s h).queues.e < TRACKERS

-- the event wants a copy of the line of this address
abbrev pub IsFor : State → Event → ℕ → Type 0
IsFor s (event.Step h) address = (i : Instr) × GoesOn s h i × Wants (access_of i (node_at s h).hart.regs) address
IsFor s (event.Drain h word) address = address ≡ word
IsFor s _ address = ⊥

abbrev pub Rests : State → Event → Act → Type 0
Rests s e (act.Stop code) = (e ≡ event.Step (hart_of e)) × (is_running (node_at s (hart_of e)).hart.status ≡ true) × (next_stop s.trace.image (node_at s (hart_of e)).hart ≡ Some code)
Rests s e (act.Retire entry i d) = (e ≡ event.Step (hart_of e)) × Retires s (hart_of e) entry i d
Rests s e (act.Miss line grow) = (address : ℕ) × IsFor s e address × Misses (node_at s (hart_of e)) address line grow
Rests s e (act.Drain word) = (e ≡ event.Drain (hart_of e) word) × Drains (node_at s (hart_of e)) word
Rests s e (act.Evict line) = (e ≡ event.Evict (hart_of e) line) × Leaves (node_at s (hart_of e)) line
Rests s e (act.Deliver m) = (channel : Channel) × (e ≡ event.Deliver channel (hart_of e)) × Delivers s (hart_of e) channel m
Rests s e (act.Local count) = (e ≡ event.Local (hart_of e) count) × (is_running (node_at s (hart_of e)).hart.status ≡ true) × (length (private_row s.trace.image (node_at s (hart_of e)).hart count) ≡ count)

-- ---- by cases of a plan

-- what is asked of the act, where the plan comes to one
abbrev pub OfAct : (Act → Type 0) → Plan → Type 0
OfAct Q (Stays o) = Unit {0}
OfAct Q (Changes a) = Q a

pub of_act : (Q R : Act → Type 0) → ((a : Act) → Q a → R a) → (p : Plan) → OfAct Q p → OfAct R p
of_act Q R f (Stays o) x = tt
of_act Q R f (Changes a) x = f a x

unless : (Q : Act → Type 0) (t : Bool) (o : Outcome) (go : Plan) → (t ≡ false → OfAct Q go) → OfAct Q (if t then Stays o else go)
unless Q t o go = by_test (OfAct Q) t (Stays o) go (λ e. tt)

was_true : (t : Bool) → not t ≡ false → t ≡ true
was_true true e = refl
was_true false e = cc e

no_miss : (Q : Act → Type 0) (line : ℕ) (w : Want) → IsNoMiss w → OfAct Q (miss_by line w)
no_miss Q line (want.Missed grow) is = absurd is
no_miss Q line _ is = tt

module _ (n : Node) (address : ℕ) where
  abbrev line : ℕ
  line = line_of n.cache.shape.size address

  miss : (Q : Act → Type 0) (grow : Grow) → ((wanted n.cache line grow).0 ≡ want.Missed grow → Q (act.Miss line grow)) → OfAct Q (plan_miss n.cache line grow)
  miss Q grow f = by_wanted (λ a. (wanted n.cache line grow).0 ≡ a.0 → OfAct Q (miss_by line a.0)) n.cache line grow (λ w is e. no_miss Q line w is) (λ may e. f e) refl

  by_reading : (Q : Act → Type 0) (go : LineData → Plan) → ((grow : Grow) → Misses n address line grow → Q (act.Miss line grow)) → ((held : Held) → copy_at n.cache line ≡ Some held → OfAct Q (go (bytes_in held))) → OfAct Q (reading go n.cache line)
  by_reading Q go misses reads = by (copy_at n.cache line) refl
    where
      by : (o : Option Held) → copy_at n.cache line ≡ o → OfAct Q (reading_by o go n.cache line)
      by None e = miss Q NtoB (λ a. misses NtoB (record { lies = refl; answer = a; reader = ap (λ o. is_trunk (perm_of o)) e; branch = λ b. cc b }))
      by (Some held) e = reads held e

  by_writing : (Q : Act → Type 0) (go : LineData → Plan) → ((grow : Grow) → Misses n address line grow → Q (act.Miss line grow)) → ((dirty : Bool) (bytes : LineData) → copy_at n.cache line ≡ Some (Trunk dirty bytes) → OfAct Q (go bytes)) → OfAct Q (writing go n.cache line)
  by_writing Q go misses writes = by (copy_at n.cache line) refl
    where
      by : (o : Option Held) → copy_at n.cache line ≡ o → OfAct Q (writing_by o go n.cache line)
      by None e = miss Q NtoT (λ a. misses NtoT (record { lies = refl; answer = a; reader = ap (λ o. is_trunk (perm_of o)) e; branch = λ b. cc b }))
      by (Some (Branch bytes)) e = miss Q BtoT (λ a. misses BtoT (record { lies = refl; answer = a; reader = ap (λ o. is_trunk (perm_of o)) e; branch = λ b. ap perm_of e }))
      by (Some (Trunk dirty bytes)) e = writes dirty bytes e

-- ---- an access

-- a raw value fits its bytes
fits_bytes : (word : List ℕ) (address bytes : ℕ) → (nat_lt (read_from word address bytes) (256 ^ bytes) && true) ≡ true
fits_bytes word address bytes = and_from _ _ (lt-ltb (read_from word address bytes) (256 ^ bytes) (mod-lt (number_of_bytes word / 256 ^ (address % 4)) (one-le-pow bytes 256 (omega arith)))) refl

module _ (model : MemoryModel) (n : Node) (f : Fetched) where
  -- what an access comes to
  abbrev OfAccess : Access → Act → Type 0
  OfAccess a (act.Retire e i d) = (i ≡ f.instr) × Does model n f a e d
  OfAccess a (act.Miss line grow) = (address : ℕ) × Wants a address × Misses n address line grow
  OfAccess a _ = ⊥

  does : (a : Access) (loaded : Option ℕ) (sc_ok : Option Bool) (d : Deed) → has_answers a (record { pc = n.hart.pc; word = f.word; loaded = loaded; sc_ok = sc_ok }) ≡ true → FitsDeed model n f a (record { pc = n.hart.pc; word = f.word; loaded = loaded; sc_ok = sc_ok }) d → HasPlace n.buffer d → OfAct (OfAccess a) (retires n f loaded sc_ok d)
  does a loaded sc_ok d answers fit place = (refl, record { pc = refl; word = refl; answers = answers; fit = fit; place = place })

  load : (address bytes : ℕ) → OfAct (OfAccess (Loads address bytes)) (plan_load n f address bytes)
  load address bytes =
      let a = Loads address bytes in
      let waiting = forwarded (word_of address) n.buffer in
      let go : LineData → Plan = λ found. retires n f (Some (read_from (laid_over waiting.0 waiting.1 (word_in found (word_of address))) address bytes)) None deed.Load in
      by_test (OfAct (OfAccess a)) (covers waiting.0 (marks_of_access (address % 4) bytes)) (retires n f (Some (read_from waiting.1 address bytes)) None deed.Load) (reading go n.cache (line n address))
      (λ e. does a _ None deed.Load (fits_bytes waiting.1 address bytes) (refl, inl (e, refl)) tt)
      (λ e. by_reading n address (OfAccess a) go (λ grow m. (address, refl, m))
      (λ held g. does a _ None deed.Load (fits_bytes (laid_over waiting.0 waiting.1 (word_in (bytes_in held) (word_of address))) address bytes) (refl, inr (held, g, refl)) tt))

  store : (address bytes value : ℕ) → OfAct (OfAccess (Stores address bytes value)) (plan_store n f address bytes value)
  store address bytes value =
      let a = Stores address bytes value in
      let stores = deed.Store (store_of address bytes value f.place) in
      by_test (OfAct (OfAccess a)) (fits (word_of address) n.buffer) (retires n f None None stores) (Stays outcome.BufferFull) (λ e. does a None None stores refl refl e) (λ e. tt)

  reserve : (address : ℕ) → OfAct (OfAccess (DoesLr address)) (plan_lr n f address)
  reserve address =
      let a = DoesLr address in
      let old : LineData → ℕ = λ found. read_from (word_in found address) address 4 in
      let go : LineData → Plan = λ found. retires n f (Some (old found)) None (deed.Lr address) in
      unless (OfAccess a) (waits_for_stores n.buffer f.instr address) outcome.MustDrain (writing go n.cache (line n address))
      (λ e. by_writing n address (OfAccess a) go (λ grow m. (address, refl, m))
      (λ dirty found g. does a (Some (old found)) None (deed.Lr address) (fits_bytes (word_in found address) address 4) (refl, e, refl, old found, refl, (dirty, found, g, refl)) tt))

  conditional : (address value : ℕ) → OfAct (OfAccess (DoesSc address value)) (plan_sc model n f address value)
  conditional address value =
      let a = DoesSc address value in
      let writes = retires n f None (Some true) (deed.Sc address value) in
      by_test (OfAct (OfAccess a)) (not (is_valid address n.reserved)) (retires n f None (Some false) deed.Fail) (if write_waits model n.buffer f.instr address then Stays outcome.MustDrain else writes)
      (λ e. does a None (Some false) deed.Fail refl refl tt)
      (λ v. unless (OfAccess a) (write_waits model n.buffer f.instr address) outcome.MustDrain writes
      (λ e. does a None (Some true) (deed.Sc address value) refl (refl, refl, refl, was_true (is_valid address n.reserved) v, e) tt))

  amo : (address : ℕ) (op : AmoOp) (operand : ℕ) → OfAct (OfAccess (DoesAmo address op operand)) (plan_amo model n f address op operand)
  amo address op operand =
      let a = DoesAmo address op operand in
      let old : LineData → ℕ = λ found. read_from (word_in found address) address 4 in
      let go : LineData → Plan = λ found. update n f address op operand (old found) in
      unless (OfAccess a) (write_waits model n.buffer f.instr address) outcome.MustDrain (writing go n.cache (line n address))
      (λ e. by_writing n address (OfAccess a) go (λ grow m. (address, refl, m))
      (λ dirty found g. does a (Some (old found)) None _ (fits_bytes (word_in found address) address 4) (refl, e, refl, old found, refl, refl, (dirty, found, g, refl)) tt))

  fence : OfAct (OfAccess Fences) (plan_fence n f)
  fence =
      unless (OfAccess Fences) (fences (Some f.instr) kind.Store kind.Load && not (is_empty n.buffer)) outcome.MustDrain (retires n f None None (if fences (Some f.instr) kind.Store kind.Store then deed.Seal else deed.Private))
      (λ e. closes e (fences (Some f.instr) kind.Store kind.Store) refl)
    where
      closes : (fences (Some f.instr) kind.Store kind.Load && not (is_empty n.buffer)) ≡ false → (t : Bool) → fences (Some f.instr) kind.Store kind.Store ≡ t → OfAct (OfAccess Fences) (retires n f None None (if t then deed.Seal else deed.Private))
      closes e true g = does Fences None None deed.Seal refl e tt
      closes e false g = does Fences None None deed.Private refl (e, g) tt

  call : (number argument : ℕ) → OfAct (OfAccess (Calls number argument)) (plan_call n f number argument)
  call number argument = go (number == 0)
    where
      go : (t : Bool) → OfAct (OfAccess (Calls number argument)) (retires n f None None (if t then deed.Private else deed.Output argument))
      go true = does (Calls number argument) None None deed.Private refl tt tt
      go false = does (Calls number argument) None None (deed.Output argument) refl tt tt

  access : (a : Access) → OfAct (OfAccess a) (plan_access model n f a)
  access Private = does Private None None deed.Private refl tt tt
  access (Loads address bytes) = load address bytes
  access (Stores address bytes value) = store address bytes value
  access (DoesLr address) = reserve address
  access (DoesSc address value) = conditional address value
  access (DoesAmo address op operand) = amo address op operand
  access Fences = fence
  access (Calls number argument) = call number argument

-- ---- the events of a hart

module _ (s : State) (h : ℕ) where
  abbrev n : Node
  n = node_at s h

  abbrev size : ℕ
  size = length s.trace.image.bytes

  goes_on : (i : Instr) → GoesOn s h i → (b : Act) → OfAccess s.views.config.model n (fetched_at s h i) (access_of i n.hart.regs) b → Rests s (event.Step h) b
  goes_on i on (act.Retire e j d) x = (refl, subst (λ k. Retires s h e k d) (sym x.0) (record { goes_on = on; does = x.1 }))
  goes_on i on (act.Miss l grow) x = (x.0, (i, on, x.1), x.2)
  goes_on i on _ x = absurd x

  step : OfAct (Rests s (event.Step h)) (plan_of s (event.Step h))
  step = unless Q (not (is_running n.hart.status)) outcome.Halted (plan_unless (next_stop s.trace.image n.hart) go) (λ r. by_stop (was_true (is_running n.hart.status) r) (can_fetch s.trace.image n.hart.pc) refl (decoded word) refl (stop_with size n.hart (decoded word)) refl)
    where
      Q : Act → Type 0
      Q = Rests s (event.Step h)

      word : ℕ
      word = word_at s.trace.image n.hart.pc

      go : Plan
      go = plan_instr s.views.config.model n word (next_place s h) (decoded word)

      by_instr : is_running n.hart.status ≡ true → can_fetch s.trace.image n.hart.pc ≡ true → (o : Option Instr) → decoded word ≡ o → stop_with size n.hart o ≡ None → OfAct Q (plan_instr s.views.config.model n word (next_place s h) o)
      by_instr r c None d e = cc e
      by_instr r c (Some i) d e =
          let a = access_of i n.hart.regs in
          of_act (OfAccess s.views.config.model n (fetched_at s h i) a) Q (goes_on i (record { running = r; fetched = c; decodes = d; no_stop = e })) (plan_access s.views.config.model n (fetched_at s h i) a) (access s.views.config.model n (fetched_at s h i) a)

      by_stop : is_running n.hart.status ≡ true → (t : Bool) → can_fetch s.trace.image n.hart.pc ≡ t → (o : Option Instr) → decoded word ≡ o → (stop : Option ℕ) → stop_with size n.hart o ≡ stop → OfAct Q (plan_unless (if t then stop else Some 1) (plan_instr s.views.config.model n word (next_place s h) o))
      by_stop r false c o d stop e = (refl, r, ap (λ t. if t then stop_with size n.hart (decoded word) else Some 1) c)
      by_stop r true c o d None e = by_instr r c o d e
      by_stop r true c o d (Some code) e = (refl, r, ap (λ t. if t then stop_with size n.hart (decoded word) else Some 1) c ∙ (ap (stop_with size n.hart) d ∙ e))

  drain : (word : ℕ) → OfAct (Rests s (event.Drain h word)) (plan_of s (event.Drain h word))
  drain word =
      let Q = Rests s (event.Drain h word) in
      let drains = writing (λ bytes. Changes (act.Drain word)) n.cache (line n word) in
      unless Q (not (has word n.buffer)) outcome.NoEntry (if not (drainable word n.buffer) then Stays outcome.NotOldest else drains)
      (λ a. unless Q (not (drainable word n.buffer)) outcome.NotOldest drains
      (λ b. by_writing n word Q (λ bytes. Changes (act.Drain word)) (λ grow m. (word, refl, m))
      (λ dirty bytes e. (refl, record { waits = was_true (has word n.buffer) a; oldest = was_true (drainable word n.buffer) b; trunk = (dirty, bytes, e) }))))

  leave : (l : ℕ) → OfAct (Rests s (event.Evict h l)) (plan_of s (event.Evict h l))
  leave l = by (evicted n.cache l).0 refl
    where
      by : (e : Evict) → (evicted n.cache l).0 ≡ e → OfAct (Rests s (event.Evict h l)) (evict_by l e)
      by (evict.Evicted change bytes) e = (refl, (change, bytes, e))
      by _ e = tt

  go_alone : (count : ℕ) → OfAct (Rests s (event.Local h count)) (plan_of s (event.Local h count))
  go_alone count =
      let Q = Rests s (event.Local h count) in
      let whole = length (private_row s.trace.image n.hart count) == count in
      unless Q (not (is_running n.hart.status)) outcome.Halted (if whole then Changes (act.Local count) else Stays outcome.NotLocal)
      (λ r. by_test (OfAct Q) whole (Changes (act.Local count)) (Stays outcome.NotLocal) (λ e. (refl, was_true (is_running n.hart.status) r, eqb-true _ _ e)) (λ e. tt))

  -- ---- a delivery

  module _ (channel : Channel) (m : Msg) (front : front_of (queue_of n.queues channel) ≡ Some m) where
    abbrev Delivered : Plan → Type 0
    Delivered = OfAct (Rests s (event.Deliver channel h))

    ready : (b : Body) → m.body ≡ b → IsReady s h m.line b → (is_grant b ≡ true → length n.queues.e < TRACKERS) → Delivered (Changes (act.Deliver m))
    ready b e is room = (channel, refl, record { front = front; ready = subst (IsReady s h m.line) (sym e) is; room = subst (λ c. is_grant c ≡ true → length n.queues.e < TRACKERS) (sym e) room })

    busy : (grow : Grow) → m.body ≡ AcquireBlock grow → (a : Acquired) → (acquired s.views.notes (place_of (line_size s) m.line) h grow).0 ≡ a → Delivered (unless_busy a (Changes (act.Deliver m)))
    busy grow e (Handled sends) is = ready (AcquireBlock grow) e (sends, is) (λ g. cc g)
    busy grow e _ is = tt

    releasing : (cap : Cap) → m.body ≡ ProbeBlock cap → (a : Probed) → (probed n.cache m.line cap).0 ≡ a → Delivered (unless_releasing a (Changes (act.Deliver m)))
    releasing cap e (probe.Answered change bytes) is = ready (ProbeBlock cap) e (change, bytes, is) (λ g. cc g)
    releasing cap e _ is = tt

    granted : (b : Body) → m.body ≡ b → IsReady s h m.line b → Delivered (unless_acks_full n (Changes (act.Deliver m)))
    granted b e is = unless (Rests s (event.Deliver channel h)) (nat_le (room_of E) (length n.queues.e)) outcome.AckFull (Changes (act.Deliver m)) (λ f. ready b e is (λ g. leb-false TRACKERS (length n.queues.e) f))

    body : (b : Body) → m.body ≡ b → Delivered (plan_body s h n m.line b (Changes (act.Deliver m)))
    body (AcquireBlock grow) e = busy grow e (acquired s.views.notes (place_of (line_size s) m.line) h grow).0 refl
    body (ProbeBlock cap) e = releasing cap e (probed n.cache m.line cap).0 refl
    body (Grant cap) e = granted (Grant cap) e tt
    body (GrantData cap bytes) e = granted (GrantData cap bytes) e tt
    body b e = ready b e tt (λ g. cc g)

  deliver : (channel : Channel) → OfAct (Rests s (event.Deliver channel h)) (plan_of s (event.Deliver channel h))
  deliver channel = by (front_of (queue_of n.queues channel)) refl
    where
      by : (o : Option Msg) → front_of (queue_of n.queues channel) ≡ o → OfAct (Rests s (event.Deliver channel h)) (plan_front s h n o)
      by None e = tt
      by (Some m) e = body channel m e m.body refl

-- ---- any event

pub plan_rests : (s : State) (e : Event) → OfAct (Rests s e) (plan_of s e)
plan_rests s (event.Step h) = step s h
plan_rests s (event.Drain h word) = drain s h word
plan_rests s (event.Evict h l) = leave s h l
plan_rests s (event.Deliver channel h) = deliver s h channel
plan_rests s (event.Local h count) = go_alone s h count

pub act_rests : (s : State) (e : Event) (a : Act) → plan_of s e ≡ Changes a → Rests s e a
act_rests s e a is = subst (OfAct (Rests s e)) is (plan_rests s e)
