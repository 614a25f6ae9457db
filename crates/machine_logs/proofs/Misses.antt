-- An Acquire asks from what the cache has.
use Rattle.std.proofs.Common.{ℕ, Bool, true, false, ◌≡◌, ◌%◌, Option, Some, None, refl, ap, sym, subst}
use Rattle.std.specs.Prelude.{◌==◌, ◌&&◌, not, if◌then◌else◌, length, nat_le}
use Rattle.client_cache.specs.Cache.{copy_at, evicted, probed}
use Rattle.client_cache.specs.Held.{bytes_in, perm_of}
use Rattle.client_cache.specs.declared.answers.Evict.{Evict}
use Rattle.client_cache.specs.declared.answers.Evict.TheVariants as evict
use Rattle.client_cache.specs.declared.answers.Probed.{Probed}
use Rattle.client_cache.specs.declared.answers.Probed.TheVariants as probe
use Rattle.client_cache.specs.declared.answers.Want.{Want}
use Rattle.client_cache.specs.declared.answers.Want.TheVariants as want
use Rattle.client_cache.specs.declared.held.Held.{Held}
use Rattle.client_cache.specs.declared.held.Held.TheVariants.{Branch, Trunk}
use Rattle.coherent_log.specs.Rules.{asked_from}
use Rattle.directory.specs.Directory.{acquired}
use Rattle.directory.specs.declared.answer.Acquired.{Acquired}
use Rattle.directory.specs.declared.answer.Acquired.TheVariants.{Busy, Handled}
use Rattle.hart.specs.Local.{private_row}
use Rattle.hart.specs.Run.{is_running, next_stop}
use Rattle.elf_loader.specs.Image.{word_at}
use Rattle.machine_model.proofs.CacheCalls.{IsNoMiss, by_test, by_wanted}
use Rattle.machine_model.proofs.Plans.{OfAct}
use Rattle.machine_model.specs.Changing.{next_place}
use Rattle.machine_model.specs.Deciding.{miss_by, plan_miss, reading, reading_by, writing, writing_by}
use Rattle.machine_model.specs.Deliveries.{plan_body, plan_front, unless_busy, unless_releasing}
use Rattle.machine_model.specs.Events.{evict_by, hart_of, plan_of}
use Rattle.machine_model.specs.Steps.{Fetched, plan_access, plan_instr, plan_unless, retires, update, waits_for_stores, write_waits}
use Rattle.machine_model.specs.Views.{Node, State, line_size, node_at, place_of}
use Rattle.machine_model.specs.Words.{read_from, store_of, word_in, word_of}
use Rattle.machine_model.specs.declared.act.Act.{Act}
use Rattle.machine_model.specs.declared.act.Act.TheVariants as act
use Rattle.machine_model.specs.declared.act.Deed.TheVariants as deed
use Rattle.machine_model.specs.declared.act.Plan.{Plan}
use Rattle.machine_model.specs.declared.act.Plan.TheVariants.{Stays, Changes}
use Rattle.machine_types.specs.declared.event.Event.{Event}
use Rattle.machine_types.specs.declared.event.Event.TheVariants as event
use Rattle.machine_types.specs.declared.model.MemoryModel.{MemoryModel}
use Rattle.machine_types.specs.declared.outcome.Outcome.TheVariants as outcome
use Rattle.memory_model.specs.Rules.{fences}
use Rattle.memory_model.specs.declared.operation.Kind.TheVariants as kind
use Rattle.reservations.specs.Reservation.{is_valid}
use Rattle.rv32_decode.specs.Rows.{decoded}
use Rattle.rv32_decode.specs.declared.instruction.Instr.{Instr}
use Rattle.rv32_exec.specs.Meaning.{Access, Private, Loads, Stores, DoesLr, DoesSc, DoesAmo, Fences, Calls, access_of}
use Rattle.store_buffer.specs.ByteMask.{covers, laid_over, marks_of_access}
use Rattle.store_buffer.specs.Groups.{drainable, fits, forwarded, has, is_empty}
use Rattle.tilelink_channels.specs.Queues.{front_of, queue_of, room_of}
use Rattle.tl_types.specs.Line.{line_of}
use Rattle.tl_types.specs.declared.line.LineData.{LineData}
use Rattle.tl_types.specs.declared.message.Body.{Body}
use Rattle.tl_types.specs.declared.message.Body.TheVariants.{AcquireBlock, ProbeBlock, Grant, GrantData}
use Rattle.tl_types.specs.declared.message.Channel.TheVariants.{E}
use Rattle.tl_types.specs.declared.message.Msg.{Msg}
use Rattle.tl_types.specs.declared.permission.Grow.{Grow}
use Rattle.tl_types.specs.declared.permission.Grow.TheVariants.{NtoB, NtoT, BtoT}

abbrev pub AsksFromCopy : Node → Act → Type 0
AsksFromCopy n (act.Miss line grow) = asked_from grow ≡ perm_of (copy_at n.cache line)
AsksFromCopy n _ = Unit {0}

module _ (n : Node) where
  abbrev Asks : Plan → Type 0
  Asks = OfAct (AsksFromCopy n)

  miss : (line : ℕ) (grow : Grow) → asked_from grow ≡ perm_of (copy_at n.cache line) → Asks (plan_miss n.cache line grow)
  miss line grow fit = by_wanted (λ a. Asks (miss_by line a.0)) n.cache line grow stalls (λ may. fit)
    where
      stalls : (w : Want) → IsNoMiss w → Asks (miss_by line w)
      stalls (want.Missed grow) is = absurd is
      stalls _ is = tt

  reads : (line : ℕ) (go : LineData → Plan) → ((bytes : LineData) → Asks (go bytes)) → Asks (reading go n.cache line)
  reads line go goes = by (copy_at n.cache line) refl
    where
      by : (o : Option Held) → copy_at n.cache line ≡ o → Asks (reading_by o go n.cache line)
      by None e = miss line NtoB (sym (ap perm_of e))
      by (Some held) e = goes (bytes_in held)

  writes : (line : ℕ) (go : LineData → Plan) → ((bytes : LineData) → Asks (go bytes)) → Asks (writing go n.cache line)
  writes line go goes = by (copy_at n.cache line) refl
    where
      by : (o : Option Held) → copy_at n.cache line ≡ o → Asks (writing_by o go n.cache line)
      by None e = miss line NtoT (sym (ap perm_of e))
      by (Some (Branch bytes)) e = miss line BtoT (sym (ap perm_of e))
      by (Some (Trunk dirty bytes)) e = goes bytes

  either : (t : Bool) (p q : Plan) → Asks p → Asks q → Asks (if t then p else q)
  either t p q a b = by_test Asks t p q (λ e. a) (λ e. b)

  access : (model : MemoryModel) (f : Fetched) (a : Access) → Asks (plan_access model n f a)
  access model f Private = tt
  access model f (Loads address bytes) =
      let waiting = forwarded (word_of address) n.buffer in
      let line = line_of n.cache.shape.size address in
      let go : LineData → Plan = λ found. retires n f (Some (read_from (laid_over waiting.0 waiting.1 (word_in found (word_of address))) address bytes)) None deed.Load in
      either (covers waiting.0 (marks_of_access (address % 4) bytes)) (retires n f (Some (read_from waiting.1 address bytes)) None deed.Load) (reading go n.cache line) tt (reads line go (λ found. tt))
  access model f (Stores address bytes value) = either (fits (word_of address) n.buffer) (retires n f None None (deed.Store (store_of address bytes value f.place))) (Stays outcome.BufferFull) tt tt
  access model f (DoesLr address) =
      let line = line_of n.cache.shape.size address in
      let go : LineData → Plan = λ found. retires n f (Some (read_from (word_in found address) address 4)) None (deed.Lr address) in
      either (waits_for_stores n.buffer f.instr address) (Stays outcome.MustDrain) (writing go n.cache line) tt (writes line go (λ found. tt))
  access model f (DoesSc address value) =
      let waits = write_waits model n.buffer f.instr address in
      let done = retires n f None (Some true) (deed.Sc address value) in
      either (not (is_valid address n.reserved)) (retires n f None (Some false) deed.Fail) (if waits then Stays outcome.MustDrain else done) tt (either waits (Stays outcome.MustDrain) done tt tt)
  access model f (DoesAmo address op operand) =
      let line = line_of n.cache.shape.size address in
      let go : LineData → Plan = λ found. update n f address op operand (read_from (word_in found address) address 4) in
      either (write_waits model n.buffer f.instr address) (Stays outcome.MustDrain) (writing go n.cache line) tt (writes line go (λ found. tt))
  access model f Fences =
      either (fences (Some f.instr) kind.Store kind.Load && not (is_empty n.buffer)) (Stays outcome.MustDrain) (retires n f None None (if fences (Some f.instr) kind.Store kind.Store then deed.Seal else deed.Private)) tt tt
  access model f (Calls number argument) = tt

  unless_stop : (o : Option ℕ) (go : Plan) → Asks go → Asks (plan_unless o go)
  unless_stop None go asks = asks
  unless_stop (Some code) go asks = tt

  instr : (model : MemoryModel) (word place : ℕ) (o : Option Instr) → Asks (plan_instr model n word place o)
  instr model word place None = tt
  instr model word place (Some i) = access model (record { word = word; instr = i; place = place }) (access_of i n.hart.regs)

  leaves : (line : ℕ) (e : Evict) → Asks (evict_by line e)
  leaves line (evict.Evicted change bytes) = tt
  leaves line _ = tt

  busy : (a : Acquired) (go : Plan) → Asks go → Asks (unless_busy a go)
  busy Busy go asks = tt
  busy (Handled sends) go asks = asks

  releasing : (a : Probed) (go : Plan) → Asks go → Asks (unless_releasing a go)
  releasing probe.Releasing go asks = tt
  releasing (probe.Answered change bytes) go asks = asks

  body : (s : State) (h line : ℕ) (b : Body) (go : Plan) → Asks go → Asks (plan_body s h n line b go)
  body s h line (AcquireBlock grow) go asks = busy (acquired s.views.notes (place_of (line_size s) line) h grow).0 go asks
  body s h line (ProbeBlock cap) go asks = releasing (probed n.cache line cap).0 go asks
  body s h line (Grant cap) go asks = either (nat_le (room_of E) (length n.queues.e)) (Stays outcome.AckFull) go tt asks
  body s h line (GrantData cap bytes) go asks = either (nat_le (room_of E) (length n.queues.e)) (Stays outcome.AckFull) go tt asks
  body s h line _ go asks = asks

  front : (s : State) (h : ℕ) (o : Option Msg) → Asks (plan_front s h n o)
  front s h None = tt
  front s h (Some m) = body s h m.line m.body (Changes (act.Deliver m)) tt

planned : (s : State) (e : Event) → Asks (node_at s (hart_of e)) (plan_of s e)
planned s (event.Step h) =
    let n = node_at s h in
    let word = word_at s.trace.image n.hart.pc in
    let go = plan_instr s.views.config.model n word (next_place s h) (decoded word) in
    either n (not (is_running n.hart.status)) (Stays outcome.Halted) (plan_unless (next_stop s.trace.image n.hart) go) tt (unless_stop n (next_stop s.trace.image n.hart) go (instr n s.views.config.model word (next_place s h) (decoded word)))
planned s (event.Drain h word) =
    let n = node_at s h in
    let line = line_of n.cache.shape.size word in
    let go : LineData → Plan = λ bytes. Changes (act.Drain word) in
    let drains = writing go n.cache line in
    either n (not (has word n.buffer)) (Stays outcome.NoEntry) (if not (drainable word n.buffer) then Stays outcome.NotOldest else drains) tt (either n (not (drainable word n.buffer)) (Stays outcome.NotOldest) drains tt (writes n line go (λ bytes. tt)))
planned s (event.Evict h line) = leaves (node_at s h) line (evicted (node_at s h).cache line).0
planned s (event.Deliver channel h) = front (node_at s h) s h (front_of (queue_of (node_at s h).queues channel))
planned s (event.Local h count) =
    let n = node_at s h in
    let whole = length (private_row s.trace.image n.hart count) == count in
    either n (not (is_running n.hart.status)) (Stays outcome.Halted) (if whole then Changes (act.Local count) else Stays outcome.NotLocal) tt (either n whole (Changes (act.Local count)) (Stays outcome.NotLocal) tt tt)

pub asks_from_copy : (s : State) (e : Event) (a : Act) → plan_of s e ≡ Changes a → AsksFromCopy (node_at s (hart_of e)) a
asks_from_copy s e a is = subst (OfAct (AsksFromCopy (node_at s (hart_of e)))) is (planned s e)
