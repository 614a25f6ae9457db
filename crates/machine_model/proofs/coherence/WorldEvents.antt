-- Every event keeps what holds of a machine's state, and so every list of events does.
use Rattle.std.proofs.Common.{ℕ, ◌+◌, ◌-◌, ◌%◌, Bool, true, false, List, [], ◌∷◌, ◌≡◌, ◌<◌, ◌≤◌, Option, Some, None, refl, ap, sym, ◌∙◌, subst, length}
use Rattle.std.specs.Prelude.{◌==◌, ◌&&◌, ◌||◌, if◌then◌else◌, nat_le, nat_lt}
use Rattle.std.proofs.lemmas.Bool.{eqb-true, eq-eqb, le-leb, ltb-false}
use native.Mathlib.Omega.{arith}
use Rattle.client_cache.specs.Cache.{copy_at}
use Rattle.client_cache.specs.Held.{perm_of}
use Rattle.directory.specs.Directory.{line_at}
use Rattle.directory.specs.Lines.{known_at, unknown}
use Rattle.elf_loader.specs.Image.{Initial, end_of}
use Rattle.elf_loader.specs.Size.{base}
use Rattle.machine_model.specs.Changing.{acted}
use Rattle.machine_model.specs.Deliveries.{is_trunk, taken}
use Rattle.machine_model.specs.Events.{after_events, happens, hart_of, is_piece, names_well, counted}
use Rattle.machine_model.specs.Views.{Node, State, line_size, node_at, place_of}
use Rattle.machine_model.specs.declared.act.Act.{Act}
use Rattle.machine_model.specs.declared.act.Act.TheVariants as act
use Rattle.machine_model.specs.declared.act.Deed.{Deed}
use Rattle.machine_model.specs.declared.act.Deed.TheVariants as deed
use Rattle.machine_types.specs.declared.event.Event.{Event}
use Rattle.machine_types.specs.declared.event.Event.TheVariants as event
use Rattle.machine_model.proofs.coherence.LineHeads.{IsHeadOn, head_on, queue_in}
use Rattle.machine_model.proofs.coherence.LinePlaces.{piece}
use Rattle.machine_model.proofs.coherence.LineStands.{quiet_side}
use Rattle.machine_model.proofs.coherence.LineViews.{front_here, of_line}
use Rattle.machine_model.proofs.coherence.WorldActs.{given_up_fits, granted_fits, missed_fits, probed_fits, rested_fits}
use Rattle.machine_model.proofs.coherence.WorldDeliveries.{acquired_fits, ended_fits, probe_ack_data_fits, probe_ack_fits, release_data_fits, release_fits}
use Rattle.machine_model.proofs.coherence.WorldFits.{Framed, IsFit, framed_taken, kit_at, kit_of}
use Rattle.machine_model.proofs.coherence.WorldKept.{front_line, is_line, side}
use Rattle.machine_model.proofs.coherence.WorldSteps.{Fits, IsAllowed, MayWrite, drains_fits, last_after, retires_fits, stopped_fits, went_alone_fits}
use Rattle.reservations.specs.Reservation.{is_valid}
use Rattle.rv32_decode.specs.declared.instruction.Instr.{Instr}
use Rattle.rv32_decode.specs.declared.instruction.Instr.TheVariants as instr
use Rattle.rv32_decode.specs.declared.instruction.LoadOp.{LoadOp}
use Rattle.rv32_decode.specs.declared.instruction.LoadOp.TheVariants.{Lb, Lh, Lw, Lbu, Lhu}
use Rattle.rv32_decode.specs.declared.instruction.SystemOp.TheVariants.{Ecall, Ebreak}
use Rattle.rv32_exec.specs.Arithmetic.{bytes_loaded}
use Rattle.rv32_exec.specs.Meaning.{Access, DoesLr, DoesSc, DoesAmo, access_of, access_stop, stop_of}
use Rattle.tilelink_channels.specs.Queues.{front_of, popped, queue_of}
use Rattle.tl_types.specs.Line.{length_of, line_of}
use Rattle.tl_types.specs.Message.{channel_of_body}
use Rattle.tl_types.specs.declared.line.LineData.{LineData}
use Rattle.tl_types.specs.declared.line.LineSize.{LineSize}
use Rattle.tl_types.specs.declared.line.LineSize.TheVariants.{Bytes16, Bytes64}
use Rattle.tl_types.specs.declared.message.Body.{Body}
use Rattle.tl_types.specs.declared.message.Body.TheVariants.{AcquireBlock, ProbeBlock, ProbeAck, ProbeAckData, Release, ReleaseData, Grant, GrantData, ReleaseAck, GrantAck}
use Rattle.tl_types.specs.declared.message.Channel.{Channel}
use Rattle.tl_types.specs.declared.message.Channel.TheVariants.{A, B, C, D, E}
use Rattle.tl_types.specs.declared.message.Msg.{Msg}
use Rattle.hart.specs.declared.retired.Retired.{Retired}
use Rattle.machine_model.specs.Deliveries.{delivered}
use Rattle.machine_model.proofs.Events.{IsMove, by_event}
use Rattle.machine_model.proofs.Plans.{Delivers, HasTrunk, IsFor, IsReady, Retires, Wants, fetched_at}
use Rattle.machine_model.proofs.order.Deeds.{FitsDeed}

-- ---- lines of memory

-- an address in memory lies in one of its lines
line_inside : (image : Initial) (size : LineSize) (address : ℕ) → length image.bytes % 4096 ≡ 0 → base ≤ address → address < end_of image → is_piece image (line_of size address) (length_of size) ≡ true
line_inside image Bytes16 address pages low high = go (length image.bytes) pages high
  where
    go : (n : ℕ) → n % 4096 ≡ 0 → address < 2147483648 + n → ((address - address % 16) % 16 == 0) && nat_le 2147483648 (address - address % 16) && nat_le (address - address % 16 + 16) (2147483648 + n) ≡ true
    go n pages high =
        let a : (address - address % 16) % 16 ≡ 0 = omega arith in
        let b : 2147483648 ≤ address - address % 16 = omega arith in
        let c : address - address % 16 + 16 ≤ 2147483648 + n = omega arith in
        rw (eq-eqb _ _ a, le-leb _ _ b, le-leb _ _ c) refl
line_inside image Bytes64 address pages low high = go (length image.bytes) pages high
  where
    go : (n : ℕ) → n % 4096 ≡ 0 → address < 2147483648 + n → ((address - address % 64) % 64 == 0) && nat_le 2147483648 (address - address % 64) && nat_le (address - address % 64 + 64) (2147483648 + n) ≡ true
    go n pages high =
        let a : (address - address % 64) % 64 ≡ 0 = omega arith in
        let b : 2147483648 ≤ address - address % 64 = omega arith in
        let c : address - address % 64 + 64 ≤ 2147483648 + n = omega arith in
        rw (eq-eqb _ _ a, le-leb _ _ b, le-leb _ _ c) refl

-- an access that doesn't stop lies in memory
access_inside : (image : Initial) (misaligned outside address bytes : ℕ) → 0 < bytes → access_stop misaligned outside (length image.bytes) address bytes ≡ None → (base ≤ address) × (address < end_of image)
access_inside image misaligned outside address bytes some e = go (address % bytes == 0) (nat_lt address 2147483648) refl (nat_lt (2147483648 + length image.bytes) (address + bytes)) refl e
  where
    go : (t a : Bool) → nat_lt address 2147483648 ≡ a → (b : Bool) → nat_lt (2147483648 + length image.bytes) (address + bytes) ≡ b → (if t then (if a || b then Some outside else None) else Some misaligned) ≡ None → (base ≤ address) × (address < end_of image)
    go false a f b g e = cc e
    go true true f b g e = cc e
    go true false f true g e = cc e
    go true false f false g e = let low : 2147483648 ≤ address = ltb-false _ _ f in let high : address + bytes ≤ 2147483648 + length image.bytes = ltb-false _ _ g in (low, omega arith)

some_bytes : (op : LoadOp) → 0 < bytes_loaded op
some_bytes Lb = omega arith
some_bytes Lh = omega arith
some_bytes Lw = omega arith
some_bytes Lbu = omega arith
some_bytes Lhu = omega arith

abbrev IsInside : Initial → ℕ → Type 0
IsInside image x = (base ≤ x) × (x < end_of image)

instr_inside : (image : Initial) (i : Instr) (pc : ℕ) (regs : List ℕ) → stop_of i pc regs (length image.bytes) ≡ None → (x : ℕ) → Wants (access_of i regs) x → IsInside image x
instr_inside image (instr.Load op rd rs1 offset) pc regs e x w = subst (IsInside image) (sym w) (access_inside image 4 5 _ (bytes_loaded op) (some_bytes op) e)
instr_inside image (instr.Lr rd rs1 bits) pc regs e x w = subst (IsInside image) (sym w) (access_inside image 6 7 _ 4 (omega arith) e)
instr_inside image (instr.Amo op rd rs1 rs2 bits) pc regs e x w = subst (IsInside image) (sym w) (access_inside image 6 7 _ 4 (omega arith) e)
instr_inside image (instr.System Ecall) pc regs e x w = absurd w
instr_inside image (instr.System Ebreak) pc regs e x w = absurd w
instr_inside image _ pc regs e x w = absurd w

-- a word in memory
word_inside : (image : Initial) (word : ℕ) → is_piece image word 4 ≡ true → IsInside image word
word_inside image word on =
    let p = piece image word 4 on in
    let high : word + 4 ≤ end_of image = p.high in
    (p.low, omega arith)

-- so does the address whose copy an event wants
wanted_inside : (s : State) (e : Event) (x : ℕ) → names_well s e ≡ true → IsFor s e x → IsInside s.trace.image x
wanted_inside s (event.Step h) x named w = instr_inside s.trace.image w.0 (node_at s h).hart.pc (node_at s h).hart.regs w.1.no_stop x w.2
wanted_inside s (event.Drain h word) x named w = subst (IsInside s.trace.image) (sym w) (word_inside s.trace.image word named)
wanted_inside s _ x named w = absurd w

-- ---- acts

-- a drain's word is aligned
abbrev pub IsAligned : Act → Type 0
IsAligned (act.Drain word) = word % 4 ≡ 0
IsAligned _ = Unit {0}

-- the word that a drain's event names
pub drained_piece : (s : State) (e : Event) (word : ℕ) → IsMove s e (act.Drain word) → is_piece s.trace.image word 4 ≡ true
drained_piece s e word m = subst (λ f. names_well s f ≡ true) m.rests.0 m.named

pub act_aligned : (s : State) (e : Event) (a : Act) → IsMove s e a → IsAligned a
act_aligned s e (act.Drain word) m = (piece s.trace.image word 4 (drained_piece s e word m)).aligned
act_aligned s e _ m = tt

module _ (s : State) (last : ℕ → LineData) (i : IsFit s last) (h : ℕ) where
  may_write : (address : ℕ) → is_trunk (perm_of (copy_at (node_at s h).cache (line_of (node_at s h).cache.shape.size address))) ≡ true → MayWrite s h address
  may_write address may = subst (λ size. is_trunk (perm_of (copy_at (node_at s h).cache (line_of size address))) ≡ true) (i.sized h) may

  pub trunk_may : (word : ℕ) → HasTrunk (node_at s h) word → MayWrite s h word
  trunk_may word trunk = may_write word (ap (λ o. is_trunk (perm_of o)) trunk.2)

  -- what a deed writes or reserves may be written
  pub deed_may : (entry : Retired) (j : Instr) (d : Deed) → Retires s h entry j d → IsAllowed s h d
  deed_may entry j d r = go (access_of j (node_at s h).hart.regs) d r.does.fit
    where
      valid : (address : ℕ) (reserved : Option ℕ) → (node_at s h).reserved ≡ reserved → is_valid address reserved ≡ true → MayWrite s h address
      valid address None e v = cc v
      valid address (Some word) e v = let same : word ≡ address = eqb-true word address v in i.reserved h address (e ∙ ap Some same)

      go : (a : Access) (d : Deed) → FitsDeed s.views.config.model (node_at s h) (fetched_at s h j) a entry d → IsAllowed s h d
      go (DoesLr address) (deed.Lr word) x = subst (MayWrite s h) (sym x.0) (trunk_may address (x.5.0, x.5.1, x.5.2))
      go (DoesSc address value) (deed.Sc word v) x = subst (MayWrite s h) (sym x.0) (valid address (node_at s h).reserved refl x.3)
      go (DoesAmo address op operand) (deed.Amo word v) x = subst (MayWrite s h) (sym x.0) (trunk_may address (x.6.0, x.6.1, x.6.2))
      go a (deed.Lr word) x = absurd x
      go a (deed.Sc word v) x = absurd x
      go a (deed.Amo word v) x = absurd x
      go a _ x = tt

module _ (s : State) (last : ℕ → LineData) (i : IsFit s last) (h : ℕ) (in_h : h < length s.views.nodes) where
  abbrev n : Node
  n = node_at s h

  abbrev IsLine : ℕ → Type 0
  IsLine l = is_line s.trace.image (line_size s) (length s.views.nodes) l ≡ true

  inside : (address : ℕ) → IsInside s.trace.image address → IsLine (line_of n.cache.shape.size address)
  inside address lies = rw (i.sized h) (line_inside s.trace.image (line_size s) address i.pages lies.0 lies.1)

  -- ---- a delivery

  -- a message in front of a queue goes on the queue's channel
  on_channel : (ch : Channel) (l : ℕ) (body : Body) (rest : List Msg) → queue_of n.queues ch ≡ (record { line = l; body = body }) ∷ rest → channel_of_body body ≡ ch
  on_channel ch l body rest front = go ch front
    where
      at_front : (ch : Channel) → queue_in (side (kit_of n) unknown l) ch ≡ body ∷ of_line l rest → queue_in quiet_side ch ≡ [] → channel_of_body body ≡ ch
      at_front ch e none =
          let on : IsLine l = front_line s.trace.image (line_size s) (length s.views.nodes) (kit_at s) s.views.notes s.views.memory last h l body (of_line l rest) (λ x. queue_in x ch) i.well none e in
          subst (IsHeadOn ch) (same ch ∙ e) (head_on ch ((i.well.kept l on).stands h))
        where
          same : (ch : Channel) → queue_in (side (kit_of n) (known_at (line_at s.views.notes (place_of (line_size s) l)) h) l) ch ≡ queue_in (side (kit_of n) unknown l) ch
          same A = refl
          same B = refl
          same C = refl
          same D = refl
          same E = refl

      go : (ch : Channel) → queue_of n.queues ch ≡ (record { line = l; body = body }) ∷ rest → channel_of_body body ≡ ch
      go A e = at_front A (front_here l n.queues.a body rest e) refl
      go B e = at_front B (front_here l n.queues.b body rest e) refl
      go C e = at_front C (front_here l n.queues.c body rest e) refl
      go D e = at_front D (front_here l n.queues.d body rest e) refl
      go E e = at_front E (front_here l n.queues.e body rest e) refl

  granted_taken : (l : ℕ) (body : Body) → channel_of_body body ≡ D → Framed s (taken h (record { line = l; body = body }) s) h (record n { queues = popped n.queues D })
  granted_taken l body e = subst (λ ch. Framed s (taken h (record { line = l; body = body }) s) h (record n { queues = popped n.queues ch })) e (framed_taken s h (record { line = l; body = body }) in_h)

  delivered_fits : (l : ℕ) (body : Body) (rest : List Msg) → queue_of n.queues (channel_of_body body) ≡ (record { line = l; body = body }) ∷ rest → IsReady s h l body → IsFit (delivered h (record { line = l; body = body }) s) last
  delivered_fits l (AcquireBlock grow) rest front ready = acquired_fits s last i h in_h l grow rest front ready.0 ready.1
  delivered_fits l (ProbeBlock cap) rest front ready = probed_fits s last i h in_h l cap rest ready.0 ready.1 front ready.2
  delivered_fits l (Grant cap) rest front ready = granted_fits s last i h in_h l cap None (Grant cap) rest front (λ x r m. m) (λ x r m. m) (taken h (record { line = l; body = Grant cap }) s) (granted_taken l (Grant cap) refl) refl refl
  delivered_fits l (GrantData cap bytes) rest front ready = granted_fits s last i h in_h l cap (Some bytes) (GrantData cap bytes) rest front (λ x r m. m) (λ x r m. m) (taken h (record { line = l; body = GrantData cap bytes }) s) (granted_taken l (GrantData cap bytes) refl) refl refl
  delivered_fits l (ProbeAck change) rest front ready = probe_ack_fits s last i h in_h l change rest front
  delivered_fits l (ProbeAckData change bytes) rest front ready = probe_ack_data_fits s last i h in_h l change bytes rest front
  delivered_fits l (Release change) rest front ready = release_fits s last i h in_h l change rest front
  delivered_fits l (ReleaseData change bytes) rest front ready = release_data_fits s last i h in_h l change bytes rest front
  delivered_fits l ReleaseAck rest front ready = rested_fits s last i h in_h l rest front
  delivered_fits l GrantAck rest front ready = ended_fits s last i h in_h l rest front

  deliver_fits : (channel : Channel) (m : Msg) → Delivers s h channel m → IsFit (delivered h m s) last
  deliver_fits channel m is = go (queue_of n.queues channel) refl is.front
    where
      go : (q : List Msg) → queue_of n.queues channel ≡ q → front_of q ≡ Some m → IsFit (delivered h m s) last
      go [] e f = cc f
      go (x ∷ rest) e f =
          let same : x ≡ m = cc f in
          let here = subst (λ y. queue_of n.queues channel ≡ y ∷ rest) same e in
          delivered_fits m.line m.body rest (subst (λ c. queue_of n.queues c ≡ m ∷ rest) (sym (on_channel channel m.line m.body rest here)) here) is.ready

-- ---- events

-- an act keeps what holds
pub act_fits : (s : State) (last : ℕ → LineData) → IsFit s last → (e : Event) (a : Act) → IsMove s e a → IsFit (acted (hart_of e) a s) (last_after s (hart_of e) a last)
act_fits s last i e (act.Stop code) m = stopped_fits s last i (hart_of e) m.in_h code
act_fits s last i e (act.Retire entry j d) m = retires_fits s last i (hart_of e) m.in_h s.views.config.model entry j d (deed_may s last i (hart_of e) entry j d m.rests.1)
act_fits s last i e (act.Miss line grow) m =
    let on = inside s last i (hart_of e) m.in_h m.rests.0 (wanted_inside s e m.rests.0 m.named m.rests.1) in
    missed_fits s last i (hart_of e) m.in_h line grow (subst (λ l. is_line s.trace.image (line_size s) (length s.views.nodes) l ≡ true) (sym m.rests.2.lies) on) m.rests.2.answer m.rests.2.reader
act_fits s last i e (act.Drain word) m = drains_fits s last i (hart_of e) m.in_h word (trunk_may s last i (hart_of e) word m.rests.1.trunk)
act_fits s last i e (act.Evict line) m = given_up_fits s last i (hart_of e) m.in_h line m.rests.1.0 m.rests.1.1 (subst (λ f. names_well s f ≡ true) m.rests.0 m.named) m.rests.1.2
act_fits s last i e (act.Deliver msg) m = deliver_fits s last i (hart_of e) m.in_h m.rests.0 msg m.rests.2
act_fits s last i e (act.Local count) m = went_alone_fits s last i (hart_of e) m.in_h count

-- the count of events isn't spoken of
pub counted_fits : (s : State) (last : ℕ → LineData) → IsFit s last → IsFit (counted s) last
counted_fits s last i = record { pages = i.pages; well = i.well; sized = i.sized; reserved = i.reserved }

-- any event, and any list of them
pub happens_fits : (s : State) (e : Event) → Fits s → Fits (happens s e)
happens_fits s e fit =
    by_event Fits s e fit (λ a m.
    let last = last_after s (hart_of e) a fit.0 in
    (last, counted_fits (acted (hart_of e) a s) last (act_fits s fit.0 fit.1 e a m)))

pub after_events_fit : (events : List Event) (s : State) → Fits s → Fits (after_events s events)
after_events_fit [] s fit = fit
after_events_fit (e ∷ events) s fit = after_events_fit events (happens s e) (happens_fits s e fit)
