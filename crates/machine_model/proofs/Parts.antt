-- The parts of an act, by cases: a message goes out or comes in, a cache answers, memory and notes change, an operation is performed, a node's own parts change. What each part keeps, a delivery, a miss, an eviction, a drain and a deed keep.
use Rattle.std.proofs.Common.{ℕ, List, [], ◌∷◌, Bool, true, false, ◌≡◌, Option, Some, None, refl}
use Rattle.std.specs.Prelude.{if◌then◌else◌}
use Rattle.client_cache.specs.Cache.{Cache, answered, copy_at, evicted, granted, probed, wanted}
use Rattle.client_cache.specs.Held.{perm_of}
use Rattle.client_cache.specs.declared.answers.Evict.{Evict}
use Rattle.client_cache.specs.declared.answers.Evict.TheVariants as evict
use Rattle.client_cache.specs.declared.answers.Probed.{Probed}
use Rattle.client_cache.specs.declared.answers.Probed.TheVariants as probe
use Rattle.directory.specs.Directory.{Notes, acquired, grant_acked, probe_acked, released}
use Rattle.directory.specs.declared.answer.Acquired.{Acquired}
use Rattle.directory.specs.declared.answer.Acquired.TheVariants.{Handled}
use Rattle.directory.specs.declared.answer.Grant.{Grant as Granting}
use Rattle.directory.specs.declared.answer.Sent.TheVariants.{Probes, Granting as Grants}
use Rattle.machine_model.specs.Changing.{does, drained, given_up, missed, next_place, performs, performs_own, put_behind, release_body, sent_if_evicted, with_buffer, with_reservation, writes_word}
use Rattle.machine_model.specs.Deliveries.{delivered, grant_body, handled, is_trunk, line_in_memory, on_probe_ack, probe_ack_body, sent_grant, sent_if_answered, sent_if_granted, sent_if_handled, sent_probes, taken, with_less, with_memory, with_notes}
use Rattle.machine_model.specs.Views.{Node, State, line_size, node_at, place_of, sent, with_node, with_trace}
use Rattle.machine_model.specs.Words.{bytes_of_word}
use Rattle.machine_model.specs.declared.act.Deed.{Deed}
use Rattle.machine_model.specs.declared.act.Deed.TheVariants as deed
use Rattle.machine_types.specs.declared.model.MemoryModel.{MemoryModel}
use Rattle.reservations.specs.Reservation.{without_line, lies_in}
use Rattle.store_buffer.specs.ByteMask.{marks_of_access}
use Rattle.store_buffer.specs.Entry.{entry_of}
use Rattle.store_buffer.specs.Groups.{Groups, after_seal, after_take, oldest}
use Rattle.tl_types.specs.declared.line.LineData.{LineData}
use Rattle.tl_types.specs.declared.line.LineSize.{LineSize}
use Rattle.tl_types.specs.declared.message.Body.{Body}
use Rattle.tl_types.specs.declared.message.Body.TheVariants.{AcquireBlock, ProbeBlock, ProbeAck, ProbeAckData, Release, ReleaseData, Grant, GrantData, ReleaseAck, GrantAck}
use Rattle.tl_types.specs.declared.message.Msg.{Msg}
use Rattle.tl_types.specs.declared.permission.Cap.{Cap}
use Rattle.tl_types.specs.declared.permission.Change.{Change}
use Rattle.tl_types.specs.declared.permission.Grow.{Grow}
use Rattle.trace_recorder.specs.History.{with_performed}

-- ---- what may go out: nothing, or a message

module _ (P : State → Type 0) (s : State) (nothing : P s) where
  pub by_answered : (h line : ℕ) (a : Probed) → ((change : Change) (bytes : Option LineData) → a ≡ probe.Answered change bytes → P (sent h (record { line = line; body = probe_ack_body change bytes }) s)) → P (sent_if_answered h line a s)
  by_answered h line (probe.Answered change bytes) sends = sends change bytes refl
  by_answered h line _ sends = nothing

  pub by_left : (h line : ℕ) (e : Evict) → ((change : Change) (bytes : Option LineData) → P (sent h (record { line = line; body = release_body change bytes }) s)) → P (sent_if_evicted h line e s)
  by_left h line (evict.Evicted change bytes) sends = sends change bytes
  by_left h line _ sends = nothing

  pub by_granted : (line : ℕ) (g : Option Granting) → ((g : Granting) → P (sent_grant line g s)) → P (sent_if_granted line g s)
  by_granted line None sends = nothing
  by_granted line (Some g) sends = sends g

-- the manager's Probes and Grants
module _ (P : State → Type 0) (probes : (h line : ℕ) (cap : Cap) (s : State) → P s → P (sent h (record { line = line; body = ProbeBlock cap }) s)) (grants : (line : ℕ) (g : Granting) (s : State) → P s → P (sent_grant line g s)) where
  all_probes : (harts : List ℕ) (line : ℕ) (cap : Cap) (s : State) → P s → P (sent_probes harts line cap s)
  all_probes [] line cap s p = p
  all_probes (h ∷ harts) line cap s p = all_probes harts line cap (sent h (record { line = line; body = ProbeBlock cap }) s) (probes h line cap s p)

  pub by_handled : (line : ℕ) (a : Acquired) (s : State) → P s → P (sent_if_handled line a s)
  by_handled line (Handled (Probes cap harts)) s p = all_probes harts line cap s p
  by_handled line (Handled (Grants g)) s p = grants line g s p
  by_handled line _ s p = p

-- ---- messages and caches

-- a word is reserved only where it was
abbrev pub IsLess : Option ℕ → Option ℕ → Type 0
IsLess new old = (word : ℕ) → new ≡ Some word → old ≡ Some word

-- only the cache of a node changed, and a reservation may have gone
pub record IsOfCache (new old : Node) : Type 0 where
  pub hart : new.hart ≡ old.hart
  pub output : new.output ≡ old.output
  pub buffer : new.buffer ≡ old.buffer
  pub queues : new.queues ≡ old.queues
  pub reserved : IsLess new.reserved old.reserved

cache_only : (n : Node) (c : Cache) → IsOfCache (record n { cache = c }) n
cache_only n c = record { hart = refl; output = refl; buffer = refl; queues = refl; reserved = λ w e. e }

without_less : (line : ℕ) (size : LineSize) (o : Option ℕ) → IsLess (without_line line size o) o
without_less line size None w e = e
without_less line size (Some word) w e = go (lies_in line size word) e
  where
    go : (t : Bool) → (if t then None else Some word) ≡ Some w → Some word ≡ Some w
    go true e = cc e
    go false e = e

less_only : (n : Node) (c : Cache) (line : ℕ) → IsOfCache (with_less c line n) n
less_only n c line = record { hart = refl; output = refl; buffer = refl; queues = refl; reserved = λ w e. go w (is_trunk (perm_of (copy_at c line))) e }
  where
    go : (w : ℕ) (t : Bool) → (if t then n.reserved else without_line line c.shape.size n.reserved) ≡ Some w → n.reserved ≡ Some w
    go w true e = e
    go w false e = without_less line c.shape.size n.reserved w e

pub record KeptByMessages (P : State → Type 0) : Type 0 where
  pub sends : (h : ℕ) (m : Msg) (s : State) → P s → P (sent h m s)
  pub takes : (h : ℕ) (m : Msg) (s : State) → P s → P (taken h m s)
  pub caches : (h : ℕ) (n : Node) (s : State) → IsOfCache n (node_at s h) → P s → P (with_node h n s)
  pub stores : (memory : List LineData) (notes : Notes) (s : State) → P s → P (record s { views = record s.views { memory = memory; notes = notes } })

module _ (P : State → Type 0) (k : KeptByMessages P) where
  sends_to : (h : ℕ) (line : ℕ) (body : Body) (s : State) → P s → P (sent h (record { line = line; body = body }) s)
  sends_to h line body s p = k.sends h (record { line = line; body = body }) s p

  stored : (line : ℕ) (bytes : Option LineData) (notes : Notes) (s : State) → P s → P (with_notes notes (with_memory line bytes s))
  stored line None notes s p = k.stores s.views.memory notes s p
  stored line (Some bytes) notes s p = k.stores _ notes s p

  grants : (line : ℕ) (g : Granting) (s : State) → P s → P (sent_grant line g s)
  grants line g s p = sends_to g.hart line (grant_body g (line_in_memory s line)) s p

  acknowledged : (h line : ℕ) (change : Change) (bytes : Option LineData) (s : State) → P s → P (on_probe_ack h line change bytes s)
  acknowledged h line change bytes s p =
      let answer = probe_acked s.views.notes (place_of (line_size s) line) h change in
      let noted = with_notes answer.1 (with_memory line bytes s) in
      let q = stored line bytes answer.1 s p in
      by_granted P noted q line answer.0 (λ g. grants line g noted q)

  handled_keeps : (h line : ℕ) (body : Body) (s : State) → P s → P (handled h line body s)
  handled_keeps h line (AcquireBlock grow) s p =
      let answer = acquired s.views.notes (place_of (line_size s) line) h grow in
      by_handled P (λ h line cap s p. sends_to h line (ProbeBlock cap) s p) grants line answer.0 (with_notes answer.1 s) (stored line None answer.1 s p)
  handled_keeps h line (ProbeBlock cap) s p =
      let answer = probed (node_at s h).cache line cap in
      let shrunk = with_node h (with_less answer.1 line (node_at s h)) s in
      let q = k.caches h (with_less answer.1 line (node_at s h)) s (less_only (node_at s h) answer.1 line) p in
      by_answered P shrunk q h line answer.0 (λ change bytes e. sends_to h line (probe_ack_body change bytes) shrunk q)
  handled_keeps h line (ProbeAck change) s p = acknowledged h line change None s p
  handled_keeps h line (ProbeAckData change bytes) s p = acknowledged h line change (Some bytes) s p
  handled_keeps h line (Release change) s p = sends_to h line ReleaseAck _ (stored line None (released s.views.notes (place_of (line_size s) line) h) s p)
  handled_keeps h line (ReleaseData change bytes) s p = sends_to h line ReleaseAck _ (stored line (Some bytes) (released s.views.notes (place_of (line_size s) line) h) s p)
  handled_keeps h line (Grant cap) s p = sends_to h line GrantAck _ (k.caches h _ s (cache_only (node_at s h) (granted (node_at s h).cache line cap None)) p)
  handled_keeps h line (GrantData cap bytes) s p = sends_to h line GrantAck _ (k.caches h _ s (cache_only (node_at s h) (granted (node_at s h).cache line cap (Some bytes))) p)
  handled_keeps h line ReleaseAck s p = k.caches h _ s (cache_only (node_at s h) (answered (node_at s h).cache line)) p
  handled_keeps h line GrantAck s p = stored line None (grant_acked s.views.notes (place_of (line_size s) line)) s p

  pub delivered_by : (h : ℕ) (m : Msg) (s : State) → P s → P (delivered h m s)
  delivered_by h m s p = handled_keeps h m.line m.body (taken h m s) (k.takes h m s p)

  pub missed_by : (h line : ℕ) (grow : Grow) (s : State) → P s → P (missed h line grow s)
  missed_by h line grow s p = sends_to h line (AcquireBlock grow) _ (k.caches h _ s (cache_only (node_at s h) (wanted (node_at s h).cache line grow).1) p)

  pub given_up_by : (h line : ℕ) (s : State) → P s → P (given_up h line s)
  given_up_by h line s p =
      let answer = evicted (node_at s h).cache line in
      let less = with_node h (with_less answer.1 line (node_at s h)) s in
      let q = k.caches h (with_less answer.1 line (node_at s h)) s (less_only (node_at s h) answer.1 line) p in
      by_left P less q h line answer.0 (λ change bytes. sends_to h line (release_body change bytes) less q)

-- ---- deeds and drains

pub record KeptByDeeds (P : State → Type 0) : Type 0 where
  pub performs : (h place : ℕ) (s : State) → P s → P (with_trace (with_performed (record { hart = h; place = place }) s.trace) s)
  pub puts_out : (h : ℕ) (numbers : List ℕ) (s : State) → P s → P (with_node h (record (node_at s h) { output = numbers }) s)
  pub buffers : (h : ℕ) (b : Groups) (s : State) → P s → P (with_buffer h b s)
  pub reserves : (h : ℕ) (o : Option ℕ) (s : State) → P s → P (with_reservation h o s)
  pub writes : (h word : ℕ) (marks : List Bool) (bytes : List ℕ) (s : State) → P s → P (writes_word h word marks bytes s)

module _ (P : State → Type 0) (k : KeptByDeeds P) where
  pub performs_by : (h : ℕ) (places : List ℕ) (s : State) → P s → P (performs h places s)
  performs_by h [] s p = p
  performs_by h (place ∷ places) s p = performs_by h places (with_trace (with_performed (record { hart = h; place = place }) s.trace) s) (k.performs h place s p)

  pub drained_by : (h word : ℕ) (s : State) → P s → P (drained h word s)
  drained_by h word s p =
      let e = entry_of word (oldest (node_at s h).buffer) in
      let done = performs h e.ops s in
      k.buffers h (after_take word (node_at s h).buffer) (writes_word h word e.mask e.bytes done) (k.writes h word e.mask e.bytes done (performs_by h e.ops s p))

  pub does_by : (model : MemoryModel) (h : ℕ) (d : Deed) (s : State) → P s → P (does model h d s)
  does_by model h deed.Private s p = p
  does_by model h (deed.Output number) s p = k.puts_out h _ s p
  does_by model h deed.Load s p = k.performs h (next_place s h) s p
  does_by model h (deed.Store store) s p = k.buffers h (put_behind model store (node_at s h).buffer) s p
  does_by model h deed.Seal s p = k.buffers h (after_seal (node_at s h).buffer) s p
  does_by model h (deed.Lr word) s p = k.reserves h (Some word) (performs_own h s) (k.performs h (next_place s h) s p)
  does_by model h deed.Fail s p = k.reserves h None s p
  does_by model h (deed.Sc word value) s p = k.reserves h None _ (k.writes h word (marks_of_access 0 4) (bytes_of_word value) (performs_own h s) (k.performs h (next_place s h) s p))
  does_by model h (deed.Amo word value) s p = k.writes h word (marks_of_access 0 4) (bytes_of_word value) (performs_own h s) (k.performs h (next_place s h) s p)
