-- Misses, evictions and deliveries show a flat machine nothing.
use Rattle.std.proofs.Common.{◌≡◌, ◌≢◌, ℕ, ◌<◌, List, [], ◌∷◌, Bool, true, false, Option, Some, None, refl, sym, ap, ◌∙◌, subst, cond, ◌⊎◌, inl, inr, length}
use Rattle.std.specs.Prelude.{nat_eq}
use Rattle.std.proofs.lemmas.Bool.Decides.{eqb_tells}
use Rattle.std.proofs.lemmas.List.{length-set}
use Rattle.client_cache.specs.Cache.{Cache, copy_at, evicted, granted, probed, wanted}
use Rattle.client_cache.specs.Held.{perm_of}
use Rattle.client_cache.specs.declared.answers.Evict.{Evict}
use Rattle.client_cache.specs.declared.answers.Evict.TheVariants as evict
use Rattle.client_cache.specs.declared.answers.Probed.{Probed}
use Rattle.client_cache.specs.declared.answers.Probed.TheVariants as probe
use Rattle.machine_model.specs.Directory.{acquired, probe_acked, released}
use Rattle.machine_model.specs.Acquired.{Acquired}
use Rattle.machine_model.specs.AcquiredVariants.{Handled, Busy}
use Rattle.machine_model.specs.Grant.{Grant as Granting}
use Rattle.machine_model.specs.Sent.{Sent}
use Rattle.machine_model.specs.SentVariants.{Probes, Granting as Grants}
use Rattle.flat_model.specs.Flat as of_flat
use Rattle.flat_model.specs.Flat.{Flat}
use Rattle.flat_model.specs.Shown.{IsShownBy}
use Rattle.flat_model.proofs.Sees.{Sees, shown_as}
use Rattle.machine_model.specs.Changing.{given_up, missed, sent_if_evicted}
use Rattle.machine_model.specs.Deliveries.{delivered, handled, is_trunk, kept_reservation, on_grant, on_probe_ack, on_release, sent_any, sent_if_answered, sent_if_granted, sent_if_handled, sent_probes, taken, with_less, with_memory, with_notes}
use Rattle.machine_model.specs.Views.{Node, State, line_size, node_at, place_of, sent, with_node}
use Rattle.machine_model.proofs.Nodes.{node_other, node_same}
use Rattle.machine_model.specs.Reservation.{lies_in, without_line}
use Rattle.tl_types.specs.declared.line.LineData.{LineData}
use Rattle.tl_types.specs.declared.line.LineSize.{LineSize}
use Rattle.tl_types.specs.declared.message.Body.{Body}
use Rattle.tl_types.specs.declared.message.Body.TheVariants.{AcquireBlock, ProbeBlock, ProbeAck, ProbeAckData, Release, ReleaseData, Grant, GrantData, ReleaseAck, GrantAck}
use Rattle.tl_types.specs.declared.message.Msg.{Msg}
use Rattle.tl_types.specs.declared.permission.Cap.{Cap}
use Rattle.tl_types.specs.declared.permission.Change.{Change}
use Rattle.tl_types.specs.declared.permission.Grow.{Grow}

-- ---- one node

-- a node that still shows no more
hides : (h : ℕ) (n : Node) (s : State) (f : Flat) → (h < length s.views.nodes → IsShownBy n (of_flat.node_at f h)) → Sees s f → Sees (with_node h n s) f
hides h n s f i v = record {
  config = v.config;
  count = v.count ∙ sym (length-set s.views.nodes h n);
  nodes = λ k b. at k (subst (λ c. k < c) (length-set s.views.nodes h n) b) (eqb_tells k h);
  trace = v.trace;
}
  where
    at : (k : ℕ) → k < length s.views.nodes → ((nat_eq k h ≡ true) × (k ≡ h)) ⊎ ((nat_eq k h ≡ false) × (k ≢ h)) → IsShownBy (node_at (with_node h n s) k) (of_flat.node_at f k)
    at k b (inl q) =
        let l : h < length s.views.nodes = subst (λ j. j < length s.views.nodes) q.1 b in
        shown_as n (node_at (with_node h n s) k) (of_flat.node_at f h) (of_flat.node_at f k) (ap (node_at (with_node h n s)) q.1 ∙ node_same h n s l) (ap (of_flat.node_at f) q.1) (i l)
    at k b (inr q) = shown_as (node_at s k) _ (of_flat.node_at f k) _ (node_other h k n s q.1) refl (v.nodes k b)

-- its cache and queues are other ones, and its reservation is the same or gone
loses : (h : ℕ) (n : Node) (s : State) (f : Flat) → n.hart ≡ (node_at s h).hart → n.output ≡ (node_at s h).output → n.buffer ≡ (node_at s h).buffer → ((word : ℕ) → n.reserved ≡ Some word → (node_at s h).reserved ≡ Some word) → Sees s f → Sees (with_node h n s) f
loses h n s f a b c d v = hides h n s f (λ l. let i = v.nodes h l in record { hart = i.hart ∙ sym a; output = i.output ∙ sym b; buffer = i.buffer ∙ sym c; reserved = λ w e. i.reserved w (d w e) }) v

without_less : (line : ℕ) (size : LineSize) (o : Option ℕ) (w : ℕ) → without_line line size o ≡ Some w → o ≡ Some w
without_less line size None w e = e
without_less line size (Some word) w e = go (lies_in line size word) e
  where
    none_not : None ≡ Some w → ⊥
    none_not e = cc

    go : (b : Bool) → cond b None (Some word) ≡ Some w → Some word ≡ Some w
    go true e = absurd (none_not e)
    go false e = e

kept_less : (c : Cache) (line : ℕ) (o : Option ℕ) (w : ℕ) → kept_reservation c line o ≡ Some w → o ≡ Some w
kept_less c line o w e = go (is_trunk (perm_of (copy_at c line))) e
  where
    go : (b : Bool) → cond b o (without_line line c.shape.size o) ≡ Some w → o ≡ Some w
    go true e = e
    go false e = without_less line c.shape.size o w e

-- ---- messages

module _ (f : Flat) where
  sent_sees : (h : ℕ) (m : Msg) (s : State) → Sees s f → Sees (sent h m s) f
  sent_sees h m s v = let k = loses h _ s f refl refl refl (λ w e. e) v in record { config = k.config; count = k.count; nodes = k.nodes; trace = k.trace }

  taken_sees : (h : ℕ) (m : Msg) (s : State) → Sees s f → Sees (taken h m s) f
  taken_sees h m s v = let k = loses h _ s f refl refl refl (λ w e. e) v in record { config = k.config; count = k.count; nodes = k.nodes; trace = k.trace }

  probes_sees : (harts : List ℕ) (line : ℕ) (cap : Cap) (s : State) → Sees s f → Sees (sent_probes harts line cap s) f
  probes_sees [] line cap s v = v
  probes_sees (hart ∷ harts) line cap s v = probes_sees harts line cap _ (sent_sees hart (record { line = line; body = ProbeBlock cap }) s v)

  any_sees : (line : ℕ) (a : Sent) (s : State) → Sees s f → Sees (sent_any line a s) f
  any_sees line (Probes cap harts) s v = probes_sees harts line cap s v
  any_sees line (Grants g) s v = sent_sees g.hart _ s v

  if_handled : (line : ℕ) (a : Acquired) (s : State) → Sees s f → Sees (sent_if_handled line a s) f
  if_handled line Busy s v = v
  if_handled line (Handled sends) s v = any_sees line sends s v

  if_granted : (line : ℕ) (g : Option Granting) (s : State) → Sees s f → Sees (sent_if_granted line g s) f
  if_granted line None s v = v
  if_granted line (Some g) s v = sent_sees g.hart _ s v

  if_answered : (h line : ℕ) (p : Probed) (s : State) → Sees s f → Sees (sent_if_answered h line p s) f
  if_answered h line probe.Releasing s v = v
  if_answered h line (probe.Answered change bytes) s v = sent_sees h _ s v

  if_evicted : (h line : ℕ) (e : Evict) (s : State) → Sees s f → Sees (sent_if_evicted h line e s) f
  if_evicted h line (evict.Evicted change bytes) s v = sent_sees h _ s v
  if_evicted h line evict.NotHeld s v = v
  if_evicted h line evict.AcquirePending s v = v
  if_evicted h line evict.ReleaseFull s v = v

  memory_sees : (line : ℕ) (bytes : Option LineData) (s : State) → Sees s f → Sees (with_memory line bytes s) f
  memory_sees line None s v = v
  memory_sees line (Some bytes) s v = record { config = v.config; count = v.count; nodes = v.nodes; trace = v.trace }

  acknowledged : (h line : ℕ) (change : Change) (bytes : Option LineData) (s : State) → Sees s f → Sees (on_probe_ack h line change bytes s) f
  acknowledged h line change bytes s v =
      let answer = probe_acked s.views.notes (place_of (line_size s) line) h change in
      let k = memory_sees line bytes s v in
      if_granted line answer.0 (with_notes answer.1 (with_memory line bytes s)) (record { config = k.config; count = k.count; nodes = k.nodes; trace = k.trace })

  released_sees : (h line : ℕ) (bytes : Option LineData) (s : State) → Sees s f → Sees (on_release h line bytes s) f
  released_sees h line bytes s v =
      let k = memory_sees line bytes s v in
      sent_sees h (record { line = line; body = ReleaseAck }) (with_notes (released s.views.notes (place_of (line_size s) line) h) (with_memory line bytes s)) (record { config = k.config; count = k.count; nodes = k.nodes; trace = k.trace })

  granted_sees : (h line : ℕ) (cap : Cap) (bytes : Option LineData) (s : State) → Sees s f → Sees (on_grant h line cap bytes s) f
  granted_sees h line cap bytes s v = sent_sees h (record { line = line; body = GrantAck }) (with_node h (record (node_at s h) { cache = granted (node_at s h).cache line cap bytes }) s) (loses h _ s f refl refl refl (λ w e. e) v)

  handled_sees : (h line : ℕ) (body : Body) (s : State) → Sees s f → Sees (handled h line body s) f
  handled_sees h line (AcquireBlock grow) s v =
      let answer = acquired s.views.notes (place_of (line_size s) line) h grow in
      if_handled line answer.0 (with_notes answer.1 s) (record { config = v.config; count = v.count; nodes = v.nodes; trace = v.trace })
  handled_sees h line (ProbeBlock cap) s v =
      let answer = probed (node_at s h).cache line cap in
      if_answered h line answer.0 (with_node h (with_less answer.1 line (node_at s h)) s) (loses h _ s f refl refl refl (kept_less answer.1 line (node_at s h).reserved) v)
  handled_sees h line (ProbeAck change) s v = acknowledged h line change None s v
  handled_sees h line (ProbeAckData change bytes) s v = acknowledged h line change (Some bytes) s v
  handled_sees h line (Release change) s v = released_sees h line None s v
  handled_sees h line (ReleaseData change bytes) s v = released_sees h line (Some bytes) s v
  handled_sees h line (Grant cap) s v = granted_sees h line cap None s v
  handled_sees h line (GrantData cap bytes) s v = granted_sees h line cap (Some bytes) s v
  handled_sees h line ReleaseAck s v = loses h _ s f refl refl refl (λ w e. e) v
  handled_sees h line GrantAck s v = record { config = v.config; count = v.count; nodes = v.nodes; trace = v.trace }

  -- ---- acts

  pub delivered_sees : (h : ℕ) (m : Msg) (s : State) → Sees s f → Sees (delivered h m s) f
  delivered_sees h m s v = handled_sees h m.line m.body (taken h m s) (taken_sees h m s v)

  pub missed_sees : (h line : ℕ) (grow : Grow) (s : State) → Sees s f → Sees (missed h line grow s) f
  missed_sees h line grow s v = sent_sees h (record { line = line; body = AcquireBlock grow }) (with_node h (record (node_at s h) { cache = (wanted (node_at s h).cache line grow).1 }) s) (loses h _ s f refl refl refl (λ w e. e) v)

  pub given_up_sees : (h line : ℕ) (s : State) → Sees s f → Sees (given_up h line s) f
  given_up_sees h line s v =
      let answer = evicted (node_at s h).cache line in
      if_evicted h line answer.0 (with_node h (with_less answer.1 line (node_at s h)) s) (loses h _ s f refl refl refl (kept_less answer.1 line (node_at s h).reserved) v)
