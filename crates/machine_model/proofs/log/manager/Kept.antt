-- What holds of the manager's messages, and that each act which isn't the manager's keeps it.
use Rattle.std.proofs.Common.{ℕ, ◌<◌, ◌≤◌, true, false, List, ◌≡◌, Option, Some, None, refl, ap, sym, ◌∙◌, subst, length}
use Rattle.std.specs.Prelude.{◌==◌, slice_set}
use Rattle.std.proofs.lemmas.Bool.{cases_lt}
use Rattle.std.proofs.lemmas.Bool.Decides.{eqb_tells}
use Rattle.std.proofs.lemmas.List.{get_or-set_same, get_or-set_other, get_or_past, length-set}
use mathlib.Core.Logic.{◌⊎◌, inl, inr}
use native.Mathlib.Omega.{arith}
use Rattle.client_cache.specs.Cache.{evicted, granted, probed, wanted}
use Rattle.directory.specs.Directory as directory
use Rattle.directory.specs.Directory.{Notes, line_at, quiet, with_line}
use Rattle.directory.specs.Lines as lines
use Rattle.directory.specs.Lines.{Line}
use Rattle.directory.specs.declared.answer.Transaction.TheVariants.{Probing}
use Rattle.elf_loader.specs.Image.{Initial}
use Rattle.machine_model.specs.Changing.{acted, given_up, missed}
use Rattle.machine_model.specs.Deliveries.{on_grant, on_grant_ack, on_probe, on_release, on_release_ack, taken, with_less, with_memory, with_notes}
use Rattle.machine_model.specs.Events.{is_piece}
use Rattle.machine_model.specs.LawfulLog.{is_acquire, may_send}
use Rattle.machine_model.proofs.log.Parts.{is_probe_or_grant}
use Rattle.machine_model.specs.Views.{State, line_size, node_at, place_of, sent, with_node}
use Rattle.machine_model.specs.declared.act.Act.{Act}
use Rattle.machine_types.specs.declared.config.Config.{Config}
use Rattle.machine_model.proofs.Growth.{Follows, acted_follows}
use Rattle.machine_model.proofs.log.Acts.{IsAlone, alone_still}
use Rattle.machine_model.proofs.log.Counts.{EachSent, one_sent, one_taken}
use Rattle.machine_model.proofs.log.Lists.{comes_out, goes_in}
use Rattle.machine_model.proofs.log.manager.Alone.{alone_notes}
use Rattle.machine_model.proofs.log.manager.Numbers.{IsLine, noted}
use Rattle.machine_model.proofs.log.manager.Readings.{and_off, heard_in, heard_out, is_at, last_heard}
use Rattle.machine_model.proofs.log.manager.Sums.{AreBelow, below_more}
use Rattle.tl_types.specs.Line.{length_of}
use Rattle.tl_types.specs.declared.line.LineData.{LineData}
use Rattle.tl_types.specs.declared.message.Body.{Body}
use Rattle.tl_types.specs.declared.message.Body.TheVariants.{AcquireBlock, ProbeAck, ProbeAckData, Release, ReleaseData, ReleaseAck, GrantAck}
use Rattle.tl_types.specs.declared.message.Msg.{Msg}
use Rattle.tl_types.specs.declared.permission.Cap.{Cap}
use Rattle.tl_types.specs.declared.permission.Grow.{Grow}
use Rattle.trace_recorder.specs.declared.logged.Logged.{Logged}
use Rattle.machine_model.proofs.Parts.{by_answered, by_left}
use Rattle.machine_model.specs.Changing.{release_body}
use Rattle.machine_model.specs.Deliveries.{probe_ack_body}
use Rattle.tl_types.specs.declared.permission.Change.{Change}

-- a Probe or a Grant is sent where it may be
abbrev pub Governed : ℕ → Msg → List Logged → Type 0
Governed h m log = is_probe_or_grant m.body ≡ true → may_send m.body h m.line log ≡ true

-- the Acquire of a transaction that probes is the last that its requester's queue gave out
pub record IsGoverned (s : State) : Type 0 where
  pub below : AreBelow s.views.config.harts s.trace.log
  pub heard : (k l : ℕ) (grow : Grow) → IsLine s l → (noted s l).transaction ≡ Probing k grow → last_heard k l s.trace.log ≡ Some (AcquireBlock grow)
  pub each : EachSent Governed s.trace.log

-- the log stays, and no transaction begins to probe
pub record SameMessages (s t : State) : Type 0 where
  pub log : t.trace.log ≡ s.trace.log
  pub image : t.trace.image ≡ s.trace.image
  pub config : t.views.config ≡ s.views.config
  pub probing : (r k : ℕ) (grow : Grow) → (line_at t.views.notes r).transaction ≡ Probing k grow → (line_at s.views.notes r).transaction ≡ Probing k grow

pub same_governed : (s t : State) → SameMessages s t → IsGoverned s → IsGoverned t
same_governed s t q i = record {
  below = subst (λ (c : Config). AreBelow c.harts t.trace.log) (sym q.config) (subst (AreBelow s.views.config.harts) (sym q.log) i.below);
  heard = λ k l grow on e. subst (λ log. last_heard k l log ≡ Some (AcquireBlock grow)) (sym q.log) (i.heard k l grow
      (subst (λ (c : Config). is_piece s.trace.image l (length_of c.line) ≡ true) q.config (subst (λ (image : Initial). is_piece image l (length_of (line_size t)) ≡ true) q.image on))
      (subst (λ (c : Config). (line_at s.views.notes (place_of c.line l)).transaction ≡ Probing k grow) q.config (q.probing (place_of (line_size t) l) k grow e)));
  each = subst (EachSent Governed) (sym q.log) i.each;
}

pub same_views : (s t : State) → t.trace.log ≡ s.trace.log → t.trace.image ≡ s.trace.image → t.views.config ≡ s.views.config → t.views.notes ≡ s.views.notes → SameMessages s t
same_views s t log image config notes = record { log = log; image = image; config = config; probing = λ r k grow e. subst (λ (n : Notes). (line_at n r).transaction ≡ Probing k grow) notes e }

-- ---- messages

pub sent_governed : (h : ℕ) (m : Msg) (s : State) → h < s.views.config.harts → Governed h m s.trace.log → IsGoverned s → IsGoverned (sent h m s)
sent_governed h m s in_h may i = record {
  below = below_more s.views.config.harts s.trace.log (goes_in h m) i.below in_h;
  heard = λ k l grow on e. heard_in k l s.trace.log h m ∙ i.heard k l grow on e;
  each = one_sent Governed s.trace.log h m i.each may;
}

pub taken_governed : (h : ℕ) (m : Msg) (s : State) → h < s.views.config.harts → is_acquire m.body ≡ false → IsGoverned s → IsGoverned (taken h m s)
taken_governed h m s in_h other i = record {
  below = below_more s.views.config.harts s.trace.log (comes_out h m) i.below in_h;
  heard = λ k l grow on e. heard_out k l s.trace.log h m (and_off (is_at k l h m) (is_acquire m.body) other) ∙ i.heard k l grow on e;
  each = one_taken Governed s.trace.log h m i.each;
}

-- a message that is no Probe and no Grant
plain_sent : (h : ℕ) (m : Msg) (s : State) → h < s.views.config.harts → is_probe_or_grant m.body ≡ false → IsGoverned s → IsGoverned (sent h m s)
plain_sent h m s in_h other i = sent_governed h m s in_h (λ is. cc (other, is)) i

-- ---- notes

-- one place is noted anew
pub at_place : (notes : Notes) (p : ℕ) (y : Line) (r : ℕ) → ((r ≡ p) × (line_at (with_line notes p y) r ≡ y)) ⊎ (line_at (with_line notes p y) r ≡ line_at notes r)
at_place notes p y r = go (eqb_tells r p) (cases_lt p (length notes.lines))
  where
    go : (((r == p) ≡ true) × (r ≡ p)) ⊎ (((r == p) ≡ false) × (r ≡ p → ⊥)) → (p < length notes.lines) ⊎ (length notes.lines ≤ p) → ((r ≡ p) × (line_at (with_line notes p y) r ≡ y)) ⊎ (line_at (with_line notes p y) r ≡ line_at notes r)
    go (inl e) (inl lt) = inl (e.1, subst (λ q. line_at (with_line notes p y) q ≡ y) (sym e.1) (get_or-set_same notes.lines p y (quiet notes.harts) lt))
    go (inl e) (inr past) =
        let far : length notes.lines ≤ r = omega (arith, past, e.1) in
        inr (get_or_past (slice_set notes.lines p y) r (quiet notes.harts) (rw (length-set notes.lines p y) far) ∙ sym (get_or_past notes.lines r (quiet notes.harts) far))
    go (inr e) f = inr (get_or-set_other notes.lines p r y (quiet notes.harts) e.1)

-- a line whose transaction doesn't begin to probe
pub noted_same : (s t : State) (p : ℕ) (y : Line) → t.trace ≡ s.trace → t.views.config ≡ s.views.config → t.views.notes ≡ with_line s.views.notes p y → ((k : ℕ) (grow : Grow) → y.transaction ≡ Probing k grow → (line_at s.views.notes p).transaction ≡ Probing k grow) → SameMessages s t
noted_same s t p y trace config notes begins = record {
  log = λ i. (trace i).log;
  image = λ i. (trace i).image;
  config = config;
  probing = λ r k grow e. go r k grow (subst (λ (n : Notes). (line_at n r).transaction ≡ Probing k grow) notes e) (at_place s.views.notes p y r);
}
  where
    go : (r k : ℕ) (grow : Grow) → (line_at (with_line s.views.notes p y) r).transaction ≡ Probing k grow → ((r ≡ p) × (line_at (with_line s.views.notes p y) r ≡ y)) ⊎ (line_at (with_line s.views.notes p y) r ≡ line_at s.views.notes r) → (line_at s.views.notes r).transaction ≡ Probing k grow
    go r k grow e (inl q) = subst (λ a. (line_at s.views.notes a).transaction ≡ Probing k grow) (sym q.0) (begins k grow (ap (λ (x : Line). x.transaction) (sym q.1) ∙ e))
    go r k grow e (inr q) = ap (λ (x : Line). x.transaction) (sym q) ∙ e

-- ---- acts

module _ (s : State) (h : ℕ) (in_h : h < s.views.config.harts) (i : IsGoverned s) where
  pub alone_governed : (a : Act) → IsAlone a → IsGoverned (acted h a s)
  alone_governed a is =
      let follows : Follows s (acted h a s) = acted_follows h a s in
      same_governed s (acted h a s) (same_views s (acted h a s) (alone_still h a s is).quiet.log follows.stays.image follows.stays.config (alone_notes h a s is)) i

  pub missed_governed : (line : ℕ) (grow : Grow) → IsGoverned (missed h line grow s)
  missed_governed line grow =
      let asking : State = with_node h (record (node_at s h) { cache = (wanted (node_at s h).cache line grow).1 }) s in
      plain_sent h (record { line = line; body = AcquireBlock grow }) asking in_h refl (same_governed s asking (same_views s asking refl refl refl refl) i)

  released_plain : (line : ℕ) (change : Change) (bytes : Option LineData) (a : State) → h < a.views.config.harts → IsGoverned a → IsGoverned (sent h (record { line = line; body = release_body change bytes }) a)
  released_plain line change None a in_a j = plain_sent h (record { line = line; body = Release change }) a in_a refl j
  released_plain line change (Some bytes) a in_a j = plain_sent h (record { line = line; body = ReleaseData change bytes }) a in_a refl j

  pub given_up_governed : (line : ℕ) → IsGoverned (given_up h line s)
  given_up_governed line =
      let less : State = with_node h (with_less (evicted (node_at s h).cache line).1 line (node_at s h)) s in
      let still = same_governed s less (same_views s less refl refl refl refl) i in
      by_left IsGoverned less still h line (evicted (node_at s h).cache line).0 (λ change bytes. released_plain line change bytes less in_h still)

  -- ---- deliveries to a cache

  module _ (line : ℕ) (body : Body) (other : is_acquire body ≡ false) where
    abbrev s1 : State
    s1 = taken h (record { line = line; body = body }) s

    i1 : IsGoverned s1
    i1 = taken_governed h (record { line = line; body = body }) s in_h other i

    pub granted_governed : (cap : Cap) (bytes : Option LineData) → IsGoverned (on_grant h line cap bytes s1)
    granted_governed cap bytes =
        let held : State = with_node h (record (node_at s1 h) { cache = granted (node_at s1 h).cache line cap bytes }) s1 in
        plain_sent h (record { line = line; body = GrantAck }) held in_h refl (same_governed s1 held (same_views s1 held refl refl refl refl) i1)

    pub rested_governed : IsGoverned (on_release_ack h line s1)
    rested_governed = same_governed s1 (on_release_ack h line s1) (same_views s1 (on_release_ack h line s1) refl refl refl refl) i1

    answered_plain : (change : Change) (bytes : Option LineData) (b : State) → h < b.views.config.harts → IsGoverned b → IsGoverned (sent h (record { line = line; body = probe_ack_body change bytes }) b)
    answered_plain change None b in_b j = plain_sent h (record { line = line; body = ProbeAck change }) b in_b refl j
    answered_plain change (Some bytes) b in_b j = plain_sent h (record { line = line; body = ProbeAckData change bytes }) b in_b refl j

    pub probed_governed : (cap : Cap) → IsGoverned (on_probe h line cap s1)
    probed_governed cap =
        let shrunk : State = with_node h (with_less (probed (node_at s1 h).cache line cap).1 line (node_at s1 h)) s1 in
        let still = same_governed s1 shrunk (same_views s1 shrunk refl refl refl refl) i1 in
        by_answered IsGoverned shrunk still h line (probed (node_at s1 h).cache line cap).0 (λ change bytes e. answered_plain change bytes shrunk in_h still)

    -- ---- deliveries to the manager that send no Probe and no Grant

    pub released_governed : (bytes : Option LineData) → IsGoverned (on_release h line bytes s1)
    released_governed bytes = go bytes
      where
        p : ℕ
        p = place_of (line_size s1) line

        notes : Notes
        notes = directory.released s1.views.notes p h

        noted_at : (a : State) → a.views.notes ≡ s1.views.notes → SameMessages a (with_notes notes a)
        noted_at a e = noted_same a (with_notes notes a) p (lines.released (line_at s1.views.notes p) h) refl refl (ap (λ (n : Notes). with_line n p (lines.released (line_at s1.views.notes p) h)) (sym e)) (λ k grow f. ap (λ (n : Notes). (line_at n p).transaction) e ∙ f)

        go : (bytes : Option LineData) → IsGoverned (on_release h line bytes s1)
        go None = plain_sent h (record { line = line; body = ReleaseAck }) (with_notes notes s1) in_h refl (same_governed s1 (with_notes notes s1) (noted_at s1 refl) i1)
        go (Some bytes) =
            let stored : State = with_memory line (Some bytes) s1 in
            plain_sent h (record { line = line; body = ReleaseAck }) (with_notes notes stored) in_h refl (same_governed stored (with_notes notes stored) (noted_at stored refl) (same_governed s1 stored (same_views s1 stored refl refl refl refl) i1))

    pub ended_governed : IsGoverned (on_grant_ack line s1)
    ended_governed =
        let p : ℕ = place_of (line_size s1) line in
        same_governed s1 (on_grant_ack line s1) (noted_same s1 (on_grant_ack line s1) p (lines.grant_acked (line_at s1.views.notes p)) refl refl refl (λ k grow e. cc e)) i1
