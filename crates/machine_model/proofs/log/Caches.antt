-- A cache sends no Acquire and no Release of a line, nor answers a Probe of it, before its Release is answered, and so with its Acquire.
use Rattle.std.proofs.Common.{ℕ, ◌+◌, ◌<◌, Bool, true, false, List, [], ◌∷◌, ◌++◌, ◌≡◌, Option, Some, None, refl, ap, sym, ◌∙◌, subst, length}
use Rattle.std.specs.Prelude.{◌≢◌, ◌==◌, ◌&&◌}
use Rattle.std.specs.FinSet as set
use Rattle.std.specs.FinSet.{FinSet}
use Rattle.std.specs.Ordering.{nat_cmp}
use Rattle.std.proofs.lemmas.Bool.{and_from}
use Rattle.std.proofs.lemmas.List.{get_or-set_same, get_or-set_other, length-set}
use native.Mathlib.Omega.{arith}
use Rattle.client_cache.proofs.AtLines.{evicted_other, evicted_own, missed_own, remove_other, remove_own, wanted_other}
use Rattle.client_cache.specs.AtLine.{AtLine}
use Rattle.client_cache.specs.Cache.{Cache, answered, copy_at, evicted, granted, probed, probed_copy, wanted}
use Rattle.client_cache.specs.declared.answers.Evict.{Evict}
use Rattle.client_cache.specs.declared.answers.Evict.TheVariants.{Evicted}
use Rattle.client_cache.specs.declared.answers.Probed.TheVariants.{Answered}
use Rattle.client_cache.specs.declared.answers.Want.TheVariants.{Missed}
use Rattle.client_cache.specs.declared.held.Held.{Held}
use Rattle.machine_model.specs.Changing.{given_up, missed, release_body, sent_if_evicted}
use Rattle.machine_model.specs.Deliveries.{on_grant, on_probe, on_release_ack, probe_ack_body, taken, with_less}
use Rattle.machine_model.specs.LawfulLog.{is_acquire, is_grant, is_release, is_release_ack, no_acquire_open, no_release_open}
use Rattle.machine_model.specs.Views.{Node, State, no_node, node_at, sent, with_node}
use Rattle.machine_model.proofs.Nodes.{same-set}
use Rattle.machine_model.proofs.coherence.LineViews.{evicted_says, missed_says, probed_says}
use Rattle.machine_model.proofs.log.Acts.{IsManaging, Still, still_node}
use Rattle.machine_model.proofs.log.Counts.{EachSent, bit, one_sent, one_taken}
use Rattle.machine_model.proofs.log.Lists.{comes_out, goes_in}
use Rattle.machine_model.proofs.log.Flags.{Tells, Turned, balance, comes, goes, no_bit, settled, still_tells}
use Rattle.tl_types.specs.declared.line.LineData.{LineData}
use Rattle.tl_types.specs.declared.message.Body.{Body}
use Rattle.tl_types.specs.declared.message.Body.TheVariants.{AcquireBlock, ProbeBlock, ProbeAck, ProbeAckData, Release, ReleaseData, Grant, GrantData, GrantAck}
use Rattle.tl_types.specs.declared.message.Msg.{Msg}
use Rattle.tl_types.specs.declared.permission.Cap.{Cap}
use Rattle.tl_types.specs.declared.permission.Change.{Change}
use Rattle.tl_types.specs.declared.permission.Grow.{Grow}
use Rattle.trace_recorder.specs.declared.logged.Logged.{Logged}
use Rattle.machine_model.proofs.CacheCalls.{by_probed}
use Rattle.machine_model.proofs.Parts.{by_answered}

-- what of the hart has to be answered before the message goes out
abbrev pub is_free : Body → ℕ → ℕ → List Logged → Bool
is_free (AcquireBlock grow) h l log = no_acquire_open h l log && no_release_open h l log
is_free (ProbeAck change) h l log = no_release_open h l log
is_free (ProbeAckData change bytes) h l log = no_release_open h l log
is_free (Release change) h l log = no_release_open h l log && no_acquire_open h l log
is_free (ReleaseData change bytes) h l log = no_release_open h l log && no_acquire_open h l log
is_free _ h l log = true

abbrev pub IsFree : ℕ → Msg → List Logged → Type 0
IsFree h m log = is_free m.body h m.line log ≡ true

abbrev acq : Cache → FinSet nat_cmp
acq c = c.acquiring

abbrev rel : Cache → FinSet nat_cmp
rel c = c.releasing

pub record IsFlagged (s : State) : Type 0 where
  pub asked : Tells is_acquire is_grant (λ (c : Cache). c.acquiring) s
  pub left : Tells is_release is_release_ack (λ (c : Cache). c.releasing) s
  pub each : EachSent IsFree s.trace.log

pub still_flagged : (s t : State) → Still s t → IsFlagged s → IsFlagged t
still_flagged s t q i = record {
  asked = still_tells is_acquire is_grant acq s t q.quiet.log q.quiet.count q.acquiring i.asked;
  left = still_tells is_release is_release_ack rel s t q.quiet.log q.quiet.count q.releasing i.left;
  each = subst (EachSent IsFree) (sym q.quiet.log) i.each;
}

-- ---- messages that say nothing of what is outstanding

pub plus_none : (a b c : ℕ) → a ≡ b → c ≡ 0 → a ≡ b + c
plus_none a b c e z = omega (arith, e, z)

none_plus : (a b c : ℕ) → a ≡ b → c ≡ 0 → a + c ≡ b
none_plus a b c e z = omega (arith, e, z)

module _ (h : ℕ) (m : Msg) (s : State) where
  pub plain_sent : is_acquire m.body ≡ false → is_release m.body ≡ false → IsFree h m s.trace.log → IsFlagged s → IsFlagged (sent h m s)
  plain_sent a r free i = record {
    asked = goes is_acquire is_grant acq s (sent h m s) h m refl (length-set s.views.nodes h _) (λ k l d. plus_none _ _ _ (same-set (λ (x : Node). bit (set.contains x.cache.acquiring l)) s.views.nodes h k _ d (no_node s) refl) (no_bit (h == k && m.line == l) (is_acquire m.body) a)) i.asked;
    left = goes is_release is_release_ack rel s (sent h m s) h m refl (length-set s.views.nodes h _) (λ k l d. plus_none _ _ _ (same-set (λ (x : Node). bit (set.contains x.cache.releasing l)) s.views.nodes h k _ d (no_node s) refl) (no_bit (h == k && m.line == l) (is_release m.body) r)) i.left;
    each = one_sent IsFree s.trace.log h m i.each free;
  }

  pub plain_taken : is_grant m.body ≡ false → is_release_ack m.body ≡ false → IsFlagged s → IsFlagged (taken h m s)
  plain_taken g r i = record {
    asked = comes is_acquire is_grant acq s (taken h m s) h m refl (length-set s.views.nodes h _) (λ k l d. none_plus _ _ _ (same-set (λ (x : Node). bit (set.contains x.cache.acquiring l)) s.views.nodes h k _ d (no_node s) refl) (no_bit (h == k && m.line == l) (is_grant m.body) g)) i.asked;
    left = comes is_release is_release_ack rel s (taken h m s) h m refl (length-set s.views.nodes h _) (λ k l d. none_plus _ _ _ (same-set (λ (x : Node). bit (set.contains x.cache.releasing l)) s.views.nodes h k _ d (no_node s) refl) (no_bit (h == k && m.line == l) (is_release_ack m.body) r)) i.left;
    each = one_taken IsFree s.trace.log h m i.each;
  }

pub managed : (h : ℕ) (m : Msg) (s : State) → IsManaging m.body → IsFlagged s → IsFlagged (sent h m s)
managed h m s is i = go m.body refl is
  where
    go : (body : Body) → m.body ≡ body → IsManaging body → IsFlagged (sent h m s)
    go (ProbeBlock cap) e is = plain_sent h m s (ap is_acquire e) (ap is_release e) (ap (λ b. is_free b h m.line s.trace.log) e) i
    go (Grant cap) e is = plain_sent h m s (ap is_acquire e) (ap is_release e) (ap (λ b. is_free b h m.line s.trace.log) e) i
    go (GrantData cap bytes) e is = plain_sent h m s (ap is_acquire e) (ap is_release e) (ap (λ b. is_free b h m.line s.trace.log) e) i
    go _ e is = absurd is

-- ---- one cache turns

turned_node : (h : ℕ) (n : Node) (s : State) → h < length s.views.nodes → Turned s (with_node h n s) h n.cache
turned_node h n s in_h = record {
  in_h = in_h;
  count = length-set s.views.nodes h n;
  here = λ d. ap (λ (x : Node). x.cache) (get_or-set_same s.views.nodes h n d in_h);
  there = λ k d ne. ap (λ (x : Node). x.cache) (get_or-set_other s.views.nodes h k n d ne);
}

turned_sent : (s a : State) (h : ℕ) (c : Cache) (m : Msg) → Turned s a h c → Turned s (sent h m a) h c
turned_sent s a h c m u = record {
  in_h = u.in_h;
  count = length-set a.views.nodes h _ ∙ u.count;
  here = λ d. same-set (λ (x : Node). x.cache) a.views.nodes h h _ d (no_node a) refl ∙ u.here d;
  there = λ k d ne. same-set (λ (x : Node). x.cache) a.views.nodes h k _ d (no_node a) refl ∙ u.there k d ne;
}

-- the bits of a flag that stays, goes up and goes down
sum_same : (a b x y z : ℕ) → a + x ≡ b + y → x ≡ 0 → y ≡ 0 → z ≡ 0 → a ≡ b + z
sum_same a b x y z e p q r = omega (arith, e, p, q, r)

sum_same_out : (a b x y z : ℕ) → a + x ≡ b + y → x ≡ 0 → y ≡ 0 → z ≡ 0 → a + z ≡ b
sum_same_out a b x y z e p q r = omega (arith, e, p, q, r)

sum_up : (a b x y z : ℕ) → a + x ≡ b + y → x ≡ 0 → z ≡ y → a ≡ b + z
sum_up a b x y z e p q = omega (arith, e, p, q)

sum_down : (a b x y z : ℕ) → a + x ≡ b + y → y ≡ 0 → z ≡ x → a + z ≡ b
sum_down a b x y z e p q = omega (arith, e, p, q)

module _ (question answer : Body → Bool) (f : Cache → FinSet nat_cmp) (s t : State) (h : ℕ) (c : Cache) (m : Msg) (u : Turned s t h c) (others : (l : ℕ) → l ≢ m.line → set.contains (f c) l ≡ set.contains (f (node_at s h).cache) l) (i : Tells question answer f s) where
  abbrev here : ℕ → ℕ → Bool
  here k l = h == k && m.line == l

  stays_sent : t.trace.log ≡ s.trace.log ++ goes_in h m ∷ [] → question m.body ≡ false → set.contains (f c) m.line ≡ set.contains (f (node_at s h).cache) m.line → Tells question answer f t
  stays_sent log other own = goes question answer f s t h m log u.count (λ k l d. sum_same _ _ _ _ _ (balance f s t h c m.line false false u others (ap (λ b. bit b + 0) own) k l d) (no_bit (here k l) false refl) (no_bit (here k l) false refl) (no_bit (here k l) (question m.body) other)) i

  stays_taken : t.trace.log ≡ s.trace.log ++ comes_out h m ∷ [] → answer m.body ≡ false → set.contains (f c) m.line ≡ set.contains (f (node_at s h).cache) m.line → Tells question answer f t
  stays_taken log other own = comes question answer f s t h m log u.count (λ k l d. sum_same_out _ _ _ _ _ (balance f s t h c m.line false false u others (ap (λ b. bit b + 0) own) k l d) (no_bit (here k l) false refl) (no_bit (here k l) false refl) (no_bit (here k l) (answer m.body) other)) i

  rises : t.trace.log ≡ s.trace.log ++ goes_in h m ∷ [] → question m.body ≡ true → set.contains (f (node_at s h).cache) m.line ≡ false → set.contains (f c) m.line ≡ true → Tells question answer f t
  rises log kind off on = goes question answer f s t h m log u.count (λ k l d. sum_up _ _ _ _ _ (balance f s t h c m.line false true u others (ap (λ b. bit b + 0) on ∙ ap (λ b. bit b + 1) (sym off)) k l d) (no_bit (here k l) false refl) (ap (λ b. bit (here k l && b)) kind)) i

  falls : t.trace.log ≡ s.trace.log ++ comes_out h m ∷ [] → answer m.body ≡ true → set.contains (f (node_at s h).cache) m.line ≡ true → set.contains (f c) m.line ≡ false → Tells question answer f t
  falls log kind on off = comes question answer f s t h m log u.count (λ k l d. sum_down _ _ _ _ _ (balance f s t h c m.line true false u others (ap (λ b. bit b + 1) off ∙ ap (λ b. bit b + 0) (sym on)) k l d) (no_bit (here k l) false refl) (ap (λ b. bit (here k l && b)) kind)) i

-- ---- the acts of a cache

module _ (s : State) (h : ℕ) (in_h : h < length s.views.nodes) (i : IsFlagged s) where
  abbrev n : Node
  n = node_at s h

  pub missed_flagged : (line : ℕ) (grow : Grow) → (wanted n.cache line grow).0 ≡ Missed grow → IsFlagged (missed h line grow s)
  missed_flagged line grow is = record {
    asked = rises is_acquire is_grant acq s t h c m u (λ l ne. ap (λ (x : AtLine). x.acquiring) (wanted_other n.cache line grow l ne)) i.asked refl refl says.1 (ap (λ (x : AtLine). x.acquiring) (missed_own n.cache line grow is));
    left = stays_sent is_release is_release_ack rel s t h c m u (λ l ne. ap (λ (x : AtLine). x.releasing) (wanted_other n.cache line grow l ne)) i.left refl refl (ap (λ (x : AtLine). x.releasing) (missed_own n.cache line grow is));
    each = one_sent IsFree s.trace.log h m i.each (and_from _ _ (settled is_acquire is_grant acq s h line i.asked in_h says.1) (settled is_release is_release_ack rel s h line i.left in_h says.0));
  }
    where
      c : Cache
      c = (wanted n.cache line grow).1

      m : Msg
      m = record { line = line; body = AcquireBlock grow }

      t : State
      t = missed h line grow s

      u : Turned s t h c
      u = turned_sent s (with_node h (record n { cache = c }) s) h c m (turned_node h (record n { cache = c }) s in_h)

      says : (set.contains n.cache.releasing line ≡ false) × (set.contains n.cache.acquiring line ≡ false)
      says = missed_says n.cache line grow is

  release_is : (change : Change) (bytes : Option LineData) → (is_release (release_body change bytes) ≡ true) × (is_acquire (release_body change bytes) ≡ false)
  release_is change None = (refl, refl)
  release_is change (Some bytes) = (refl, refl)

  release_free : (change : Change) (bytes : Option LineData) (l : ℕ) → no_release_open h l s.trace.log && no_acquire_open h l s.trace.log ≡ true → is_free (release_body change bytes) h l s.trace.log ≡ true
  release_free change None l e = e
  release_free change (Some bytes) l e = e

  pub given_up_flagged : (line : ℕ) (change : Change) (bytes : Option LineData) → (evicted n.cache line).0 ≡ Evicted change bytes → set.contains n.cache.releasing line ≡ false → IsFlagged (given_up h line s)
  given_up_flagged line change bytes is rested = subst IsFlagged (ap (λ (a : Evict). sent_if_evicted h line a less) (sym is)) (record {
    asked = stays_sent is_acquire is_grant acq s t h c m u (λ l ne. ap (λ (x : AtLine). x.acquiring) (evicted_other n.cache line l ne)) i.asked refl (release_is change bytes).1 (ap (λ (x : AtLine). x.acquiring) (evicted_own n.cache line change bytes is));
    left = rises is_release is_release_ack rel s t h c m u (λ l ne. ap (λ (x : AtLine). x.releasing) (evicted_other n.cache line l ne)) i.left refl (release_is change bytes).0 rested (ap (λ (x : AtLine). x.releasing) (evicted_own n.cache line change bytes is));
    each = one_sent IsFree s.trace.log h m i.each (release_free change bytes line (and_from _ _ (settled is_release is_release_ack rel s h line i.left in_h rested) (settled is_acquire is_grant acq s h line i.asked in_h (evicted_says n.cache line change bytes is).unasked)));
  })
    where
      c : Cache
      c = (evicted n.cache line).1

      m : Msg
      m = record { line = line; body = release_body change bytes }

      less : State
      less = with_node h (with_less c line n) s

      t : State
      t = sent h m less

      u : Turned s t h c
      u = turned_sent s less h c m (turned_node h (with_less c line n) s in_h)

  -- a message has come out
  module _ (m : Msg) where
    abbrev s1 : State
    s1 = taken h m s

    abbrev n1 : Node
    n1 = node_at s1 h

    same1 : n1.cache ≡ n.cache
    same1 = same-set (λ (x : Node). x.cache) s.views.nodes h h _ (no_node s) (no_node s) refl

    in_1 : h < length s1.views.nodes
    in_1 = subst (λ k. h < k) (sym (length-set s.views.nodes h _)) in_h

    turned_taken : (c : Cache) → Turned s (with_node h (record n1 { cache = c }) s1) h c
    turned_taken c =
        let u : Turned s1 (with_node h (record n1 { cache = c }) s1) h c = turned_node h (record n1 { cache = c }) s1 in_1 in
        record { in_h = in_h; count = u.count ∙ length-set s.views.nodes h _; here = u.here; there = λ k d ne. u.there k d ne ∙ same-set (λ (x : Node). x.cache) s.views.nodes h k _ d (no_node s) refl }

    pub granted_flagged : (cap : Cap) (bytes : Option LineData) → is_grant m.body ≡ true → is_release_ack m.body ≡ false → set.contains n.cache.acquiring m.line ≡ true → IsFlagged (on_grant h m.line cap bytes s1)
    granted_flagged cap bytes kind other on = plain_sent h (record { line = m.line; body = GrantAck }) held refl refl refl (record {
      asked = falls is_acquire is_grant acq s held h c m u (λ l ne. remove_other n1.cache.acquiring m.line l ne ∙ ap (λ (x : Cache). set.contains x.acquiring l) same1) i.asked refl kind on (remove_own n1.cache.acquiring m.line);
      left = stays_taken is_release is_release_ack rel s held h c m u (λ l ne. ap (λ (x : Cache). set.contains x.releasing l) same1) i.left refl other (ap (λ (x : Cache). set.contains x.releasing m.line) same1);
      each = one_taken IsFree s.trace.log h m i.each;
    })
      where
        c : Cache
        c = granted n1.cache m.line cap bytes

        held : State
        held = with_node h (record n1 { cache = c }) s1

        u : Turned s held h c
        u = turned_taken c

    pub rested_flagged : is_grant m.body ≡ false → is_release_ack m.body ≡ true → set.contains n.cache.releasing m.line ≡ true → IsFlagged (on_release_ack h m.line s1)
    rested_flagged other kind on = record {
      asked = stays_taken is_acquire is_grant acq s t h c m u (λ l ne. ap (λ (x : Cache). set.contains x.acquiring l) same1) i.asked refl other (ap (λ (x : Cache). set.contains x.acquiring m.line) same1);
      left = falls is_release is_release_ack rel s t h c m u (λ l ne. remove_other n1.cache.releasing m.line l ne ∙ ap (λ (x : Cache). set.contains x.releasing l) same1) i.left refl kind on (remove_own n1.cache.releasing m.line);
      each = one_taken IsFree s.trace.log h m i.each;
    }
      where
        c : Cache
        c = answered n1.cache m.line

        t : State
        t = with_node h (record n1 { cache = c }) s1

        u : Turned s t h c
        u = turned_taken c

    probed_same : (l : ℕ) (cap : Cap) → ((probed n1.cache l cap).1.acquiring ≡ n1.cache.acquiring) × ((probed n1.cache l cap).1.releasing ≡ n1.cache.releasing)
    probed_same l cap = by_probed (λ a. (a.1.acquiring ≡ n1.cache.acquiring) × (a.1.releasing ≡ n1.cache.releasing)) n1.cache l cap (refl, refl) (λ e. go (copy_at n1.cache l))
      where
        go : (o : Option Held) → ((probed_copy n1.cache l cap o).1.acquiring ≡ n1.cache.acquiring) × ((probed_copy n1.cache l cap o).1.releasing ≡ n1.cache.releasing)
        go None = (refl, refl)
        go (Some x) = (refl, refl)

    pub probed_flagged : (cap : Cap) → IsFlagged s1 → IsFlagged (on_probe h m.line cap s1)
    probed_flagged cap j = by_answered IsFlagged shrunk k h m.line (probed n1.cache m.line cap).0 (λ change bytes e. goes change bytes e)
      where
        shrunk : State
        shrunk = with_node h (with_less (probed n1.cache m.line cap).1 m.line n1) s1

        k : IsFlagged shrunk
        k = still_flagged s1 shrunk (still_node h _ s1 refl (probed_same m.line cap).0 (probed_same m.line cap).1) j

        free : (change : Change) (bytes : Option LineData) → no_release_open h m.line s1.trace.log ≡ true → is_free (probe_ack_body change bytes) h m.line s1.trace.log ≡ true
        free change None e = e
        free change (Some bytes) e = e

        plain : (change : Change) (bytes : Option LineData) → (is_acquire (probe_ack_body change bytes) ≡ false) × (is_release (probe_ack_body change bytes) ≡ false)
        plain change None = (refl, refl)
        plain change (Some bytes) = (refl, refl)

        goes : (change : Change) (bytes : Option LineData) → (probed n1.cache m.line cap).0 ≡ Answered change bytes → IsFlagged (sent h (record { line = m.line; body = probe_ack_body change bytes }) shrunk)
        goes change bytes e =
            plain_sent h (record { line = m.line; body = probe_ack_body change bytes }) shrunk (plain change bytes).0 (plain change bytes).1
            (free change bytes (settled is_release is_release_ack rel s1 h m.line j.left in_1 (probed_says n1.cache m.line cap change bytes e).rested)) k
