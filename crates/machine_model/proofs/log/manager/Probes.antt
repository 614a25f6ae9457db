-- The Probes and the Grant that an Acquire comes to go out where they may.
use Rattle.std.proofs.Common.{ℕ, zero, suc, ◌+◌, ◌<◌, ◌≤◌, Bool, true, false, List, [], ◌∷◌, ◌++◌, ◌≡◌, Some, refl, ap, sym, ◌∙◌, subst, length}
use Rattle.std.specs.Prelude.{◌==◌, ◌&&◌, if◌then◌else◌, not, filter}
use Rattle.std.specs.List.{range_with_len}
use Rattle.std.proofs.lemmas.Bool.{and_from, eq-eqb}
use Rattle.std.proofs.lemmas.Bool.Decides.{eqb_tells}
use mathlib.Core.Logic.{◌⊎◌, inl, inr}
use native.Mathlib.Omega.{arith}
use Rattle.directory.specs.Directory as directory
use Rattle.directory.specs.Directory.{Notes, line_at, with_line}
use Rattle.directory.specs.Harts.{harts_below}
use Rattle.directory.specs.Lines.{Line, acquired_by, acquired_in, grant_for, granting, is_probed, known_at, probe_cap, probed, probing}
use Rattle.directory.specs.declared.answer.Acquired.TheVariants.{Handled}
use Rattle.directory.specs.declared.answer.Sent.{Sent}
use Rattle.directory.specs.declared.answer.Transaction.{Transaction}
use Rattle.directory.specs.declared.answer.Transaction.TheVariants.{Idle, Probing, Granted}
use Rattle.machine_model.specs.Deliveries.{grant_body, line_in_memory, on_acquire, sent_grant, sent_if_handled, sent_probes, taken, with_notes}
use Rattle.machine_model.specs.LawfulLog.{concerns, is_BtoT, is_acquire, is_grant, is_grant_ack, is_probe, is_probe_ack, may_send, sent_count, taken_count, taken_on}
use Rattle.machine_model.specs.Views.{Node, State, line_size, node_at, place_of, sent}
use Rattle.machine_model.proofs.coherence.LineKept.{part_of}
use Rattle.machine_model.proofs.coherence.LinePlaces.{place_own}
use Rattle.machine_model.proofs.coherence.LineStands.{Alone, Stands}
use Rattle.machine_model.proofs.coherence.LineViews.{front_here, of_line}
use Rattle.machine_model.proofs.log.Counts.{bit, one_taken, sent_in, sent_out, taken_in, taken_out}
use Rattle.machine_model.proofs.log.Flags.{no_bit}
use Rattle.machine_model.proofs.log.Lists.{comes_out}
use Rattle.machine_model.proofs.log.manager.Grants.{HasData, MayGrant, asked_are, has_data, may_grant_now}
use Rattle.machine_model.proofs.log.manager.Kept.{Governed, IsGoverned, at_place, noted_same, same_governed, sent_governed}
use Rattle.machine_model.proofs.log.manager.Numbers.{IsLine, IsPlain, acquires_are, grants_are, noted, part_at, probes_are, seen_at, stands}
use Rattle.machine_model.proofs.log.manager.Parts.{AsksFirst, asks_first, is_asking, is_taking}
use Rattle.machine_model.proofs.log.manager.Readings.{and_off, heard_now, heard_out, is_at, last_asked, last_behind, last_heard, last_of, lost_out}
use Rattle.machine_model.proofs.log.manager.Sums.{below_more, settled_by_all}
use Rattle.machine_model.proofs.coherence.WorldFits.{kit_at}
use Rattle.machine_model.proofs.coherence.WorldKept.{front_line}
use Rattle.machine_model.proofs.coherence.WorldManager.{rests}
use Rattle.tl_types.specs.declared.message.Body.{Body}
use Rattle.tl_types.specs.declared.message.Body.TheVariants.{AcquireBlock, ProbeBlock}
use Rattle.tl_types.specs.declared.message.Channel.TheVariants.{A}
use Rattle.tl_types.specs.declared.message.Msg.{Msg}
use Rattle.tl_types.specs.declared.permission.Cap.{Cap}
use Rattle.tl_types.specs.declared.permission.Grow.{Grow}
use Rattle.trace_recorder.specs.declared.logged.Logged.{Logged}

-- each question of this kind is answered, hart by hart
abbrev pub EachAnswered : (question answer : Body → Bool) → ℕ → ℕ → ℕ → List Logged → Type 0
EachAnswered question answer from harts l log = (k : ℕ) → from ≤ k → k < harts → sent_count question (concerns k l) log ≡ taken_count answer (concerns k l) log

-- ---- Probes to several harts

module _ (l : ℕ) (cap : Cap) where
  abbrev query : Msg
  query = record { line = l; body = ProbeBlock cap }

  record IsFree (from : ℕ) (s : State) : Type 0 where
    governed : IsGoverned s
    probes : EachAnswered is_probe is_probe_ack from s.views.config.harts l s.trace.log
    grants : EachAnswered is_grant is_grant_ack 0 s.views.config.harts l s.trace.log

  plus_none : (a b c d e : ℕ) → a ≡ b → c ≡ a + e → d ≡ b + 0 → e ≡ 0 → c ≡ d
  plus_none a b c d e p q r z = omega (arith, p, q, r, z)

  -- one Probe more
  module _ (a : ℕ) (s : State) (in_a : a < s.views.config.harts) (i : IsFree a s) where
    may : may_send (ProbeBlock cap) a l s.trace.log ≡ true
    may = and_from _ _ (eq-eqb _ _ (i.probes a (omega arith) in_a)) (settled_by_all is_grant is_grant_ack s.views.config.harts l s.trace.log i.governed.below (λ k. i.grants k (omega arith)))

    one_probe : IsFree (a + 1) (sent a query s)
    one_probe = record {
      governed = sent_governed a query s in_a (λ _. may) i.governed;
      probes = λ k from in_k. plus_none _ _ _ _ _ (i.probes k (omega (arith, from)) in_k) (sent_in is_probe k l s.trace.log a query) (taken_in is_probe_ack k l s.trace.log a query) (away k from);
      grants = λ k from in_k. plus_none _ _ _ _ _ (i.grants k from in_k) (sent_in is_grant k l s.trace.log a query) (taken_in is_grant_ack k l s.trace.log a query) (no_bit (is_at k l a query) false refl);
    }
      where
        away : (k : ℕ) → a + 1 ≤ k → bit (is_at k l a query && true) ≡ 0
        away k from = go (eqb_tells a k)
          where
            go : (((a == k) ≡ true) × (a ≡ k)) ⊎ (((a == k) ≡ false) × (a ≡ k → ⊥)) → bit (is_at k l a query && true) ≡ 0
            go (inl e) = absurd (omega (arith, e.1, from))
            go (inr e) = rw e.0 refl

  later : (a : ℕ) (s : State) → IsFree a s → IsFree (a + 1) s
  later a s i = record { governed = i.governed; probes = λ k from in_k. i.probes k (omega (arith, from)) in_k; grants = i.grants }

  probes_go : (p : ℕ → Bool) (a n : ℕ) (s : State) → a + n ≤ s.views.config.harts → IsFree a s → IsGoverned (sent_probes (filter p (range_with_len a n)) l cap s)
  probes_go p a zero s fit i = i.governed
  probes_go p a (suc n) s fit i = go (λ t e. probes_go p (a + 1) n t (omega (arith, fit, e))) (p a)
    where
      go : ((t : State) → t.views.config.harts ≡ s.views.config.harts → IsFree (a + 1) t → IsGoverned (sent_probes (filter p (range_with_len (a + 1) n)) l cap t)) →
          (b : Bool) → IsGoverned (sent_probes (if b then a ∷ filter p (range_with_len (a + 1) n) else filter p (range_with_len (a + 1) n)) l cap s)
      go rest true = rest (sent a query s) refl (one_probe a s (omega (arith, fit)) i)
      go rest false = rest s refl (later a s i)

-- ---- an Acquire

same_numbers : (a b c d e : ℕ) → a ≡ b + e → e ≡ 0 → c ≡ a + 0 → d ≡ b + 0 → c ≡ d
same_numbers a b c d e p z q r = omega (arith, p, z, q, r)

module _ (s : State) (p : IsPlain s) (h : ℕ) (in_h : h < length s.views.nodes) (i : IsGoverned s) (l : ℕ) (g : Grow) (rest : List Msg) (front : (node_at s h).queues.a ≡ (record { line = l; body = AcquireBlock g }) ∷ rest) (idle : (noted s l).transaction ≡ Idle) where
  abbrev n : Node
  n = node_at s h

  abbrev own : Line
  own = noted s l

  abbrev m : Msg
  m = record { line = l; body = AcquireBlock g }

  abbrev s1 : State
  s1 = taken h m s

  abbrev log : List Logged
  log = s.trace.log

  abbrev log1 : List Logged
  log1 = s1.trace.log

  abbrev harts : ℕ
  harts = s.views.config.harts

  in_nodes : (k : ℕ) → k < harts → k < length s.views.nodes
  in_nodes k lt = subst (λ c. k < c) (sym p.standing.nodes) lt

  in_c : h < harts
  in_c = subst (λ c. h < c) p.standing.nodes in_h

  on : IsLine s l
  on = front_line s.trace.image (line_size s) (length s.views.nodes) (kit_at s) s.views.notes s.views.memory p.known.0.0 h l (AcquireBlock g) (of_line l rest) (λ x. x.a) p.known.0.1.well refl (front_here l n.queues.a (AcquireBlock g) rest front)

  alone : (k : ℕ) → k < length s.views.nodes → Stands (p.known.0.0 l) Alone (seen_at s k l)
  alone k in_k = subst (λ t. Stands (p.known.0.0 l) (part_of t k) (seen_at s k l)) idle (stands s p k l in_k on)

  asks : AsksFirst g (seen_at s h l) (AcquireBlock g ∷ of_line l rest)
  asks = subst (AsksFirst g (seen_at s h l)) (front_here l n.queues.a (AcquireBlock g) rest front) (asks_first g (alone h in_h))

  -- the Acquire is out, and its line isn't probed yet
  first : IsGoverned s1
  first = record {
    below = below_more harts log (comes_out h m) i.below in_c;
    heard = λ k q grow on_q e. go k q grow on_q e (eqb_tells l q);
    each = one_taken Governed log h m i.each;
  }
    where
      go : (k q : ℕ) (grow : Grow) → IsLine s q → (noted s q).transaction ≡ Probing k grow → (((l == q) ≡ true) × (l ≡ q)) ⊎ (((l == q) ≡ false) × (l ≡ q → ⊥)) → last_heard k q log1 ≡ Some (AcquireBlock grow)
      go k q grow on_q e (inl f) = let none : (noted s q).transaction ≡ Idle = subst (λ r. (noted s r).transaction ≡ Idle) f.1 idle in cc (none, e)
      go k q grow on_q e (inr f) = heard_out k q log h m (off (h == k) (l == q) f.0) ∙ i.heard k q grow on_q e
        where
          off : (a b : Bool) → b ≡ false → a && b && true ≡ false
          off true b e = rw e refl
          off false b e = refl

  grants_free : EachAnswered is_grant is_grant_ack 0 harts l log1
  grants_free k from in_k = same_numbers _ _ _ _ _ (grants_are s p k l (in_nodes k in_k) on) (ap (λ t. bit (is_taking (part_of t k))) idle) (sent_out is_grant k l log h m)
      (taken_out is_grant_ack k l log h m ∙ ap (λ b. taken_count is_grant_ack (concerns k l) log + b) (no_bit (is_at k l h m) false refl))

  probes_free : EachAnswered is_probe is_probe_ack 0 harts l log1
  probes_free k from in_k = same_numbers _ _ _ _ _ (probes_are s p k l (in_nodes k in_k) on) (ap bit (rests (alone k (in_nodes k in_k)))) (sent_out is_probe k l log h m)
      (taken_out is_probe_ack k l log h m ∙ ap (λ b. taken_count is_probe_ack (concerns k l) log + b) (no_bit (is_at k l h m) false refl))

  may_grant_it : MayGrant g h l log1
  may_grant_it = record {
    one_more = one;
    heard = heard_now l log h g;
    unprobed = settled_by_all is_probe is_probe_ack harts l log1 first.below (λ k. probes_free k (omega arith));
    ungranted = settled_by_all is_grant is_grant_ack harts l log1 first.below (λ k. grants_free k (omega arith));
  }
    where
      own_bit : bit (is_at h l h m && true) ≡ 1
      own_bit = rw (eq-eqb h h refl, eq-eqb l l refl) refl

      one : taken_count is_acquire (concerns h l) log1 ≡ sent_count is_grant (concerns h l) log1 + 1
      one =
          let a : taken_count is_acquire (concerns h l) log ≡ sent_count is_grant (concerns h l) log + bit (is_asking (part_at s h l)) = acquires_are s p h l in_h on in
          let none : bit (is_asking (part_at s h l)) ≡ 0 = ap (λ t. bit (is_asking (part_of t h))) idle in
          let b : taken_count is_acquire (concerns h l) log1 ≡ taken_count is_acquire (concerns h l) log + bit (is_at h l h m && true) = taken_out is_acquire h l log h m in
          let c : sent_count is_grant (concerns h l) log1 ≡ sent_count is_grant (concerns h l) log + 0 = sent_out is_grant h l log h m in
          omega (arith, a, none, b, c, own_bit)

  lacks : HasData g (known_at own h).perm h l log1
  lacks = has_data s h l g (known_at own h).perm p.known.1 p.losing in_h asks.2 last asks.4 asks.3 asks.1 ∙ ap (λ b. not (is_BtoT g && not b)) (sym (lost_out h l log h m (and_off (is_at h l h m) false refl)))
    where
      last : last_asked h l log ≡ Some (AcquireBlock g)
      last = asked_are s h l p.known.1 in_h ∙ ap (λ q. last_of (of_line l (taken_on A h log) ++ q)) (front_here l n.queues.a (AcquireBlock g) rest front ∙ ap (λ q. AcquireBlock g ∷ q) asks.0) ∙ last_behind (of_line l (taken_on A h log)) (AcquireBlock g)

  -- the Grant at once
  at_once : IsGoverned (sent_grant l (grant_for own h g) (with_notes (with_line s.views.notes (place_of (line_size s) l) (granting own h g)) s1))
  at_once =
      let noted_now : State = with_notes (with_line s.views.notes (place_of (line_size s) l) (granting own h g)) s1 in
      sent_governed h (record { line = l; body = grant_body (grant_for own h g) (line_in_memory noted_now l) }) noted_now in_c (λ _. may_grant_now own g h l log1 (line_in_memory noted_now l) may_grant_it lacks)
      (same_governed s1 noted_now (noted_same s1 noted_now (place_of (line_size s) l) (granting own h g) refl refl refl (λ k grow e. cc e)) first)

  -- the Probes
  asked : IsGoverned (sent_probes (probed own h g) l (probe_cap g) (with_notes (with_line s.views.notes (place_of (line_size s) l) (probing own h g)) s1))
  unfolding harts_below
  asked = probes_go l (probe_cap g) (is_probed own h g) 0 (length own.known) s2 (omega (arith, count)) (record { governed = governed; probes = probes_free; grants = grants_free })
    where
      s2 : State
      s2 = with_notes (with_line s.views.notes (place_of (line_size s) l) (probing own h g)) s1

      count : length own.known ≡ harts
      count = p.known.0.1.well.known l on ∙ p.standing.nodes

      now : (k q : ℕ) (grow : Grow) → IsLine s q → (noted s2 q).transaction ≡ Probing k grow → ((place_of (line_size s) q ≡ place_of (line_size s) l) × (noted s2 q ≡ probing own h g)) ⊎ (noted s2 q ≡ noted s q) → last_heard k q log1 ≡ Some (AcquireBlock grow)
      now k q grow on_q e (inr f) = first.heard k q grow on_q (ap (λ (y : Line). y.transaction) (sym f) ∙ e)
      now k q grow on_q e (inl f) =
          let begins : Probing h g ≡ Probing k grow = ap (λ (y : Line). y.transaction) (sym f.1) ∙ e in
          let hart : h ≡ k = cc begins in
          let grows : g ≡ grow = cc begins in
          let same : l ≡ q = sym (place_own s.trace.image (line_size s) q l on_q on f.0) in
          subst (λ (x : Grow). last_heard k q log1 ≡ Some (AcquireBlock x)) grows (subst (λ j. last_heard j q log1 ≡ Some (AcquireBlock g)) hart (subst (λ r. last_heard h r log1 ≡ Some (AcquireBlock g)) same (heard_now l log h g)))

      governed : IsGoverned s2
      governed = record {
        below = first.below;
        heard = λ k q grow on_q e. now k q grow on_q e (at_place s.views.notes (place_of (line_size s) l) (probing own h g) (place_of (line_size s) q));
        each = first.each;
      }

-- what the Acquire comes to
pub acquired_governed : (s : State) → IsPlain s → (h : ℕ) → h < length s.views.nodes → IsGoverned s → (l : ℕ) (g : Grow) (rest : List Msg) → (node_at s h).queues.a ≡ (record { line = l; body = AcquireBlock g }) ∷ rest →
    (sends : Sent) → (directory.acquired s.views.notes (place_of (line_size s) l) h g).0 ≡ Handled sends → IsGoverned (on_acquire h l g (taken h (record { line = l; body = AcquireBlock g }) s))
acquired_governed s p h in_h i l g rest front sends is = by_state (noted s l).transaction refl is
  where
    own_line : Line
    own_line = noted s l

    noted_by : Line → State
    noted_by y = with_notes (with_line s.views.notes (place_of (line_size s) l) y) (taken h (record { line = l; body = AcquireBlock g }) s)

    by_list : own_line.transaction ≡ Idle → (hs : List ℕ) → probed own_line h g ≡ hs → IsGoverned (sent_if_handled l (acquired_by own_line h g hs).0 (noted_by (acquired_by own_line h g hs).1))
    by_list idle [] e = at_once s p h in_h i l g rest front idle
    by_list idle (a ∷ hs) e = subst (λ (ks : List ℕ). IsGoverned (sent_probes ks l (probe_cap g) (noted_by (probing own_line h g)))) e (asked s p h in_h i l g rest front idle)

    by_state : (t : Transaction) → own_line.transaction ≡ t → (acquired_in t own_line h g).0 ≡ Handled sends → IsGoverned (sent_if_handled l (acquired_in t own_line h g).0 (noted_by (acquired_in t own_line h g).1))
    by_state Idle e is = by_list e (probed own_line h g) refl
    by_state (Probing r q) e is = cc is
    by_state (Granted r) e is = cc is
