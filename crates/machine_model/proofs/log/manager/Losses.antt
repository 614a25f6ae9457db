-- A hart that asks to write what it reads has lost its copy meanwhile exactly where the log says so.
use Rattle.std.proofs.Common.{ℕ, suc, ◌+◌, ◌<◌, ◌≤◌, Bool, true, false, List, [], ◌∷◌, ◌++◌, ◌≡◌, Some, refl, ap, sym, ◌∙◌, subst, length}
use Rattle.std.specs.Prelude.{◌≢◌, ◌==◌, ◌&&◌, ◌||◌, nat_lt}
use Rattle.std.proofs.lemmas.Bool.{lt-ltb}
use Rattle.std.proofs.lemmas.Bool.Decides.{eqb_tells, leb_tells}
use Rattle.std.proofs.lemmas.List.{length-set}
use mathlib.Core.Logic.{◌⊎◌, inl, inr}
use native.Mathlib.Omega.{arith}
use Rattle.client_cache.specs.AtLine.{AtLine, KeepsOthers, at_line}
use Rattle.client_cache.specs.Cache.{Cache}
use Rattle.client_cache.specs.Held.{perm_of}
use Rattle.directory.specs.Lines.{needs_data}
use Rattle.machine_model.specs.Deliveries.{is_trunk, taken}
use Rattle.machine_model.specs.LawfulLog.{concerns, is_acquire, is_loss, lost_since_asking, sent_count, taken_count}
use Rattle.machine_model.specs.Views.{Node, State, no_node, node_at, sent}
use Rattle.machine_model.proofs.Nodes.{same-set}
use Rattle.machine_model.proofs.coherence.LineViews.{front_here, of_line}
use Rattle.machine_model.proofs.log.Acts.{IsManaging}
use Rattle.machine_model.proofs.log.Lists.{comes_out, goes_in}
use Rattle.machine_model.proofs.log.manager.Queues.{GoesOn, count_in, in_queue}
use Rattle.machine_model.proofs.log.manager.Readings.{and_off, asked_in, asked_out, is_at, last_asked, lost_taken, reading, reading_in, reading_out}
use Rattle.machine_model.proofs.log.Fronts.{IsFront}
use Rattle.machine_model.proofs.log.Queues.{IsInOrder}
use Rattle.machine_model.proofs.coherence.WorldFits.{Framed}
use Rattle.tilelink_channels.specs.Queues.{queue_of}
use Rattle.tl_types.specs.Message.{channel_of_body}
use Rattle.tl_types.specs.declared.message.Body.{Body}
use Rattle.tl_types.specs.declared.message.Body.TheVariants.{AcquireBlock, ProbeBlock, ProbeAck, ProbeAckData, Grant, GrantData}
use Rattle.tl_types.specs.declared.message.Channel.TheVariants.{C}
use Rattle.tl_types.specs.declared.message.Msg.{Msg}
use Rattle.tl_types.specs.declared.permission.Grow.TheVariants.{BtoT}
use Rattle.trace_recorder.specs.declared.logged.Logged.{Logged}

-- what the hart needs for its BtoT is what the log says that it lost
abbrev pub Lost : ℕ → ℕ → AtLine → List Logged → Type 0
Lost k l x log = x.acquiring ≡ true → last_asked k l log ≡ Some (AcquireBlock BtoT) → is_trunk (perm_of x.copy) ≡ false → needs_data BtoT (perm_of x.copy) ≡ reading k l log

abbrev pub IsLosing : State → Type 0
IsLosing s = (k l : ℕ) → k < length s.views.nodes → Lost k l (at_line (node_at s k).cache l) s.trace.log

-- ---- losses in queue C

losses_on : GoesOn is_loss C
losses_on (ProbeAck change) f = cc f
losses_on (ProbeAckData change bytes) f = cc f
losses_on _ f = refl

is_carried : (body : Body) → is_loss body ≡ true → channel_of_body body ≡ C
is_carried (ProbeAck change) e = refl
is_carried (ProbeAckData change bytes) e = refl
is_carried _ e = cc e

pub less_not : (n : ℕ) → nat_lt n n ≡ false
less_not n = go (leb_tells (suc n) n)
  where
    go : ((nat_lt n n ≡ true) × (suc n ≤ n)) ⊎ ((nat_lt n n ≡ false) × (n < suc n)) → nat_lt n n ≡ false
    go (inl e) = absurd (omega (arith, e.1))
    go (inr e) = e.0

pub or_true : (a : Bool) → a || true ≡ true
or_true true = refl
or_true false = refl

module _ (s : State) (order : IsInOrder s) (h l : ℕ) (in_h : h < length s.views.nodes) where
  abbrev pub sends : ℕ
  sends = sent_count is_loss (concerns h l) s.trace.log

  abbrev pub takes : ℕ
  takes = taken_count is_loss (concerns h l) s.trace.log

  pub losses : sends ≡ takes + count_in is_loss (of_line l (node_at s h).queues.c)
  losses = in_queue is_loss C losses_on h l s (no_node s) order in_h

  pub some_lost : (body : Body) (rest : List Msg) → is_loss body ≡ true → queue_of (node_at s h).queues (channel_of_body body) ≡ (record { line = l; body = body }) ∷ rest → takes < sends
  some_lost body rest e front =
      let here : of_line l (node_at s h).queues.c ≡ body ∷ of_line l rest = front_here l (node_at s h).queues.c body rest (subst (λ c. queue_of (node_at s h).queues c ≡ (record { line = l; body = body }) ∷ rest) (is_carried body e) front) in
      let one : count_in is_loss (of_line l (node_at s h).queues.c) ≡ count_in is_loss (of_line l rest) + 1 = ap (count_in is_loss) here ∙ counted (of_line l rest) in
      omega (arith, losses, one)
    where
      counted : (bodies : List Body) → count_in is_loss (body ∷ bodies) ≡ count_in is_loss bodies + 1
      counted bodies = rw e (omega arith)

-- ---- messages

pub same_lost : (k l : ℕ) (x : AtLine) (log after : List Logged) → last_asked k l after ≡ last_asked k l log → reading k l after ≡ reading k l log → Lost k l x log → Lost k l x after
same_lost k l x log after asks reads i on last reader = i on (sym asks ∙ last) reader ∙ sym reads

-- the caches stay
pub same_caches : (s t : State) → length t.views.nodes ≡ length s.views.nodes → ((k : ℕ) → (node_at t k).cache ≡ (node_at s k).cache) → ((k l : ℕ) → k < length s.views.nodes → Lost k l (at_line (node_at s k).cache l) t.trace.log) → IsLosing t
same_caches s t count same i k l in_k = subst (λ (c : Cache). Lost k l (at_line c l) t.trace.log) (sym (same k)) (i k l (subst (λ n. k < n) count in_k))

pub sent_losing : (h : ℕ) (m : Msg) (s : State) → is_acquire m.body ≡ false → is_loss m.body ≡ false → IsLosing s → IsLosing (sent h m s)
sent_losing h m s a b i = same_caches s (sent h m s) (length-set s.views.nodes h _) (λ k. same-set (λ (x : Node). x.cache) s.views.nodes h k _ (no_node s) (no_node s) refl)
    (λ k l in_k. same_lost k l (at_line (node_at s k).cache l) s.trace.log (s.trace.log ++ goes_in h m ∷ []) (asked_in k l s.trace.log h m (and_off (is_at k l h m) _ a)) (reading_in k l s.trace.log h m (and_off (is_at k l h m) _ a) (and_off (is_at k l h m) _ b)) (i k l in_k))

pub managed : (h : ℕ) (m : Msg) (s : State) → IsManaging m.body → IsLosing s → IsLosing (sent h m s)
managed h m s is i = go m.body refl is
  where
    go : (body : Body) → m.body ≡ body → IsManaging body → IsLosing (sent h m s)
    go (ProbeBlock cap) e is = sent_losing h m s (ap is_acquire e) (ap is_loss e) i
    go (Grant cap) e is = sent_losing h m s (ap is_acquire e) (ap is_loss e) i
    go (GrantData cap bytes) e is = sent_losing h m s (ap is_acquire e) (ap is_loss e) i
    go _ e is = absurd is

pub taken_losing : (h : ℕ) (m : Msg) (s : State) → IsInOrder s → IsFront (node_at s h) m → IsLosing s → IsLosing (taken h m s)
taken_losing h m s order front i = same_caches s (taken h m s) (length-set s.views.nodes h _) (λ k. same-set (λ (x : Node). x.cache) s.views.nodes h k _ (no_node s) (no_node s) refl)
    (λ k l in_k. go k l in_k (eqb_tells h k) (eqb_tells m.line l) (is_loss m.body) refl)
  where
    plain : (k l : ℕ) → k < length s.views.nodes → is_at k l h m && is_loss m.body ≡ false → Lost k l (at_line (node_at s k).cache l) (taken h m s).trace.log
    plain k l in_k off = same_lost k l (at_line (node_at s k).cache l) s.trace.log (s.trace.log ++ comes_out h m ∷ []) (asked_out k l s.trace.log h m) (reading_out k l s.trace.log h m off) (i k l in_k)

    here : h < length s.views.nodes → is_loss m.body ≡ true → Lost h m.line (at_line (node_at s h).cache m.line) (taken h m s).trace.log
    here in_h e on last reader =
        let was : reading h m.line s.trace.log ≡ true = ap (λ b. lost_since_asking h m.line false s.trace.log || b) (lt-ltb _ _ (some_lost s order h m.line in_h m.body front.0 e front.1)) ∙ or_true (lost_since_asking h m.line false s.trace.log) in
        let now : reading h m.line (taken h m s).trace.log ≡ true = ap (λ b. b || nat_lt (taken_count is_loss (concerns h m.line) (taken h m s).trace.log) (sent_count is_loss (concerns h m.line) (taken h m s).trace.log)) (lost_taken s.trace.log h m e) in
        i h m.line in_h on (sym (asked_out h m.line s.trace.log h m) ∙ last) reader ∙ was ∙ sym now

    go : (k l : ℕ) → k < length s.views.nodes → (((h == k) ≡ true) × (h ≡ k)) ⊎ (((h == k) ≡ false) × (h ≡ k → ⊥)) → (((m.line == l) ≡ true) × (m.line ≡ l)) ⊎ (((m.line == l) ≡ false) × (m.line ≡ l → ⊥)) → (b : Bool) → is_loss m.body ≡ b →
        Lost k l (at_line (node_at s k).cache l) (taken h m s).trace.log
    go k l in_k e f false g = plain k l in_k (and_off (is_at k l h m) _ g)
    go k l in_k (inr e) f true g = plain k l in_k (rw e.0 refl)
    go k l in_k (inl e) (inr f) true g = plain k l in_k (rw (e.0, f.0) refl)
    go k l in_k (inl e) (inl f) true g = subst (λ j. Lost j l (at_line (node_at s j).cache l) (taken h m s).trace.log) e.1 (subst (λ q. Lost h q (at_line (node_at s h).cache q) (taken h m s).trace.log) f.1 (here (subst (λ j. j < length s.views.nodes) (sym e.1) in_k) g))

-- ---- one cache turns

-- away from the hart and the line the log says the same
abbrev pub SaysSame : ℕ → ℕ → List Logged → List Logged → Type 0
SaysSame h line log after = (k l : ℕ) → h == k && line == l ≡ false → (last_asked k l after ≡ last_asked k l log) × (reading k l after ≡ reading k l log)

pub same_in : (h : ℕ) (m : Msg) (log : List Logged) → SaysSame h m.line log (log ++ goes_in h m ∷ [])
same_in h m log k l off = (asked_in k l log h m (rw off refl), reading_in k l log h m (rw off refl) (rw off refl))

pub same_out : (h : ℕ) (m : Msg) (log : List Logged) → SaysSame h m.line log (log ++ comes_out h m ∷ [])
same_out h m log k l off = (asked_out k l log h m, reading_out k l log h m (rw off refl))

pub same_both : (h line : ℕ) (asks says : Body) (log : List Logged) → SaysSame h line log ((log ++ comes_out h (record { line = line; body = asks }) ∷ []) ++ goes_in h (record { line = line; body = says }) ∷ [])
same_both h line asks says log k l off =
    let m : Msg = record { line = line; body = asks } in
    let n : Msg = record { line = line; body = says } in
    ((same_in h n (log ++ comes_out h m ∷ []) k l off).0 ∙ (same_out h m log k l off).0, (same_in h n (log ++ comes_out h m ∷ []) k l off).1 ∙ (same_out h m log k l off).1)

-- one hart's cache becomes this
pub record TurnsTo (s t : State) (h : ℕ) (c : Cache) : Type 0 where
  pub count : length t.views.nodes ≡ length s.views.nodes
  pub here : (node_at t h).cache ≡ c
  pub there : (k : ℕ) → k ≢ h → (node_at t k).cache ≡ (node_at s k).cache

pub framed_turns : (s t : State) (h : ℕ) (n : Node) → Framed s t h n → TurnsTo s t h n.cache
framed_turns s t h n f = record { count = f.count; here = ap (λ (x : Node). x.cache) f.here; there = λ k ne. ap (λ (x : Node). x.cache) (f.there k ne) }

pub turned_losing : (s t : State) (h line : ℕ) (c : Cache) → TurnsTo s t h c → KeepsOthers line (node_at s h).cache c → SaysSame h line s.trace.log t.trace.log → (h < length s.views.nodes → Lost h line (at_line c line) t.trace.log) → IsLosing s → IsLosing t
turned_losing s t h line c u keeps says here i k l in_t = go (eqb_tells h k) (eqb_tells line l)
  where
    in_k : k < length s.views.nodes
    in_k = subst (λ n. k < n) u.count in_t

    go : (((h == k) ≡ true) × (h ≡ k)) ⊎ (((h == k) ≡ false) × (h ≡ k → ⊥)) → (((line == l) ≡ true) × (line ≡ l)) ⊎ (((line == l) ≡ false) × (line ≡ l → ⊥)) → Lost k l (at_line (node_at t k).cache l) t.trace.log
    go (inl e) (inl f) = subst (λ j. Lost j l (at_line (node_at t j).cache l) t.trace.log) e.1 (subst (λ q. Lost h q (at_line (node_at t h).cache q) t.trace.log) f.1
        (subst (λ (x : Cache). Lost h line (at_line x line) t.trace.log) (sym u.here) (here (subst (λ j. j < length s.views.nodes) (sym e.1) in_k))))
    go (inl e) (inr f) =
        let off : h == k && line == l ≡ false = rw (e.0, f.0) refl in
        let same : at_line (node_at s k).cache l ≡ at_line (node_at t k).cache l = subst (λ j. at_line (node_at s j).cache l ≡ at_line (node_at t j).cache l) e.1 (sym (keeps l (λ q. f.1 (sym q))) ∙ ap (λ (x : Cache). at_line x l) (sym u.here)) in
        subst (λ (x : AtLine). Lost k l x t.trace.log) same (same_lost k l (at_line (node_at s k).cache l) s.trace.log t.trace.log (says k l off).0 (says k l off).1 (i k l in_k))
    go (inr e) f =
        let off : h == k && line == l ≡ false = rw e.0 refl in
        subst (λ (x : Cache). Lost k l (at_line x l) t.trace.log) (sym (u.there k (λ q. e.1 (sym q)))) (same_lost k l (at_line (node_at s k).cache l) s.trace.log t.trace.log (says k l off).0 (says k l off).1 (i k l in_k))
