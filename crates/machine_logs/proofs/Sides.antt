-- What a cache sends and takes, the log tells.
use Rattle.std.proofs.Common.{ℕ, ◌<◌, ◌≡◌, Option, Some, None, refl, ap, sym, ◌∙◌, subst, length}
use Rattle.std.specs.Prelude.{◌==◌, ◌&&◌, if◌then◌else◌}
use Rattle.std.proofs.lemmas.List.{length-set}
use Rattle.client_cache.proofs.AtLines.{evicted_other, evicted_own, probed_other, probed_own, put_own}
use Rattle.client_cache.specs.AtLine.{AtLine}
use Rattle.client_cache.specs.Cache.{Cache, answered, copy_at, evicted, granted, probed, wanted}
use Rattle.client_cache.specs.Held.{granted_copy, perm_of}
use Rattle.client_cache.specs.declared.answers.Evict.{Evict}
use Rattle.client_cache.specs.declared.answers.Evict.TheVariants.{Evicted}
use Rattle.client_cache.specs.declared.answers.Probed.{Probed}
use Rattle.client_cache.specs.declared.answers.Probed.TheVariants.{Answered}
use Rattle.coherent_log.specs.Rules.{asked_from}
use Rattle.machine_logs.proofs.Copies.{dirty_trunk, node_perm, sent_perm, shrunk_perm, taken_perm, turned_perm}
use Rattle.machine_logs.proofs.May.{IsPlain, may_answer, may_ask, may_plain, may_release, probe_told}
use Rattle.machine_logs.proofs.Notes.{Told}
use Rattle.machine_logs.proofs.Told.{told_as, told_sent, told_taken}
use Rattle.machine_model.proofs.CacheCalls.{wanted_keeps}
use Rattle.machine_model.proofs.Nodes.{same-set}
use Rattle.machine_model.proofs.coherence.LineViews.{Answering, Leaving, evicted_says, granted_other, probed_says}
use Rattle.machine_model.specs.Changing.{given_up, missed, release_body, sent_if_evicted}
use Rattle.machine_model.specs.Coherent.{perm_at}
use Rattle.machine_model.specs.Deliveries.{on_grant, on_probe, on_release_ack, probe_ack_body, sent_if_answered, taken, with_less}
use Rattle.machine_model.specs.Views.{Node, State, no_node, node_at, sent, with_node}
use Rattle.tl_types.specs.Permission.{held_before, left_by, named_by}
use Rattle.tl_types.specs.Shrink.{shrunk_by}
use Rattle.tl_types.specs.declared.line.LineData.{LineData}
use Rattle.tl_types.specs.declared.message.Body.{Body}
use Rattle.tl_types.specs.declared.message.Body.TheVariants.{AcquireBlock, ProbeBlock, ReleaseAck, GrantAck}
use Rattle.tl_types.specs.declared.message.Msg.{Msg}
use Rattle.tl_types.specs.declared.permission.Cap.{Cap}
use Rattle.tl_types.specs.declared.permission.Cap.TheVariants.{ToN}
use Rattle.tl_types.specs.declared.permission.Change.{Change}
use Rattle.tl_types.specs.declared.permission.Grow.{Grow}
use Rattle.tl_types.specs.declared.permission.Perm.{Perm}
use Rattle.tl_types.specs.declared.permission.Perm.TheVariants.{Nothing, Branch, Trunk}
use Rattle.trace_recorder.specs.declared.logged.Direction.TheVariants.{Sent, Taken}
use Rattle.coherent_log.specs.Told.{at_client, at_manager, brought}

-- ---- what goes out or comes in, and tells nothing

pub plain_sent : (h line : ℕ) (body : Body) (s : State) → IsPlain body → Told s → Told (sent h (record { line = line; body = body }) s)
plain_sent h line body s is i = go body is
  where
    go : (body : Body) → IsPlain body → Told (sent h (record { line = line; body = body }) s)
    go (ProbeBlock cap) is = told_as _ _ _ (told_sent i h (record { line = line; body = ProbeBlock cap }) None None None refl refl refl (may_plain _ h line s.trace.log (ProbeBlock cap) tt)) (sent_perm h (record { line = line; body = ProbeBlock cap }) s) (λ k l on. refl) (λ l on. refl)
    go ReleaseAck is = told_as _ _ _ (told_sent i h (record { line = line; body = ReleaseAck }) None None None refl refl refl (may_plain _ h line s.trace.log ReleaseAck tt)) (sent_perm h (record { line = line; body = ReleaseAck }) s) (λ k l on. refl) (λ l on. refl)
    go GrantAck is = told_as _ _ _ (told_sent i h (record { line = line; body = GrantAck }) None None None refl refl refl (may_plain _ h line s.trace.log GrantAck tt)) (sent_perm h (record { line = line; body = GrantAck }) s) (λ k l on. refl) (λ l on. refl)
    go _ is = absurd is

pub plain_taken : (h : ℕ) (m : Msg) (s : State) → at_client Taken m.body ≡ None → at_manager Taken m.body ≡ None → brought Taken m.body ≡ None → Told s → Told (taken h m s)
plain_taken h m s a n b i = told_as _ _ _ (told_taken i h m None None None a n b) (taken_perm h m s) (λ k l on. refl) (λ l on. refl)

-- ---- a miss

pub missed_told : (s : State) (h line : ℕ) (grow : Grow) → asked_from grow ≡ perm_at s h line → Told s → Told (missed h line grow s)
missed_told s h line grow from i =
    told_as _ _ _ (told_sent i h (record { line = line; body = AcquireBlock grow }) None None None refl refl refl (may_ask _ h line s.trace.log i grow from))
    (λ k l. sent_perm h (record { line = line; body = AcquireBlock grow }) asking k l ∙ node_perm s h n (λ l. ap (λ cs. perm_of (copy_at (record (node_at s h).cache { copies = cs }) l)) (wanted_keeps (node_at s h).cache line grow).1) k l)
    (λ k l on. refl) (λ l on. refl)
  where
    n : Node
    n = record (node_at s h) { cache = (wanted (node_at s h).cache line grow).1 }

    asking : State
    asking = with_node h n s

-- ---- an eviction

-- what a copy that leaves says
left_nothing : (p : Perm) → left_by (shrunk_by p ToN).1 ≡ Nothing
left_nothing Nothing = refl
left_nothing Branch = refl
left_nothing Trunk = refl

left_from : (p : Perm) → held_before (shrunk_by p ToN).1 ≡ p
left_from Nothing = refl
left_from Branch = refl
left_from Trunk = refl

pub given_up_told : (s : State) (h line : ℕ) (change : Change) (bytes : Option LineData) → h < length s.views.nodes → (evicted (node_at s h).cache line).0 ≡ Evicted change bytes → Told s → Told (given_up h line s)
given_up_told s h line change bytes in_h is i = subst Told (ap (λ (a : Evict). sent_if_evicted h line a less) (sym is)) (
    told_as _ _ _ (told_sent i h m (Some (left_by change)) None None (tells bytes) (tells_manager bytes) (tells_bytes bytes)
    (may_release _ h line s.trace.log i change bytes (ap held_before says.change_is ∙ left_from (perm_at s h line)) gone (λ b e. dirty_trunk (copy_at c line) b (sym says.bytes_are ∙ e))))
    (λ k l. sent_perm h m less k l ∙ turned_perm s h in_h (with_less (evicted c line).1 line (node_at s h)) line (left_by change) (evicted_other c line) (ap (λ (x : AtLine). perm_of x.copy) (evicted_own c line change bytes is) ∙ sym gone) k l)
    (λ k l on. refl) (λ l on. refl))
  where
    c : Cache
    c = (node_at s h).cache

    m : Msg
    m = record { line = line; body = release_body change bytes }

    less : State
    less = with_node h (with_less (evicted c line).1 line (node_at s h)) s

    says : Leaving c line change bytes
    says = evicted_says c line change bytes is

    gone : left_by change ≡ Nothing
    gone = ap left_by says.change_is ∙ left_nothing (perm_at s h line)

    tells : (b : Option LineData) → at_client Sent (release_body change b) ≡ Some (left_by change)
    tells None = refl
    tells (Some b) = refl

    tells_manager : (b : Option LineData) → at_manager Sent (release_body change b) ≡ None
    tells_manager None = refl
    tells_manager (Some b) = refl

    tells_bytes : (b : Option LineData) → brought Sent (release_body change b) ≡ None
    tells_bytes None = refl
    tells_bytes (Some b) = refl

-- ---- a Probe that is answered

pub probed_told : (s : State) (h line : ℕ) (cap : Cap) (change : Change) (bytes : Option LineData) → h < length s.views.nodes → (probed (node_at s h).cache line cap).0 ≡ Answered change bytes → Told s →
    Told (on_probe h line cap (taken h (record { line = line; body = ProbeBlock cap }) s))
probed_told s h line cap change bytes in_h is i = subst Told (ap (λ (a : Probed). sent_if_answered h line a less) (sym is1)) (
    told_as _ _ _ (told_sent i1 h m (Some (left_by change)) None None (tells bytes) (tells_manager bytes) (tells_bytes bytes)
    (may_answer _ h line s1.trace.log i1 change bytes (record { cap = cap; index = length s.trace.log }) (probe_told h line cap s.trace.log) says.change_is (λ b e. dirty_trunk (copy_at c line) b (sym says.bytes_are ∙ e))))
    (λ k l. sent_perm h m less k l ∙ turned_perm s1 h in_1 (with_less (probed c line cap).1 line (node_at s1 h)) line (left_by change) (probed_other c line cap)
    (ap (λ (x : AtLine). perm_of x.copy) (probed_own c line cap says.rested) ∙ shrunk_perm cap (copy_at c line) ∙ ap left_by (sym says.change_is)) k l)
    (λ k l on. refl) (λ l on. refl))
  where
    s1 : State
    s1 = taken h (record { line = line; body = ProbeBlock cap }) s

    i1 : Told s1
    i1 = plain_taken h (record { line = line; body = ProbeBlock cap }) s refl refl refl i

    in_1 : h < length s1.views.nodes
    in_1 = subst (λ count. h < count) (sym (length-set s.views.nodes h _)) in_h

    c : Cache
    c = (node_at s1 h).cache

    is1 : (probed c line cap).0 ≡ Answered change bytes
    is1 = ap (λ (x : Cache). (probed x line cap).0) (same-set (λ (x : Node). x.cache) s.views.nodes h h _ (no_node s) (no_node s) refl) ∙ is

    m : Msg
    m = record { line = line; body = probe_ack_body change bytes }

    less : State
    less = with_node h (with_less (probed c line cap).1 line (node_at s1 h)) s1

    says : Answering c line cap change bytes
    says = probed_says c line cap change bytes is1

    tells : (b : Option LineData) → at_client Sent (probe_ack_body change b) ≡ Some (left_by change)
    tells None = refl
    tells (Some b) = refl

    tells_manager : (b : Option LineData) → at_manager Sent (probe_ack_body change b) ≡ None
    tells_manager None = refl
    tells_manager (Some b) = refl

    tells_bytes : (b : Option LineData) → brought Sent (probe_ack_body change b) ≡ None
    tells_bytes None = refl
    tells_bytes (Some b) = refl

-- ---- a Grant that arrives

pub granted_told : (s : State) (h line : ℕ) (cap : Cap) (bytes : Option LineData) (body : Body) → h < length s.views.nodes → at_client Taken body ≡ Some (named_by cap) → at_manager Taken body ≡ None → brought Taken body ≡ None
    → perm_of (granted_copy cap bytes (copy_at (node_at s h).cache line)) ≡ named_by cap → Told s → Told (on_grant h line cap bytes (taken h (record { line = line; body = body }) s))
granted_told s h line cap bytes body in_h tells tells_manager tells_bytes perm i =
    plain_sent h line GrantAck held tt (
    told_as _ _ _ (told_taken i h (record { line = line; body = body }) (Some (named_by cap)) None None tells tells_manager tells_bytes)
    (λ k l. turned_perm s1 h in_1 n line (named_by cap) (granted_other c line cap bytes) (put_perm ∙ perm1) k l ∙ ap (λ p. if h == k && line == l then named_by cap else p) (taken_perm h (record { line = line; body = body }) s k l))
    (λ k l on. refl) (λ l on. refl))
  where
    s1 : State
    s1 = taken h (record { line = line; body = body }) s

    in_1 : h < length s1.views.nodes
    in_1 = subst (λ count. h < count) (sym (length-set s.views.nodes h _)) in_h

    c : Cache
    c = (node_at s1 h).cache

    n : Node
    n = record (node_at s1 h) { cache = granted c line cap bytes }

    held : State
    held = with_node h n s1

    put_perm : perm_of (copy_at (granted c line cap bytes) line) ≡ perm_of (granted_copy cap bytes (copy_at c line))
    put_perm = ap perm_of (put_own c.copies line (granted_copy cap bytes (copy_at c line)))

    perm1 : perm_of (granted_copy cap bytes (copy_at c line)) ≡ named_by cap
    perm1 = ap (λ (x : Cache). perm_of (granted_copy cap bytes (copy_at x line))) (same-set (λ (x : Node). x.cache) s.views.nodes h h _ (no_node s) (no_node s) refl) ∙ perm

-- ---- a ReleaseAck

pub rested_told : (s : State) (h line : ℕ) → Told s → Told (on_release_ack h line (taken h (record { line = line; body = ReleaseAck }) s))
rested_told s h line i =
    let s1 = taken h (record { line = line; body = ReleaseAck }) s in
    told_as _ _ _ (plain_taken h (record { line = line; body = ReleaseAck }) s refl refl refl i) (node_perm s1 h (record (node_at s1 h) { cache = answered (node_at s1 h).cache line }) (λ l. refl)) (λ k l on. refl) (λ l on. refl)
