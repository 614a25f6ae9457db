-- At most 4 Acquires and 4 Releases of a cache are outstanding, and at most 4 GrantAcks of it wait: every act keeps that, where a Grant's GrantAck has room.
use Rattle.std.proofs.Common.{ℕ, zero, suc, ◌+◌, ◌-◌, Bool, true, false, cond, List, [], ◌∷◌, ◌++◌, ◌≡◌, ◌<◌, ◌≤◌, Option, Some, None, refl, ap, length}
use Rattle.std.specs.Prelude.{if◌then◌else◌, nat_le, slice_set, slice_index_or}
use Rattle.std.specs.Cmp.{nat_cmp_total}
use Rattle.std.specs.Ordering.{nat_cmp}
use Rattle.std.specs.FinSet as set
use Rattle.std.specs.FinSet.{FinSet}
use Rattle.std.proofs.lemmas.Bool.{leb-false}
use Rattle.std.proofs.lemmas.List.{length-append, length-set}
use Rattle.machine_types.specs.declared.limits.TheConstants.{MAX_HARTS, TRACKERS}
use native.Mathlib.Omega.{arith}
use Rattle.client_cache.specs.Cache.{Cache, copy_at, wanted, probed, probed_copy, granted, answered, evicted, word_written, word_written_in}
use Rattle.client_cache.specs.declared.held.Held.{Held}
use Rattle.directory.specs.Directory.{acquired, probe_acked, released}
use Rattle.directory.specs.declared.answer.Grant.{Grant as Granting}
use Rattle.elf_loader.specs.Image.{Initial}
use Rattle.hart.specs.Local.{private_row}
use Rattle.hart.specs.Run.{after_instr, reached}
use Rattle.hart.specs.declared.state.Hart.{Hart}
use Rattle.hart.specs.declared.status.Status.TheVariants.{Stopped}
use Rattle.machine_model.specs.Changing.{acted, does, given_up, missed, release_body}
use Rattle.machine_model.specs.Deliveries.{delivered, grant_body, handled, line_in_memory, on_grant, on_probe, on_probe_ack, on_release, on_release_ack, probe_ack_body, sent_grant, taken, with_less, with_memory, with_notes}
use Rattle.machine_model.specs.LawfulLog.{is_grant}
use Rattle.machine_model.specs.Views.{Node, State, line_size, node_at, opening_node, place_of, sent, with_node}
use Rattle.machine_model.specs.declared.act.Act.{Act}
use Rattle.machine_model.specs.declared.act.Act.TheVariants as act
use Rattle.machine_types.specs.declared.config.Config.{Config}
use Rattle.machine_model.proofs.Nodes.{node_same}
use Rattle.machine_model.proofs.coherence.WorldFits.{framed_taken}
use Rattle.tilelink_channels.specs.Queues.{Waiting, behind, popped, pushed, queue_of, with_queue}
use Rattle.tl_types.specs.Line.{line_of}
use Rattle.tl_types.specs.Message.{channel_of, channel_of_body}
use Rattle.tl_types.specs.declared.line.LineData.{LineData}
use Rattle.tl_types.specs.declared.message.Body.{Body}
use Rattle.tl_types.specs.declared.message.Body.TheVariants.{AcquireBlock, ProbeBlock, ProbeAck, ProbeAckData, Release, ReleaseData, Grant, GrantData, ReleaseAck, GrantAck}
use Rattle.tl_types.specs.declared.message.Channel.{Channel}
use Rattle.tl_types.specs.declared.message.Channel.TheVariants.{A, B, C, D, E}
use Rattle.tl_types.specs.declared.message.Msg.{Msg}
use Rattle.tl_types.specs.declared.permission.Cap.{Cap}
use Rattle.tl_types.specs.declared.permission.Change.{Change}
use Rattle.tl_types.specs.declared.permission.Grow.{Grow}
use Rattle.machine_model.proofs.CacheCalls.{by_evicted, by_probed, by_wanted}
use Rattle.machine_model.proofs.Parts.{KeptByDeeds, by_answered, by_left, by_granted, by_handled, does_by, drained_by}

-- ---- sizes

pub record IsSmall (acquiring releasing : FinSet nat_cmp) (acks : List Msg) : Type 0 where
  pub few_acquires : set.len acquiring ≤ TRACKERS
  pub few_releases : set.len releasing ≤ TRACKERS
  pub few_acks : length acks ≤ TRACKERS

abbrev pub IsSmallNode : Node → Type 0
IsSmallNode n = IsSmall n.cache.acquiring n.cache.releasing n.queues.e

abbrev pub AllSmall : List Node → Type 0
AllSmall [] = Unit {0}
AllSmall (n ∷ ns) = IsSmallNode n × AllSmall ns

pub record AreSmall (nodes : List Node) : Type 0 where
  pub few : length nodes ≤ MAX_HARTS
  pub each : AllSmall nodes

abbrev pub IsSmallState : State → Type 0
IsSmallState s = AreSmall s.views.nodes

inserted : (s : FinSet nat_cmp) (l : ℕ) → nat_le TRACKERS (set.len s) ≡ false → set.len (set.insert s l) ≤ TRACKERS
inserted s l f = go (set.contains s l) (set.len-insert nat_cmp_total s l)
  where
    lt : set.len s < TRACKERS
    lt = leb-false TRACKERS (set.len s) f

    go : (t : Bool) → set.len (set.insert s l) ≡ cond t (set.len s) (set.len s + 1) → set.len (set.insert s l) ≤ TRACKERS
    go true e = omega (arith, e, lt)
    go false e = omega (arith, e, lt)

removed : (s : FinSet nat_cmp) (l : ℕ) → set.len s ≤ TRACKERS → set.len (set.remove s l) ≤ TRACKERS
removed s l le = go (set.contains s l) (set.len-remove nat_cmp_total s l)
  where
    go : (t : Bool) → set.len (set.remove s l) ≡ cond t (set.len s - 1) (set.len s) → set.len (set.remove s l) ≤ TRACKERS
    go true e = omega (arith, e, le)
    go false e = omega (arith, e, le)

pub node_opens_small : (image : Initial) (config : Config) (id : ℕ) → IsSmallNode (opening_node image config id)
node_opens_small image config id = record { few_acquires = none; few_releases = none; few_acks = omega arith }
  where
    none : set.len (set.empty {R = nat_cmp}) ≤ TRACKERS
    none = let e : set.len (set.empty {R = nat_cmp}) ≡ 0 = set.len-empty nat_cmp in omega (arith, e)

-- ---- what a call of the cache leaves

module _ (acks : List Msg) where
  abbrev IsSmallCache : Cache → Type 0
  IsSmallCache c = IsSmall c.acquiring c.releasing acks

  wanted_small : (c : Cache) (l : ℕ) (grow : Grow) → IsSmallCache c → IsSmallCache (wanted c l grow).1
  wanted_small c l grow i = by_wanted (λ a. IsSmallCache a.1) c l grow (λ w is. i) (λ may. record { few_acquires = inserted c.acquiring l may.tracked; few_releases = i.few_releases; few_acks = i.few_acks })

  evicted_small : (c : Cache) (l : ℕ) → IsSmallCache c → IsSmallCache (evicted c l).1
  evicted_small c l i = by_evicted (λ a. IsSmallCache a.1) c l (λ e is. i) (λ held e may. record { few_acquires = i.few_acquires; few_releases = inserted c.releasing l may.tracked; few_acks = i.few_acks })

  probed_small : (c : Cache) (l : ℕ) (cap : Cap) → IsSmallCache c → IsSmallCache (probed c l cap).1
  probed_small c l cap i = by_probed (λ a. IsSmallCache a.1) c l cap i (λ e. go (copy_at c l))
    where
      go : (o : Option Held) → IsSmallCache (probed_copy c l cap o).1
      go None = i
      go (Some h) = record { few_acquires = i.few_acquires; few_releases = i.few_releases; few_acks = i.few_acks }

  written_small : (c : Cache) (l word : ℕ) (marks : List Bool) (bytes : List ℕ) → IsSmallCache c → IsSmallCache (word_written c l word marks bytes)
  written_small c l word marks bytes i = go (copy_at c l)
    where
      go : (o : Option Held) → IsSmallCache (word_written_in c l word marks bytes o)
      go None = i
      go (Some h) = i

-- ---- one node

all_set : (ns : List Node) (h : ℕ) (n : Node) → AllSmall ns → IsSmallNode n → AllSmall (slice_set ns h n)
all_set [] h n all is = tt
all_set (x ∷ ns) zero n all is = (is, all.1)
all_set (x ∷ ns) (suc h) n all is = (all.0, all_set ns h n all.1 is)

all_at : (ns : List Node) (h : ℕ) (d : Node) → AllSmall ns → IsSmallNode d → IsSmallNode (slice_index_or ns h d)
all_at [] h d all is = is
all_at (x ∷ ns) zero d all is = all.0
all_at (x ∷ ns) (suc h) d all is = all_at ns h d all.1 is

pub node_small : (s : State) → IsSmallState s → (h : ℕ) → IsSmallNode (node_at s h)
node_small s k h = all_at s.views.nodes h _ k.each (node_opens_small s.trace.image s.views.config 0)

with_small : (s : State) (h : ℕ) (n : Node) → IsSmallState s → IsSmallNode n → IsSmallState (with_node h n s)
with_small s h n k is = record { few = rw (length-set s.views.nodes h n) k.few; each = all_set s.views.nodes h n k.each is }

-- ---- messages

abbrev IsQuiet : Channel → Type 0
IsQuiet A = Unit {0}
IsQuiet B = Unit {0}
IsQuiet C = Unit {0}
IsQuiet D = Unit {0}
IsQuiet E = ⊥

acks_stay : (w : Waiting) (ch : Channel) (ms : List Msg) → IsQuiet ch → (with_queue w ch ms).e ≡ w.e
acks_stay w A ms is = refl
acks_stay w B ms is = refl
acks_stay w C ms is = refl
acks_stay w D ms is = refl
acks_stay w E ms is = absurd is

behind_shorter : (q : List Msg) → length (behind q) ≤ length q
behind_shorter [] = omega arith
behind_shorter (m ∷ q) = omega arith

acks_popped : (w : Waiting) (ch : Channel) → length (popped w ch).e ≤ length w.e
acks_popped w A = omega arith
acks_popped w B = omega arith
acks_popped w C = omega arith
acks_popped w D = omega arith
acks_popped w E = behind_shorter w.e

sent_small : (s : State) (h : ℕ) (m : Msg) → IsQuiet (channel_of m) → IsSmallState s → IsSmallState (sent h m s)
sent_small s h m is k =
    let i : IsSmallNode (node_at s h) = node_small s k h in
    with_small s h (record (node_at s h) { queues = pushed (node_at s h).queues m }) k
    (record { few_acquires = i.few_acquires; few_releases = i.few_releases; few_acks = rw (acks_stay (node_at s h).queues (channel_of m) (queue_of (node_at s h).queues (channel_of m) ++ m ∷ []) is) i.few_acks })

taken_small : (s : State) (h : ℕ) (m : Msg) → IsSmallState s → IsSmallState (taken h m s)
taken_small s h m k =
    let i : IsSmallNode (node_at s h) = node_small s k h in
    let le : length (popped (node_at s h).queues (channel_of m)).e ≤ length (node_at s h).queues.e = acks_popped (node_at s h).queues (channel_of m) in
    let few : length (node_at s h).queues.e ≤ TRACKERS = i.few_acks in
    with_small s h (record (node_at s h) { queues = popped (node_at s h).queues (channel_of m) }) k
    (record { few_acquires = i.few_acquires; few_releases = i.few_releases; few_acks = omega (arith, le, few) })

grant_quiet : (g : Granting) (bytes : LineData) → IsQuiet (channel_of_body (grant_body g bytes))
grant_quiet g bytes = go g.with_data
  where
    go : (t : Bool) → IsQuiet (channel_of_body (if t then GrantData g.cap bytes else Grant g.cap))
    go true = tt
    go false = tt

probe_ack_quiet : (change : Change) (bytes : Option LineData) → IsQuiet (channel_of_body (probe_ack_body change bytes))
probe_ack_quiet change None = tt
probe_ack_quiet change (Some bytes) = tt

release_quiet : (change : Change) (bytes : Option LineData) → IsQuiet (channel_of_body (release_body change bytes))
release_quiet change None = tt
release_quiet change (Some bytes) = tt

-- ---- the manager's side

grant_small : (l : ℕ) (g : Granting) (s : State) → IsSmallState s → IsSmallState (sent_grant l g s)
grant_small l g s k = sent_small s g.hart (record { line = l; body = grant_body g (line_in_memory s l) }) (grant_quiet g (line_in_memory s l)) k

memory_small : (l : ℕ) (bytes : Option LineData) (s : State) → IsSmallState s → IsSmallState (with_memory l bytes s)
memory_small l None s k = k
memory_small l (Some bytes) s k = k

probe_ack_small : (h l : ℕ) (change : Change) (bytes : Option LineData) (s : State) → IsSmallState s → IsSmallState (on_probe_ack h l change bytes s)
probe_ack_small h l change bytes s k =
    let answer = probe_acked s.views.notes (place_of (line_size s) l) h change in
    let noted = with_notes answer.1 (with_memory l bytes s) in
    let small : IsSmallState noted = memory_small l bytes s k in
    by_granted IsSmallState noted small l answer.0 (λ g. grant_small l g noted small)

release_small : (h l : ℕ) (bytes : Option LineData) (s : State) → IsSmallState s → IsSmallState (on_release h l bytes s)
release_small h l bytes s k = sent_small (with_notes (released s.views.notes (place_of (line_size s) l) h) (with_memory l bytes s)) h (record { line = l; body = ReleaseAck }) tt (memory_small l bytes s k)

-- ---- the cache's side

probe_small : (h l : ℕ) (cap : Cap) (s : State) → IsSmallState s → IsSmallState (on_probe h l cap s)
probe_small h l cap s k =
    let n = node_at s h in
    let shrunk = with_node h (with_less (probed n.cache l cap).1 l n) s in
    let small = with_small s h (with_less (probed n.cache l cap).1 l n) k (probed_small n.queues.e n.cache l cap (node_small s k h)) in
    by_answered IsSmallState shrunk small h l (probed n.cache l cap).0 (λ change bytes e. sent_small shrunk h (record { line = l; body = probe_ack_body change bytes }) (probe_ack_quiet change bytes) small)

-- a Grant's GrantAck goes where there is room for it
on_grant_small : (h l : ℕ) (cap : Cap) (bytes : Option LineData) (s : State) → h < length s.views.nodes → length (node_at s h).queues.e < TRACKERS → IsSmallState s → IsSmallState (on_grant h l cap bytes s)
on_grant_small h l cap bytes s in_h room k = with_small s1 h (record (node_at s1 h) { queues = pushed (node_at s1 h).queues ack }) k1 (record { few_acquires = after.few_acquires; few_releases = after.few_releases; few_acks = omega (arith, same, longer, room) })
  where
    n1 : Node
    n1 = record (node_at s h) { cache = granted (node_at s h).cache l cap bytes }

    s1 : State
    s1 = with_node h n1 s

    ack : Msg
    ack = record { line = l; body = GrantAck }

    i : IsSmallNode (node_at s h)
    i = node_small s k h

    k1 : IsSmallState s1
    k1 = with_small s h n1 k (record { few_acquires = removed (node_at s h).cache.acquiring l i.few_acquires; few_releases = i.few_releases; few_acks = i.few_acks })

    after : IsSmallNode (node_at s1 h)
    after = node_small s1 k1 h

    same : length (node_at s1 h).queues.e ≡ length (node_at s h).queues.e
    same = ap (λ (x : Node). length x.queues.e) (node_same h n1 s in_h)

    longer : length ((node_at s1 h).queues.e ++ ack ∷ []) ≡ length (node_at s1 h).queues.e + 1
    longer = length-append (node_at s1 h).queues.e (ack ∷ [])

release_ack_small : (h l : ℕ) (s : State) → IsSmallState s → IsSmallState (on_release_ack h l s)
release_ack_small h l s k =
    let i : IsSmallNode (node_at s h) = node_small s k h in
    with_small s h (record (node_at s h) { cache = answered (node_at s h).cache l }) k (record { few_acquires = i.few_acquires; few_releases = removed (node_at s h).cache.releasing l i.few_releases; few_acks = i.few_acks })

-- ---- a delivery

handled_small : (h l : ℕ) (body : Body) (s : State) → h < length s.views.nodes → (is_grant body ≡ true → length (node_at s h).queues.e < TRACKERS) → IsSmallState s → IsSmallState (handled h l body s)
handled_small h l (AcquireBlock grow) s in_h room k =
    let answer = acquired s.views.notes (place_of (line_size s) l) h grow in
    by_handled IsSmallState (λ h l cap s k. sent_small s h (record { line = l; body = ProbeBlock cap }) tt k) grant_small l answer.0 (with_notes answer.1 s) k
handled_small h l (ProbeBlock cap) s in_h room k = probe_small h l cap s k
handled_small h l (ProbeAck change) s in_h room k = probe_ack_small h l change None s k
handled_small h l (ProbeAckData change bytes) s in_h room k = probe_ack_small h l change (Some bytes) s k
handled_small h l (Release change) s in_h room k = release_small h l None s k
handled_small h l (ReleaseData change bytes) s in_h room k = release_small h l (Some bytes) s k
handled_small h l (Grant cap) s in_h room k = on_grant_small h l cap None s in_h (room refl) k
handled_small h l (GrantData cap bytes) s in_h room k = on_grant_small h l cap (Some bytes) s in_h (room refl) k
handled_small h l ReleaseAck s in_h room k = release_ack_small h l s k
handled_small h l GrantAck s in_h room k = k

delivered_small : (s : State) (h : ℕ) (m : Msg) → h < length s.views.nodes → (is_grant m.body ≡ true → length (node_at s h).queues.e < TRACKERS) → IsSmallState s → IsSmallState (delivered h m s)
delivered_small s h m in_h room k = handled_small h m.line m.body (taken h m s) (rw (framed_taken s h m in_h).count in_h) still (taken_small s h m k)
  where
    still : is_grant m.body ≡ true → length (node_at (taken h m s) h).queues.e < TRACKERS
    still g =
        let lt : length (node_at s h).queues.e < TRACKERS = room g in
        let le : length (popped (node_at s h).queues (channel_of m)).e ≤ length (node_at s h).queues.e = acks_popped (node_at s h).queues (channel_of m) in
        let e : length (node_at (taken h m s) h).queues.e ≡ length (popped (node_at s h).queues (channel_of m)).e = ap (λ (x : Node). length x.queues.e) (framed_taken s h m in_h).here in
        omega (arith, lt, le, e)

-- ---- the other acts

missed_small : (s : State) (h l : ℕ) (grow : Grow) → IsSmallState s → IsSmallState (missed h l grow s)
missed_small s h l grow k =
    let n = node_at s h in
    sent_small (with_node h (record n { cache = (wanted n.cache l grow).1 }) s) h (record { line = l; body = AcquireBlock grow }) tt
    (with_small s h (record n { cache = (wanted n.cache l grow).1 }) k (wanted_small n.queues.e n.cache l grow (node_small s k h)))

given_up_small : (s : State) (h l : ℕ) → IsSmallState s → IsSmallState (given_up h l s)
given_up_small s h l k =
    let n = node_at s h in
    let less = with_node h (with_less (evicted n.cache l).1 l n) s in
    let small = with_small s h (with_less (evicted n.cache l).1 l n) k (evicted_small n.queues.e n.cache l (node_small s k h)) in
    by_left IsSmallState less small h l (evicted n.cache l).0 (λ change bytes. sent_small less h (record { line = l; body = release_body change bytes }) (release_quiet change bytes) small)

hart_small : (s : State) (h : ℕ) (hart : Hart) → IsSmallState s → IsSmallState (with_node h (record (node_at s h) { hart = hart }) s)
hart_small s h hart k = with_small s h (record (node_at s h) { hart = hart }) k (node_small s k h)

by_deeds : KeptByDeeds IsSmallState
by_deeds = record {
  performs = λ h place s k. k;
  puts_out = λ h numbers s k. with_small s h (record (node_at s h) { output = numbers }) k (node_small s k h);
  buffers = λ h b s k. with_small s h (record (node_at s h) { buffer = b }) k (node_small s k h);
  reserves = λ h o s k. with_small s h (record (node_at s h) { reserved = o }) k (node_small s k h);
  writes = λ h word marks bytes s k.
      let n = node_at s h in
      with_small s h (record n { cache = word_written n.cache (line_of n.cache.shape.size word) word marks bytes }) k (written_small n.queues.e n.cache (line_of n.cache.shape.size word) word marks bytes (node_small s k h));
}

-- ---- an act

-- a Grant is only delivered where its GrantAck has room
abbrev pub LeavesRoom : State → ℕ → Act → Type 0
LeavesRoom s h (act.Deliver m) = is_grant m.body ≡ true → length (node_at s h).queues.e < TRACKERS
LeavesRoom s h _ = Unit {0}

pub acted_small : (s : State) (h : ℕ) (a : Act) → h < length s.views.nodes → LeavesRoom s h a → IsSmallState s → IsSmallState (acted h a s)
acted_small s h (act.Stop code) in_h room k = hart_small s h (record (node_at s h).hart { status = Stopped code }) k
acted_small s h (act.Retire entry i d) in_h room k =
    let t = does s.views.config.model h d s in
    hart_small t h (after_instr (node_at t h).hart entry (Some i)) (does_by IsSmallState by_deeds s.views.config.model h d s k)
acted_small s h (act.Miss l grow) in_h room k = missed_small s h l grow k
acted_small s h (act.Drain word) in_h room k = drained_by IsSmallState by_deeds h word s k
acted_small s h (act.Evict l) in_h room k = given_up_small s h l k
acted_small s h (act.Deliver m) in_h room k = delivered_small s h m in_h room k
acted_small s h (act.Local count) in_h room k = hart_small s h (reached (node_at s h).hart (private_row s.trace.image (node_at s h).hart count)) k
