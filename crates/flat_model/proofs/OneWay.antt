-- Where sets hold one line, each cache of a machine has, or asks for, at most one line of a set.
use Rattle.std.proofs.Common.{◌≡◌, ◌≢◌, ℕ, zero, suc, ◌<◌, List, [], ◌∷◌, Bool, true, false, Option, Some, None, refl, sym, ap, ◌∙◌, subst, not, ◌&&◌, ◌||◌, ◌⊎◌, inl, inr, arith, length, slice_index_or}
use Rattle.std.specs.Prelude.{nat_eq, nat_le, is_some, slice_set, if◌then◌else◌}
use Rattle.std.specs.Prelude as prelude
use Rattle.std.specs.FinMap as map
use Rattle.std.specs.FinMap.{get, get-empty, nat_cmp-IsAntisymmetric}
use Rattle.std.specs.FinSet as set
use Rattle.std.specs.FinSet.{FinSet}
use Rattle.std.specs.List.{range_with_len}
use Rattle.std.specs.Ordering.{nat_cmp}
use Rattle.std.specs.Cmp.{nat_cmp_total}
use Rattle.std.proofs.lemmas.Bool.{leb-false, eq-eqb}
use Rattle.std.proofs.lemmas.Bool.Decides.{eqb_tells}
use Rattle.machine_types.specs.declared.limits.TheConstants.{TRACKERS}
use Rattle.client_cache.proofs.AtLines.{insert_other, put_other, remove_other}
use Rattle.client_cache.proofs.Counts.{keys-get}
use Rattle.client_cache.specs.Cache.{Cache, copy_at, evicted, evicted_copy, granted, opening as cache_opening, probed, probed_copy, put, lines_in_set as taken_ways, wanted, word_written, word_written_in}
use Rattle.client_cache.specs.Held.{bytes_in, eviction_of, granted_copy, shrunk_copy}
use Rattle.client_cache.specs.Shape.{set_of}
use Rattle.client_cache.specs.Word.{with_word}
use Rattle.client_cache.specs.declared.answers.Evict.{Evict}
use Rattle.client_cache.specs.declared.answers.Evict.TheVariants as evict
use Rattle.client_cache.specs.declared.answers.Probed.{Probed}
use Rattle.client_cache.specs.declared.answers.Probed.TheVariants as probe
use Rattle.client_cache.specs.declared.answers.Want.TheVariants as want
use Rattle.client_cache.specs.declared.held.Held.{Held}
use Rattle.client_cache.specs.declared.held.Held.TheVariants.{Trunk}
use Rattle.client_cache.specs.declared.shape.Shape.{Shape}
use Rattle.machine_model.specs.Directory.{acquired, probe_acked, released}
use Rattle.machine_model.specs.Acquired.{Acquired}
use Rattle.machine_model.specs.AcquiredVariants.{Handled, Busy}
use Rattle.machine_model.specs.Grant.{Grant as Granting}
use Rattle.machine_model.specs.Sent.{Sent}
use Rattle.machine_model.specs.SentVariants.{Probes, Granting as Grants}
use Rattle.machine_model.specs.Image.{Initial}
use Rattle.machine_model.specs.declared.act.Act.{Act}
use Rattle.machine_model.specs.declared.act.Act.TheVariants as act
use Rattle.machine_model.specs.declared.act.Deed.{Deed}
use Rattle.machine_model.specs.declared.act.Deed.TheVariants as deed
use Rattle.machine_types.specs.declared.config.Config.{Config}
use Rattle.machine_model.specs.Changing.{acted, does, drained, performs, performs_own, sent_if_evicted, writes_word}
use Rattle.machine_model.specs.Deliveries.{delivered, handled, on_grant, on_probe_ack, on_release, with_less, sent_any, sent_if_answered, sent_if_granted, sent_if_handled, sent_probes, taken, with_memory, with_notes}
use Rattle.machine_model.specs.Ready.{IsReadyAct, IsReadyBody}
use Rattle.machine_model.specs.Views.{Node, State, line_size, no_node, node_at, opening, opening_node, place_of, sent, with_node}
use Rattle.machine_model.specs.Words.{bytes_of_word}
use Rattle.machine_model.proofs.Nodes.{node_same}
use Rattle.machine_types.specs.declared.model.MemoryModel.{MemoryModel}
use Rattle.store_buffer.specs.ByteMask.{marks_of_access}
use Rattle.store_buffer.specs.Entry.{entry_of}
use Rattle.store_buffer.specs.Groups.{oldest}
use Rattle.tl_types.specs.declared.line.LineData.{LineData}
use Rattle.tl_types.specs.declared.line.LineSize.{LineSize}
use Rattle.tl_types.specs.declared.message.Body.{Body}
use Rattle.tl_types.specs.declared.message.Body.TheVariants.{AcquireBlock, ProbeBlock, ProbeAck, ProbeAckData, Release, ReleaseData, Grant, GrantData, ReleaseAck, GrantAck}
use Rattle.tl_types.specs.declared.message.Msg.{Msg}
use Rattle.tl_types.specs.declared.permission.Cap.{Cap}
use Rattle.tl_types.specs.declared.permission.Change.{Change}
use Rattle.tl_types.specs.declared.permission.Grow.{Grow}

-- ---- one cache

-- a way of the line's set is taken by the line
abbrev pub uses : Cache → ℕ → Bool
uses c l = is_some (copy_at c l) || set.contains c.acquiring l

pub record IsAlone (c : Cache) : Type 0 where
  pub alone : c.shape.ways ≡ 1 → (a b : ℕ) → uses c a ≡ true → uses c b ≡ true → set_of c.shape a ≡ set_of c.shape b → a ≡ b

-- no more lines than before
record Within (old new : Cache) : Type 0 where
  shape : new.shape ≡ old.shape
  lines : (l : ℕ) → uses new l ≡ true → uses old l ≡ true

within_not : (c : Cache) → Within c c
within_not c = record { shape = refl; lines = λ l e. e }

within_alone : (old new : Cache) → Within old new → IsAlone old → IsAlone new
within_alone old new w i = record {
  alone = λ one a b x y same. i.alone (sym (ap (λ (s : Shape). s.ways) w.shape) ∙ one) a b (w.lines a x) (w.lines b y) (sym (ap (λ s. set_of s a) w.shape) ∙ (same ∙ ap (λ s. set_of s b) w.shape));
}

or_left : (a b : Bool) → a ≡ true → (a || b) ≡ true
or_left a b e = ap (λ x. x || b) e

or_right : (a b : Bool) → b ≡ true → (a || b) ≡ true
or_right true b e = refl
or_right false b e = e

-- a line that takes a way changes
put_within : (c : Cache) (line : ℕ) (o : Option Held) (asked left : FinSet nat_cmp) → uses c line ≡ true → ((q : ℕ) → q ≢ line → set.contains asked q ≡ set.contains c.acquiring q) → Within c (record c { copies = put c.copies line o; acquiring = asked; releasing = left })
put_within c line o asked left here others = record { shape = refl; lines = λ l e. go l e (eqb_tells l line) }
  where
    go : (l : ℕ) → is_some (get (put c.copies line o) l) || set.contains asked l ≡ true → ((nat_eq l line ≡ true) × (l ≡ line)) ⊎ ((nat_eq l line ≡ false) × (l ≢ line)) → uses c l ≡ true
    go l e (inl q) = ap (uses c) q.1 ∙ here
    go l e (inr q) = sym (ap (λ x. is_some x || set.contains asked l) (put_other c.copies line o l q.1) ∙ ap (λ x. is_some (copy_at c l) || x) (others l q.1)) ∙ e

pub holds_uses : (c : Cache) (line : ℕ) (held : Held) → copy_at c line ≡ Some held → uses c line ≡ true
holds_uses c line held e = or_left (is_some (copy_at c line)) (set.contains c.acquiring line) (ap is_some e)

abbrev choice : {X : Type 0} → Bool → X × Cache → X × Cache → X × Cache
choice t x y = if t then x else y

either : {X : Type 0} (P : Cache → Type 0) (t : Bool) (x y : X × Cache) → P x.1 → P y.1 → P (choice t x y).1
either P true x y p q = p
either P false x y p q = q

evicted_within : (c : Cache) (line : ℕ) → Within c (evicted c line).1
evicted_within c line = go (copy_at c line) refl
  where
    go : (o : Option Held) → copy_at c line ≡ o → Within c (evicted_copy c line o).1
    go None e = within_not c
    go (Some h) e =
        let gone : Evict × Cache = (eviction_of h, record c { copies = map.remove c.copies line; releasing = set.insert c.releasing line }) in
        either (Within c) (set.contains c.acquiring line) (evict.AcquirePending, c) (choice (nat_le TRACKERS (set.len c.releasing)) (evict.ReleaseFull, c) gone) (within_not c)
        (either (Within c) (nat_le TRACKERS (set.len c.releasing)) (evict.ReleaseFull, c) gone (within_not c) (put_within c line None c.acquiring (set.insert c.releasing line) (holds_uses c line h e) (λ q ne. refl)))

probed_within : (c : Cache) (line : ℕ) (cap : Cap) → Within c (probed c line cap).1
probed_within c line cap = either (Within c) (set.contains c.releasing line) (probe.Releasing, c) (probed_copy c line cap (copy_at c line)) (within_not c) (go (copy_at c line) refl)
  where
    go : (o : Option Held) → copy_at c line ≡ o → Within c (probed_copy c line cap o).1
    go None e = within_not c
    go (Some h) e = put_within c line (shrunk_copy cap h) c.acquiring c.releasing (holds_uses c line h e) (λ q ne. refl)

written_within : (c : Cache) (line word : ℕ) (marks : List Bool) (bytes : List ℕ) → Within c (word_written c line word marks bytes)
written_within c line word marks bytes = go (copy_at c line) refl
  where
    go : (o : Option Held) → copy_at c line ≡ o → Within c (word_written_in c line word marks bytes o)
    go None e = within_not c
    go (Some h) e = put_within c line (Some (Trunk true (with_word (bytes_in h) word marks bytes))) c.acquiring c.releasing (holds_uses c line h e) (λ q ne. refl)

granted_within : (c : Cache) (line : ℕ) (cap : Cap) (bytes : Option LineData) → set.contains c.acquiring line ≡ true → Within c (granted c line cap bytes)
granted_within c line cap bytes e = put_within c line (granted_copy cap bytes (copy_at c line)) (set.remove c.acquiring line) c.releasing (or_right (is_some (copy_at c line)) (set.contains c.acquiring line) e) (λ q ne. remove_other c.acquiring line q ne)

-- a set of which no way is taken has no line
none_used : (c : Cache) (line q : ℕ) → set.len (taken_ways c line) ≡ 0 → uses c q ≡ true → set_of c.shape q ≡ set_of c.shape line → ⊥
none_used c line q none used same =
    let all : FinSet nat_cmp = set.union (set.from_list (map.keys c.copies)) c.acquiring in
    let in_set : ℕ → Bool = λ k. nat_eq (set_of c.shape k) (set_of c.shape line) in
    let empty : taken_ways c line ≡ set.empty = set.empty_of_len (taken_ways c line) none in
    let there : set.contains all q ≡ true = set.contains-union nat_cmp_total (set.from_list (map.keys c.copies)) c.acquiring q ∙ (ap (λ b. b || set.contains c.acquiring q) (keys-get c.copies q) ∙ used) in
    let kept : set.contains (taken_ways c line) q ≡ (set.contains all q && in_set q) = set.contains-retain all in_set q (λ x tied. ap in_set (sym (nat_cmp-IsAntisymmetric q x tied))) in
    let yes : set.contains (taken_ways c line) q ≡ true = kept ∙ (ap (λ b. b && in_set q) there ∙ eq-eqb (set_of c.shape q) (set_of c.shape line) same) in
    let no : set.contains (taken_ways c line) q ≡ false = ap (λ s. set.contains s q) empty ∙ set.contains-empty nat_cmp q in
    cc

wanted_alone : (c : Cache) (line : ℕ) (grow : Grow) → IsAlone c → IsAlone (wanted c line grow).1
wanted_alone c line grow i =
    either IsAlone (set.contains c.releasing line) (want.WaitRelease, c) _ i
    (either IsAlone (set.contains c.acquiring line) (want.WaitGrant, c) _ i
    (either IsAlone (nat_le TRACKERS (set.len c.acquiring)) (want.NoTracker, c) _ i (by_room (is_some (copy_at c line)) refl (nat_le c.shape.ways (set.len (taken_ways c line))) refl)))
  where
    asked : Cache
    asked = record c { acquiring = set.insert c.acquiring line }

    same_or : (l : ℕ) → l ≢ line → uses asked l ≡ uses c l
    same_or l ne = ap (λ b. is_some (copy_at c l) || b) (insert_other c.acquiring line l ne)

    by_room : (held : Bool) → is_some (copy_at c line) ≡ held → (full : Bool) → nat_le c.shape.ways (set.len (taken_ways c line)) ≡ full → IsAlone (choice (not held && full) (want.SetFull, c) (want.Missed grow, asked)).1
    by_room true e full g = within_alone c asked (record { shape = refl; lines = λ l u. go l u (eqb_tells l line) }) i
      where
        go : (l : ℕ) → uses asked l ≡ true → ((nat_eq l line ≡ true) × (l ≡ line)) ⊎ ((nat_eq l line ≡ false) × (l ≢ line)) → uses c l ≡ true
        go l u (inl q) = ap (uses c) q.1 ∙ or_left (is_some (copy_at c line)) (set.contains c.acquiring line) e
        go l u (inr q) = sym (same_or l q.1) ∙ u
    by_room false e true g = i
    by_room false e false g = record { alone = λ one a b x y same. go one a b x y same (eqb_tells a line) (eqb_tells b line) }
      where
        none : c.shape.ways ≡ 1 → set.len (taken_ways c line) ≡ 0
        none one = let l : set.len (taken_ways c line) < c.shape.ways = leb-false c.shape.ways (set.len (taken_ways c line)) g in omega (arith, l, one)

        go : c.shape.ways ≡ 1 → (a b : ℕ) → uses asked a ≡ true → uses asked b ≡ true → set_of c.shape a ≡ set_of c.shape b → ((nat_eq a line ≡ true) × (a ≡ line)) ⊎ ((nat_eq a line ≡ false) × (a ≢ line)) → ((nat_eq b line ≡ true) × (b ≡ line)) ⊎ ((nat_eq b line ≡ false) × (b ≢ line)) → a ≡ b
        go one a b x y same (inl p) (inl q) = p.1 ∙ sym q.1
        go one a b x y same (inl p) (inr q) = absurd (none_used c line b (none one) (sym (same_or b q.1) ∙ y) (sym same ∙ ap (set_of c.shape) p.1))
        go one a b x y same (inr p) (inl q) = absurd (none_used c line a (none one) (sym (same_or a p.1) ∙ x) (same ∙ ap (set_of c.shape) q.1))
        go one a b x y same (inr p) (inr q) = i.alone one a b (sym (same_or a p.1) ∙ x) (sym (same_or b q.1) ∙ y) same

opens_alone : (sets ways : ℕ) (size : LineSize) → IsAlone (cache_opening sets ways size)
opens_alone sets ways size = record { alone = λ one a b x y same. absurd (none a x) }
  where
    none : (l : ℕ) → uses (cache_opening sets ways size) l ≡ true → ⊥
    none l x = let no : uses (cache_opening sets ways size) l ≡ false = ap (λ (o : Option Held). is_some o || set.contains (set.empty {R = nat_cmp}) l) (get-empty nat_cmp l) ∙ set.contains-empty nat_cmp l in cc

-- ---- all caches

abbrev pub AllAlone : List Node → Type 0
AllAlone [] = Unit {0}
AllAlone (n ∷ ns) = IsAlone n.cache × AllAlone ns

pub record AloneIn (s : State) : Type 0 where
  pub each : AllAlone s.views.nodes

-- a change of something else
pub still_alone : (s t : State) → t.views.nodes ≡ s.views.nodes → AloneIn s → AloneIn t
still_alone s t e all = record { each = subst AllAlone (sym e) all.each }

all_set : (ns : List Node) (h : ℕ) (n : Node) → AllAlone ns → IsAlone n.cache → AllAlone (slice_set ns h n)
all_set [] h n all is = tt
all_set (x ∷ ns) zero n all is = (is, all.1)
all_set (x ∷ ns) (suc h) n all is = (all.0, all_set ns h n all.1 is)

all_at : (ns : List Node) (h : ℕ) (d : Node) → AllAlone ns → IsAlone d.cache → IsAlone (slice_index_or ns h d).cache
all_at [] h d all is = is
all_at (x ∷ ns) zero d all is = all.0
all_at (x ∷ ns) (suc h) d all is = all_at ns h d all.1 is

pub node_alone : (s : State) (h : ℕ) → AloneIn s → IsAlone (node_at s h).cache
node_alone s h all = all_at s.views.nodes h (no_node s) all.each (opens_alone s.views.config.sets s.views.config.ways s.views.config.line)

pub opening_alone : (image : Initial) (config : Config) → AloneIn (opening image config)
opening_alone image config = record { each = go (range_with_len 0 config.harts) }
  where
    go : (ids : List ℕ) → AllAlone (prelude.map (opening_node image config) ids)
    go [] = tt
    go (id ∷ ids) = (opens_alone config.sets config.ways config.line, go ids)

-- ---- acts

with_alone : (h : ℕ) (n : Node) (s : State) → IsAlone n.cache → AloneIn s → AloneIn (with_node h n s)
with_alone h n s is all = record { each = all_set s.views.nodes h n all.each is }

same_alone : (h : ℕ) (n : Node) (s : State) → n.cache ≡ (node_at s h).cache → AloneIn s → AloneIn (with_node h n s)
same_alone h n s e all = with_alone h n s (subst IsAlone (sym e) (node_alone s h all)) all

sent_alone : (h : ℕ) (m : Msg) (s : State) → AloneIn s → AloneIn (sent h m s)
sent_alone h m s all = let k = same_alone h _ s refl all in record { each = k.each }

probes_alone : (harts : List ℕ) (line : ℕ) (cap : Cap) (s : State) → AloneIn s → AloneIn (sent_probes harts line cap s)
probes_alone [] line cap s all = all
probes_alone (hart ∷ harts) line cap s all = probes_alone harts line cap _ (sent_alone hart (record { line = line; body = ProbeBlock cap }) s all)

any_alone : (line : ℕ) (a : Sent) (s : State) → AloneIn s → AloneIn (sent_any line a s)
any_alone line (Probes cap harts) s all = probes_alone harts line cap s all
any_alone line (Grants g) s all = sent_alone g.hart _ s all

if_handled : (line : ℕ) (a : Acquired) (s : State) → AloneIn s → AloneIn (sent_if_handled line a s)
if_handled line Busy s all = all
if_handled line (Handled sends) s all = any_alone line sends s all

if_granted : (line : ℕ) (g : Option Granting) (s : State) → AloneIn s → AloneIn (sent_if_granted line g s)
if_granted line None s all = all
if_granted line (Some g) s all = sent_alone g.hart _ s all

if_answered : (h line : ℕ) (p : Probed) (s : State) → AloneIn s → AloneIn (sent_if_answered h line p s)
if_answered h line probe.Releasing s all = all
if_answered h line (probe.Answered change bytes) s all = sent_alone h _ s all

if_evicted : (h line : ℕ) (e : Evict) (s : State) → AloneIn s → AloneIn (sent_if_evicted h line e s)
if_evicted h line (evict.Evicted change bytes) s all = sent_alone h _ s all
if_evicted h line evict.NotHeld s all = all
if_evicted h line evict.AcquirePending s all = all
if_evicted h line evict.ReleaseFull s all = all

memory_alone : (line : ℕ) (bytes : Option LineData) (s : State) → AloneIn s → AloneIn (with_memory line bytes s)
memory_alone line None s all = all
memory_alone line (Some bytes) s all = record { each = all.each }

performs_alone : (h : ℕ) (places : List ℕ) (s : State) → AloneIn s → AloneIn (performs h places s)
performs_alone h [] s all = all
performs_alone h (place ∷ places) s all = performs_alone h places _ (record { each = all.each })

writes_alone : (h word : ℕ) (marks : List Bool) (bytes : List ℕ) (s : State) → AloneIn s → AloneIn (writes_word h word marks bytes s)
writes_alone h word marks bytes s all = with_alone h _ s (within_alone (node_at s h).cache _ (written_within (node_at s h).cache _ word marks bytes) (node_alone s h all)) all

does_alone : (model : MemoryModel) (h : ℕ) (d : Deed) (s : State) → AloneIn s → AloneIn (does model h d s)
does_alone model h deed.Private s all = all
does_alone model h (deed.Output number) s all = same_alone h _ s refl all
does_alone model h deed.Load s all = record { each = all.each }
does_alone model h (deed.Store store) s all = same_alone h _ s refl all
does_alone model h deed.Seal s all = same_alone h _ s refl all
does_alone model h (deed.Lr word) s all = same_alone h _ (performs_own h s) refl (record { each = all.each })
does_alone model h deed.Fail s all = same_alone h _ s refl all
does_alone model h (deed.Sc word value) s all = same_alone h _ _ refl (writes_alone h word (marks_of_access 0 4) (bytes_of_word value) (performs_own h s) (record { each = all.each }))
does_alone model h (deed.Amo word value) s all = writes_alone h word (marks_of_access 0 4) (bytes_of_word value) (performs_own h s) (record { each = all.each })

drained_alone : (h word : ℕ) (s : State) → AloneIn s → AloneIn (drained h word s)
drained_alone h word s all =
    let e = entry_of word (oldest (node_at s h).buffer) in
    same_alone h _ _ refl (writes_alone h word e.mask e.bytes (performs h e.ops s) (performs_alone h e.ops s all))

-- a Grant finds its Acquire
abbrev Found : Cache → ℕ → Body → Type 0
Found c line (Grant cap) = set.contains c.acquiring line ≡ true
Found c line (GrantData cap bytes) = set.contains c.acquiring line ≡ true
Found c line _ = Unit {0}

acknowledged : (h line : ℕ) (change : Change) (bytes : Option LineData) (s : State) → AloneIn s → AloneIn (on_probe_ack h line change bytes s)
acknowledged h line change bytes s all =
    let answer = probe_acked s.views.notes (place_of (line_size s) line) h change in
    let k = memory_alone line bytes s all in
    if_granted line answer.0 (with_notes answer.1 (with_memory line bytes s)) (record { each = k.each })

released_alone : (h line : ℕ) (bytes : Option LineData) (s : State) → AloneIn s → AloneIn (on_release h line bytes s)
released_alone h line bytes s all =
    let k = memory_alone line bytes s all in
    sent_alone h (record { line = line; body = ReleaseAck }) (with_notes (released s.views.notes (place_of (line_size s) line) h) (with_memory line bytes s)) (record { each = k.each })

granted_alone : (h line : ℕ) (cap : Cap) (bytes : Option LineData) (s : State) → set.contains (node_at s h).cache.acquiring line ≡ true → AloneIn s → AloneIn (on_grant h line cap bytes s)
granted_alone h line cap bytes s f all =
    let c = (node_at s h).cache in
    sent_alone h (record { line = line; body = GrantAck }) (with_node h (record (node_at s h) { cache = granted c line cap bytes }) s) (with_alone h _ s (within_alone c _ (granted_within c line cap bytes f) (node_alone s h all)) all)

handled_alone : (h line : ℕ) (body : Body) (s : State) → Found (node_at s h).cache line body → AloneIn s → AloneIn (handled h line body s)
handled_alone h line (AcquireBlock grow) s f all =
    let answer = acquired s.views.notes (place_of (line_size s) line) h grow in
    if_handled line answer.0 (with_notes answer.1 s) (record { each = all.each })
handled_alone h line (ProbeBlock cap) s f all =
    let c = (node_at s h).cache in
    if_answered h line (probed c line cap).0 (with_node h (with_less (probed c line cap).1 line (node_at s h)) s) (with_alone h _ s (within_alone c _ (probed_within c line cap) (node_alone s h all)) all)
handled_alone h line (ProbeAck change) s f all = acknowledged h line change None s all
handled_alone h line (ProbeAckData change bytes) s f all = acknowledged h line change (Some bytes) s all
handled_alone h line (Release change) s f all = released_alone h line None s all
handled_alone h line (ReleaseData change bytes) s f all = released_alone h line (Some bytes) s all
handled_alone h line (Grant cap) s f all = granted_alone h line cap None s f all
handled_alone h line (GrantData cap bytes) s f all = granted_alone h line cap (Some bytes) s f all
handled_alone h line ReleaseAck s f all = with_alone h _ s (within_alone (node_at s h).cache _ (record { shape = refl; lines = λ l e. e }) (node_alone s h all)) all
handled_alone h line GrantAck s f all = record { each = all.each }

delivered_alone : (h : ℕ) (m : Msg) (s : State) → h < length s.views.nodes → IsReadyAct h (act.Deliver m) s → AloneIn s → AloneIn (delivered h m s)
delivered_alone h m s l ready all = let k = same_alone h _ s refl all in handled_alone h m.line m.body (taken h m s) (go m.body ready.body) (record { each = k.each })
  where
    same : (node_at (taken h m s) h).cache ≡ (node_at s h).cache
    same = ap (λ (n : Node). n.cache) (node_same h _ s l)

    go : (body : Body) → IsReadyBody h m.line body s → Found (node_at (taken h m s) h).cache m.line body
    go (Grant cap) r = ap (λ (c : Cache). set.contains c.acquiring m.line) same ∙ r
    go (GrantData cap bytes) r = ap (λ (c : Cache). set.contains c.acquiring m.line) same ∙ r
    go _ r = tt

pub acted_alone : (h : ℕ) (a : Act) (s : State) → h < length s.views.nodes → IsReadyAct h a s → AloneIn s → AloneIn (acted h a s)
acted_alone h (act.Stop code) s l r all = let k = same_alone h _ s refl all in record { each = k.each }
acted_alone h (act.Retire entry i d) s l r all =
    let k = does_alone s.views.config.model h d s all in
    let m = same_alone h _ (does s.views.config.model h d s) refl k in
    record { each = m.each }
acted_alone h (act.Miss line grow) s l r all =
    let c = (node_at s h).cache in
    sent_alone h (record { line = line; body = AcquireBlock grow }) (with_node h (record (node_at s h) { cache = (wanted c line grow).1 }) s) (with_alone h _ s (wanted_alone c line grow (node_alone s h all)) all)
acted_alone h (act.Drain word) s l r all = drained_alone h word s all
acted_alone h (act.Evict line) s l r all =
    let c = (node_at s h).cache in
    if_evicted h line (evicted c line).0 (with_node h (with_less (evicted c line).1 line (node_at s h)) s) (with_alone h _ s (within_alone c _ (evicted_within c line) (node_alone s h all)) all)
acted_alone h (act.Deliver m) s l r all = delivered_alone h m s l r all
acted_alone h (act.Local count) s l r all = let k = same_alone h _ s refl all in record { each = k.each }
