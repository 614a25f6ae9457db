-- What a cache, its queues and the manager's note make of one line, and what each act does to that.
use Rattle.std.proofs.Common.{subst, ℕ, Bool, true, false, List, [], ◌∷◌, ◌++◌, ◌≡◌, Option, Some, None, refl, ap, sym, ◌∙◌}
use Rattle.std.specs.Prelude.{◌≢◌, ◌==◌, if◌then◌else◌, is_some}
use Rattle.std.specs.FinSet as set
use Rattle.std.proofs.lemmas.Bool.{eq-eqb}
use Rattle.client_cache.proofs.AtLines.{wanted_other, probed_other, evicted_other, missed_own, probed_own, evicted_own, put_own, put_other, remove_own, remove_other}
use Rattle.client_cache.specs.AtLine.{AtLine, at_line, KeepsOthers}
use Rattle.client_cache.specs.Cache.{Cache, copy_at, wanted, probed, probed_copy, granted, answered, evicted, written}
use Rattle.client_cache.specs.Held.{granted_copy, perm_of}
use Rattle.client_cache.specs.declared.answers.Want.TheVariants.{Missed}
use Rattle.client_cache.specs.declared.answers.Evict.TheVariants.{Evicted}
use Rattle.client_cache.specs.declared.answers.Probed.TheVariants.{Answered}
use Rattle.client_cache.specs.declared.held.Held.{Held}
use Rattle.client_cache.specs.declared.held.Held.TheVariants as held
use Rattle.directory.specs.declared.answer.Known.{Known}
use Rattle.machine_model.specs.Changing.{release_body}
use Rattle.machine_model.specs.Deliveries.{probe_ack_body}
use Rattle.machine_model.proofs.coherence.LineKept.{not_eq}
use Rattle.machine_model.proofs.coherence.LineStands.{Side, dirty_of, asked, left, shrunk, installed, rested, wrote}
use Rattle.tilelink_channels.specs.Queues.{Waiting, behind, popped, pushed, queue_of, with_queue}
use Rattle.tl_types.specs.Message.{channel_of}
use Rattle.tl_types.specs.Shrink.{shrunk_by}
use Rattle.tl_types.specs.declared.line.LineData.{LineData}
use Rattle.tl_types.specs.declared.message.Body.{Body}
use Rattle.tl_types.specs.declared.message.Body.TheVariants.{AcquireBlock, ProbeBlock, GrantAck}
use Rattle.tl_types.specs.declared.message.Channel.{Channel}
use Rattle.tl_types.specs.declared.message.Channel.TheVariants.{A, B, C, D, E}
use Rattle.tl_types.specs.declared.message.Msg.{Msg}
use Rattle.tl_types.specs.declared.permission.Cap.{Cap}
use Rattle.tl_types.specs.declared.permission.Cap.TheVariants.{ToN}
use Rattle.tl_types.specs.declared.permission.Change.{Change}
use Rattle.tl_types.specs.declared.permission.Grow.{Grow}
use Rattle.machine_model.proofs.CacheCalls.{IsNoEviction, IsNoMiss, by_evicted, by_probed, by_wanted}

-- ---- the messages of one line

abbrev pub of_line : ℕ → List Msg → List Body
of_line l [] = []
of_line l (m ∷ ms) = if m.line == l then m.body ∷ of_line l ms else of_line l ms

pub of_line_same : (l : ℕ) (q : List Msg) (body : Body) → of_line l (q ++ (record { line = l; body = body }) ∷ []) ≡ of_line l q ++ body ∷ []
of_line_same l [] body = rw (eq-eqb l l refl) refl
of_line_same l (x ∷ q) body = go (x.line == l) (of_line_same l q body)
  where
    m : Msg
    m = record { line = l; body = body }

    go : (t : Bool) → of_line l (q ++ m ∷ []) ≡ of_line l q ++ body ∷ [] → (if t then x.body ∷ of_line l (q ++ m ∷ []) else of_line l (q ++ m ∷ [])) ≡ (if t then x.body ∷ of_line l q else of_line l q) ++ body ∷ []
    go true e = ap (λ r. x.body ∷ r) e
    go false e = e

pub of_line_other : (l : ℕ) (q : List Msg) (m : Msg) → m.line ≢ l → of_line l (q ++ m ∷ []) ≡ of_line l q
of_line_other l [] m ne = rw (not_eq m.line l ne) refl
of_line_other l (x ∷ q) m ne = go (x.line == l) (of_line_other l q m ne)
  where
    go : (t : Bool) → of_line l (q ++ m ∷ []) ≡ of_line l q → (if t then x.body ∷ of_line l (q ++ m ∷ []) else of_line l (q ++ m ∷ [])) ≡ (if t then x.body ∷ of_line l q else of_line l q)
    go true e = ap (λ r. x.body ∷ r) e
    go false e = e

pub front_here : (l : ℕ) (q : List Msg) (body : Body) (rest : List Msg) → q ≡ (record { line = l; body = body }) ∷ rest → of_line l q ≡ body ∷ of_line l rest
front_here l q body rest e = ap (of_line l) e ∙ rw (eq-eqb l l refl) refl

pub behind_front : (q : List Msg) (m : Msg) (rest : List Msg) → q ≡ m ∷ rest → behind q ≡ rest
behind_front q m rest e = ap behind e

behind_elsewhere : (l : ℕ) (q : List Msg) (m : Msg) (rest : List Msg) → q ≡ m ∷ rest → m.line ≢ l → of_line l (behind q) ≡ of_line l q
behind_elsewhere l q m rest e ne = let f : of_line l (m ∷ rest) ≡ of_line l rest = rw (not_eq m.line l ne) refl in ap (λ ms. of_line l (behind ms)) e ∙ sym f ∙ sym (ap (of_line l) e)

-- ---- one line, seen

abbrev pub side_of : AtLine → Waiting → Known → ℕ → Side
side_of x w z l = record {
  copy = x.copy;
  acquiring = x.acquiring;
  releasing = x.releasing;
  a = of_line l w.a;
  b = of_line l w.b;
  c = of_line l w.c;
  d = of_line l w.d;
  e = of_line l w.e;
  noted = z.perm;
  awaited = z.awaited;
}

abbrev pub seen : Cache → Waiting → Known → ℕ → Side
seen c w z l = side_of (at_line c l) w z l

-- ---- queues

with_queue_elsewhere : (x : AtLine) (w : Waiting) (z : Known) (l : ℕ) (ch : Channel) (ms : List Msg) → of_line l ms ≡ of_line l (queue_of w ch) → side_of x (with_queue w ch ms) z l ≡ side_of x w z l
with_queue_elsewhere x w z l A ms e = rw e refl
with_queue_elsewhere x w z l B ms e = rw e refl
with_queue_elsewhere x w z l C ms e = rw e refl
with_queue_elsewhere x w z l D ms e = rw e refl
with_queue_elsewhere x w z l E ms e = rw e refl

pub pushed_elsewhere : (x : AtLine) (w : Waiting) (z : Known) (l : ℕ) (m : Msg) → m.line ≢ l → side_of x (pushed w m) z l ≡ side_of x w z l
pushed_elsewhere x w z l m ne = with_queue_elsewhere x w z l (channel_of m) _ (of_line_other l (queue_of w (channel_of m)) m ne)

pub popped_elsewhere : (x : AtLine) (w : Waiting) (z : Known) (l : ℕ) (ch : Channel) (m : Msg) (rest : List Msg) → queue_of w ch ≡ m ∷ rest → m.line ≢ l → side_of x (popped w ch) z l ≡ side_of x w z l
popped_elsewhere x w z l ch m rest e ne = with_queue_elsewhere x w z l ch _ (behind_elsewhere l (queue_of w ch) m rest e ne)

-- a message taken, and one sent
pub answered_elsewhere : (x : AtLine) (w : Waiting) (z : Known) (l : ℕ) (ch : Channel) (m : Msg) (rest : List Msg) (n : Msg) → queue_of w ch ≡ m ∷ rest → m.line ≢ l → n.line ≡ m.line → side_of x (pushed (popped w ch) n) z l ≡ side_of x w z l
answered_elsewhere x w z l ch m rest n e ne same = pushed_elsewhere x (popped w ch) z l n (λ f. ne (sym same ∙ f)) ∙ popped_elsewhere x w z l ch m rest e ne

pub cache_elsewhere : (c c' : Cache) (w : Waiting) (z : Known) (k l : ℕ) → KeepsOthers k c c' → l ≢ k → seen c' w z l ≡ seen c w z l
cache_elsewhere c c' w z k l keeps ne = ap (λ x. side_of x w z l) (keeps l ne)

-- a Release and a ProbeAck go to queue C, whatever they carry
pub pushed_release : (w : Waiting) (k : ℕ) (change : Change) (bytes : Option LineData) → pushed w (record { line = k; body = release_body change bytes }) ≡ record w { c = w.c ++ (record { line = k; body = release_body change bytes }) ∷ [] }
pushed_release w k change None = refl
pushed_release w k change (Some bytes) = refl

pub pushed_probe_ack : (w : Waiting) (k : ℕ) (change : Change) (bytes : Option LineData) → pushed w (record { line = k; body = probe_ack_body change bytes }) ≡ record w { c = w.c ++ (record { line = k; body = probe_ack_body change bytes }) ∷ [] }
pushed_probe_ack w k change None = refl
pushed_probe_ack w k change (Some bytes) = refl

-- ---- a miss

-- an Acquire goes out only where neither an Acquire nor a Release of the line is under way
pub missed_says : (c : Cache) (k : ℕ) (grow : Grow) → (wanted c k grow).0 ≡ Missed grow → (set.contains c.releasing k ≡ false) × (set.contains c.acquiring k ≡ false)
missed_says c k grow is =
    by_wanted (λ a. a.0 ≡ Missed grow → (set.contains c.releasing k ≡ false) × (set.contains c.acquiring k ≡ false)) c k grow
    (λ w none e. absurd (subst IsNoMiss e none)) (λ may e. (may.not_releasing, may.not_acquiring)) is

pub missed_here : (c : Cache) (w : Waiting) (z : Known) (k : ℕ) (grow : Grow) → (wanted c k grow).0 ≡ Missed grow → seen (wanted c k grow).1 (pushed w (record { line = k; body = AcquireBlock grow })) z k ≡ asked (seen c w z k) grow
missed_here c w z k grow is = ap (λ x. side_of x (pushed w (record { line = k; body = AcquireBlock grow })) z k) (missed_own c k grow is) ∙ rw (of_line_same k w.a (AcquireBlock grow)) refl

pub missed_elsewhere : (c : Cache) (w : Waiting) (z : Known) (k l : ℕ) (grow : Grow) → l ≢ k → seen (wanted c k grow).1 (pushed w (record { line = k; body = AcquireBlock grow })) z l ≡ seen c w z l
missed_elsewhere c w z k l grow ne = pushed_elsewhere (at_line (wanted c k grow).1 l) w z l (record { line = k; body = AcquireBlock grow }) (λ e. ne (sym e)) ∙ cache_elsewhere c (wanted c k grow).1 w z k l (wanted_other c k grow) ne

-- ---- an eviction

pub record Leaving (c : Cache) (k : ℕ) (change : Change) (bytes : Option LineData) : Type 0 where
  pub held : is_some (copy_at c k) ≡ true
  pub unasked : set.contains c.acquiring k ≡ false
  pub change_is : change ≡ (shrunk_by (perm_of (copy_at c k)) ToN).1
  pub bytes_are : bytes ≡ dirty_of (copy_at c k)

pub evicted_says : (c : Cache) (k : ℕ) (change : Change) (bytes : Option LineData) → (evicted c k).0 ≡ Evicted change bytes → Leaving c k change bytes
evicted_says c k change bytes is =
    by_evicted (λ a. a.0 ≡ Evicted change bytes → Leaving c k change bytes) c k (λ e none f. absurd (subst IsNoEviction f none))
    (λ h e may f. record { held = rw e refl; unasked = may.not_acquiring; change_is = rw e cc; bytes_are = rw e cc }) is

pub evicted_here : (c : Cache) (w : Waiting) (z : Known) (k : ℕ) (change : Change) (bytes : Option LineData) → (evicted c k).0 ≡ Evicted change bytes → seen (evicted c k).1 (pushed w (record { line = k; body = release_body change bytes })) z k ≡ left (seen c w z k)
evicted_here c w z k change bytes is =
    let says : Leaving c k change bytes = evicted_says c k change bytes is in
    ap (λ x. side_of x (pushed w (record { line = k; body = release_body change bytes })) z k) (evicted_own c k change bytes is)
    ∙ rw (pushed_release w k change bytes, of_line_same k w.c (release_body change bytes), says.change_is, says.bytes_are) refl

pub evicted_elsewhere : (c : Cache) (w : Waiting) (z : Known) (k l : ℕ) (change : Change) (bytes : Option LineData) → l ≢ k → seen (evicted c k).1 (pushed w (record { line = k; body = release_body change bytes })) z l ≡ seen c w z l
evicted_elsewhere c w z k l change bytes ne = pushed_elsewhere (at_line (evicted c k).1 l) w z l (record { line = k; body = release_body change bytes }) (λ e. ne (sym e)) ∙ cache_elsewhere c (evicted c k).1 w z k l (evicted_other c k) ne

-- ---- a Probe

pub record Answering (c : Cache) (k : ℕ) (cap : Cap) (change : Change) (bytes : Option LineData) : Type 0 where
  pub rested : set.contains c.releasing k ≡ false
  pub change_is : change ≡ (shrunk_by (perm_of (copy_at c k)) cap).1
  pub bytes_are : bytes ≡ dirty_of (copy_at c k)

pub probed_says : (c : Cache) (k : ℕ) (cap : Cap) (change : Change) (bytes : Option LineData) → (probed c k cap).0 ≡ Answered change bytes → Answering c k cap change bytes
probed_says c k cap change bytes is = by_probed (λ a. a.0 ≡ Answered change bytes → Answering c k cap change bytes) c k cap (λ f. cc f) (λ rested f. go (copy_at c k) refl rested f) is
  where
    go : (o : Option Held) → copy_at c k ≡ o → set.contains c.releasing k ≡ false → (probed_copy c k cap o).0 ≡ Answered change bytes → Answering c k cap change bytes
    go None e f is = record { rested = f; change_is = rw e cc; bytes_are = rw e cc }
    go (Some h) e f is = record { rested = f; change_is = rw e cc; bytes_are = rw e cc }

pub probed_here : (c : Cache) (w : Waiting) (z : Known) (k : ℕ) (cap : Cap) (rest : List Msg) (change : Change) (bytes : Option LineData) → w.b ≡ (record { line = k; body = ProbeBlock cap }) ∷ rest → (probed c k cap).0 ≡ Answered change bytes →
    seen (probed c k cap).1 (pushed (popped w B) (record { line = k; body = probe_ack_body change bytes })) z k ≡ shrunk (seen c w z k) cap (of_line k rest)
probed_here c w z k cap rest change bytes e is =
    let says : Answering c k cap change bytes = probed_says c k cap change bytes is in
    ap (λ x. side_of x (pushed (popped w B) (record { line = k; body = probe_ack_body change bytes })) z k) (probed_own c k cap says.rested)
    ∙ rw (pushed_probe_ack (popped w B) k change bytes, behind_front w.b _ rest e, of_line_same k w.c (probe_ack_body change bytes), says.change_is, says.bytes_are) refl

pub probed_elsewhere : (c : Cache) (w : Waiting) (z : Known) (k l : ℕ) (cap : Cap) (rest : List Msg) (change : Change) (bytes : Option LineData) → w.b ≡ (record { line = k; body = ProbeBlock cap }) ∷ rest → l ≢ k →
    seen (probed c k cap).1 (pushed (popped w B) (record { line = k; body = probe_ack_body change bytes })) z l ≡ seen c w z l
probed_elsewhere c w z k l cap rest change bytes e ne = answered_elsewhere (at_line (probed c k cap).1 l) w z l B (record { line = k; body = ProbeBlock cap }) rest (record { line = k; body = probe_ack_body change bytes }) e (λ f. ne (sym f)) refl ∙ cache_elsewhere c (probed c k cap).1 w z k l (probed_other c k cap) ne

-- ---- a Grant and a ReleaseAck

granted_own : (c : Cache) (k : ℕ) (cap : Cap) (bytes : Option LineData) → at_line (granted c k cap bytes) k ≡ record (at_line c k) { copy = granted_copy cap bytes (copy_at c k); acquiring = false }
granted_own c k cap bytes = λ i. record { copy = put_own c.copies k (granted_copy cap bytes (copy_at c k)) i; acquiring = remove_own c.acquiring k i; releasing = set.contains c.releasing k }

pub granted_other : (c : Cache) (k : ℕ) (cap : Cap) (bytes : Option LineData) → KeepsOthers k c (granted c k cap bytes)
granted_other c k cap bytes q n = λ i. record { copy = put_other c.copies k (granted_copy cap bytes (copy_at c k)) q n i; acquiring = remove_other c.acquiring k q n i; releasing = set.contains c.releasing q }

answered_own : (c : Cache) (k : ℕ) → at_line (answered c k) k ≡ record (at_line c k) { releasing = false }
answered_own c k = λ i. record { copy = copy_at c k; acquiring = set.contains c.acquiring k; releasing = remove_own c.releasing k i }

pub answered_other : (c : Cache) (k : ℕ) → KeepsOthers k c (answered c k)
answered_other c k q n = λ i. record { copy = copy_at c q; acquiring = set.contains c.acquiring q; releasing = remove_other c.releasing k q n i }

pub granted_here : (c : Cache) (w : Waiting) (z : Known) (k : ℕ) (cap : Cap) (bytes : Option LineData) (m : Msg) (rest : List Msg) → w.d ≡ m ∷ rest →
    seen (granted c k cap bytes) (pushed (popped w D) (record { line = k; body = GrantAck })) z k ≡ installed (seen c w z k) cap bytes (of_line k rest)
granted_here c w z k cap bytes m rest e =
    ap (λ x. side_of x (pushed (popped w D) (record { line = k; body = GrantAck })) z k) (granted_own c k cap bytes)
    ∙ rw (behind_front w.d _ rest e, of_line_same k w.e GrantAck) refl

pub granted_elsewhere : (c : Cache) (w : Waiting) (z : Known) (k l : ℕ) (cap : Cap) (bytes : Option LineData) (m : Msg) (rest : List Msg) → w.d ≡ m ∷ rest → m.line ≡ k → l ≢ k →
    seen (granted c k cap bytes) (pushed (popped w D) (record { line = k; body = GrantAck })) z l ≡ seen c w z l
granted_elsewhere c w z k l cap bytes m rest e on ne = answered_elsewhere (at_line (granted c k cap bytes) l) w z l D m rest (record { line = k; body = GrantAck }) e (λ f. ne (sym f ∙ on)) (sym on) ∙ cache_elsewhere c (granted c k cap bytes) w z k l (granted_other c k cap bytes) ne

pub rested_here : (c : Cache) (w : Waiting) (z : Known) (k : ℕ) (m : Msg) (rest : List Msg) → w.d ≡ m ∷ rest → seen (answered c k) (popped w D) z k ≡ rested (seen c w z k) (of_line k rest)
rested_here c w z k m rest e = ap (λ x. side_of x (popped w D) z k) (answered_own c k) ∙ rw (behind_front w.d _ rest e) refl

pub rested_elsewhere : (c : Cache) (w : Waiting) (z : Known) (k l : ℕ) (m : Msg) (rest : List Msg) → w.d ≡ m ∷ rest → m.line ≡ k → l ≢ k → seen (answered c k) (popped w D) z l ≡ seen c w z l
rested_elsewhere c w z k l m rest e on ne = popped_elsewhere (at_line (answered c k) l) w z l D m rest e (λ f. ne (sym f ∙ on)) ∙ cache_elsewhere c (answered c k) w z k l (answered_other c k) ne

-- ---- a write

written_own : (c : Cache) (k : ℕ) (bytes : LineData) → at_line (written c k bytes) k ≡ record (at_line c k) { copy = Some (held.Trunk true bytes) }
written_own c k bytes = λ i. record { copy = put_own c.copies k (Some (held.Trunk true bytes)) i; acquiring = set.contains c.acquiring k; releasing = set.contains c.releasing k }

written_other : (c : Cache) (k : ℕ) (bytes : LineData) → KeepsOthers k c (written c k bytes)
written_other c k bytes q n = λ i. record { copy = put_other c.copies k (Some (held.Trunk true bytes)) q n i; acquiring = set.contains c.acquiring q; releasing = set.contains c.releasing q }

pub written_here : (c : Cache) (w : Waiting) (z : Known) (k : ℕ) (bytes : LineData) → seen (written c k bytes) w z k ≡ wrote (seen c w z k) bytes
written_here c w z k bytes = ap (λ x. side_of x w z k) (written_own c k bytes)

pub written_elsewhere : (c : Cache) (w : Waiting) (z : Known) (k l : ℕ) (bytes : LineData) → l ≢ k → seen (written c k bytes) w z l ≡ seen c w z l
written_elsewhere c w z k l bytes ne = cache_elsewhere c (written c k bytes) w z k l (written_other c k bytes) ne
