-- Each act keeps the caches' shapes, the notes' number of harts, the sizes of memory's lines and the count of events.
use Rattle.std.proofs.Common.{ℕ, zero, suc, ◌<◌, Bool, List, [], ◌∷◌, ◌≡◌, Option, Some, None, refl, ◌∙◌, length, slice_set, slice_index_or}
use native.Mathlib.Omega.{arith}
use Rattle.backing_memory.specs.Memory.{line_data}
use Rattle.client_cache.specs.Cache.{wanted, probed, granted, answered, evicted}
use Rattle.client_cache.specs.Word.{with_word}
use Rattle.directory.specs.Directory.{Notes, acquired, grant_acked, probe_acked, released}
use Rattle.machine_model.specs.Changing.{acted, does, given_up, missed}
use Rattle.machine_model.specs.Deliveries.{delivered, handled, on_acquire, on_grant, on_probe, on_probe_ack, on_release, taken, with_less, with_memory, with_notes}
use Rattle.hart.specs.Run.{after_instr}
use Rattle.machine_model.specs.Views.{Node, State, Views, line_size, no_node, node_at, place_of, sent, with_node}
use Rattle.machine_model.specs.declared.act.Act.{Act}
use Rattle.machine_model.specs.declared.act.Act.TheVariants as act
use Rattle.tl_types.specs.Line.{line_of, size_of}
use Rattle.tl_types.specs.declared.line.LineData.{LineData}
use Rattle.tl_types.specs.declared.line.LineData.TheVariants as data_of
use Rattle.tl_types.specs.declared.line.LineSize.{LineSize}
use Rattle.tl_types.specs.declared.message.Body.{Body}
use Rattle.tl_types.specs.declared.message.Body.TheVariants.{AcquireBlock, ProbeBlock, ProbeAck, ProbeAckData, Release, ReleaseData, Grant, GrantData, ReleaseAck, GrantAck}
use Rattle.tl_types.specs.declared.message.Msg.{Msg}
use Rattle.tl_types.specs.declared.permission.Cap.{Cap}
use Rattle.tl_types.specs.declared.permission.Change.{Change}
use Rattle.tl_types.specs.declared.permission.Grow.{Grow}
use Rattle.machine_model.proofs.Nodes.{same-set}
use Rattle.machine_model.proofs.CacheCalls.{evicted_shape, probed_shape, wanted_keeps, written_shape}
use Rattle.machine_model.proofs.Parts.{KeptByDeeds, by_answered, by_granted, by_handled, by_left, does_by, drained_by}

-- ---- lines of one size

pub word_size : (line : LineData) (word : ℕ) (marks : List Bool) (bytes : List ℕ) → size_of (with_word line word marks bytes) ≡ size_of line
word_size (data_of.Bytes16 line) word marks bytes = refl
word_size (data_of.Bytes64 line) word marks bytes = refl

module _ (size : LineSize) where
  abbrev pub AllSized : List LineData → Type 0
  AllSized cells = (k : ℕ) → k < length cells → size_of (line_data cells k) ≡ size

  set_sized : (cells : List LineData) (place : ℕ) (bytes : LineData) → size_of bytes ≡ size → AllSized cells → AllSized (slice_set cells place bytes)
  set_sized [] place bytes e all k lt = all k lt
  set_sized (x ∷ cells) zero bytes e all zero lt = e
  set_sized (x ∷ cells) zero bytes e all (suc k) lt = all (suc k) lt
  set_sized (x ∷ cells) (suc place) bytes e all zero lt = all zero (omega arith)
  set_sized (x ∷ cells) (suc place) bytes e all (suc k) lt = set_sized cells place bytes e (λ j l. all (suc j) (omega arith)) k (omega arith)

  -- ---- views

  pub record Keeps (old new : Views) : Type 0 where
    pub shapes : (k : ℕ) (d : Node) → (slice_index_or new.nodes k d).cache.shape ≡ (slice_index_or old.nodes k d).cache.shape
    pub harts : new.notes.harts ≡ old.notes.harts
    pub changes : new.changes ≡ old.changes
    pub cells : AllSized old.memory → AllSized new.memory

  keeps_all : (v : Views) → Keeps v v
  keeps_all v = record { shapes = λ k d. refl; harts = refl; changes = refl; cells = λ all. all }

  keeps_then : (a b c : Views) → Keeps a b → Keeps b c → Keeps a c
  keeps_then a b c f g = record {
    shapes = λ k d. g.shapes k d ∙ f.shapes k d;
    harts = g.harts ∙ f.harts;
    changes = g.changes ∙ f.changes;
    cells = λ all. g.cells (f.cells all);
  }

  keeps_node : (h : ℕ) (n : Node) (s : State) → n.cache.shape ≡ (node_at s h).cache.shape → Keeps s.views (with_node h n s).views
  keeps_node h n s e = record { shapes = λ k d. same-set (λ (x : Node). x.cache.shape) s.views.nodes h k n d (no_node s) e; harts = refl; changes = refl; cells = λ all. all }

  sent_keeps : (h : ℕ) (m : Msg) (s : State) → Keeps s.views (sent h m s).views
  sent_keeps h m s = keeps_node h _ s refl

  taken_keeps : (h : ℕ) (m : Msg) (s : State) → Keeps s.views (taken h m s).views
  taken_keeps h m s = keeps_node h _ s refl

  -- what is sent after a change of the views
  sends_on : (h : ℕ) (m : Msg) (v : Views) (s : State) → Keeps v s.views → Keeps v (sent h m s).views
  sends_on h m v s k = keeps_then v s.views (sent h m s).views k (sent_keeps h m s)

  -- ---- deliveries

  abbrev pub IsSized : Option LineData → Type 0
  IsSized None = Unit {0}
  IsSized (Some bytes) = size_of bytes ≡ size

  -- data go to memory, and the notes change
  stored_keeps : (line : ℕ) (bytes : Option LineData) (notes : Notes) (s : State) → notes.harts ≡ s.views.notes.harts → IsSized bytes → Keeps s.views (with_notes notes (with_memory line bytes s)).views
  stored_keeps line None notes s e is = record { shapes = λ k d. refl; harts = e; changes = refl; cells = λ all. all }
  stored_keeps line (Some bytes) notes s e is = record { shapes = λ k d. refl; harts = e; changes = refl; cells = λ all. set_sized s.views.memory (place_of (line_size s) line) bytes is all }

  acknowledged_keeps : (h line : ℕ) (change : Change) (bytes : Option LineData) (s : State) → IsSized bytes → Keeps s.views (on_probe_ack h line change bytes s).views
  acknowledged_keeps h line change bytes s is =
      let answer = probe_acked s.views.notes (place_of (line_size s) line) h change in
      let noted = with_notes answer.1 (with_memory line bytes s) in
      let k = stored_keeps line bytes answer.1 s refl is in
      by_granted (λ t. Keeps s.views t.views) noted k line answer.0 (λ g. sends_on g.hart _ s.views noted k)

  released_keeps : (h line : ℕ) (bytes : Option LineData) (s : State) → IsSized bytes → Keeps s.views (on_release h line bytes s).views
  released_keeps h line bytes s is =
      let notes = released s.views.notes (place_of (line_size s) line) h in
      let noted = with_notes notes (with_memory line bytes s) in
      keeps_then s.views noted.views _ (stored_keeps line bytes notes s refl is) (sent_keeps h (record { line = line; body = ReleaseAck }) noted)

  acquired_keeps : (h line : ℕ) (grow : Grow) (s : State) → Keeps s.views (on_acquire h line grow s).views
  acquired_keeps h line grow s =
      let answer = acquired s.views.notes (place_of (line_size s) line) h grow in
      by_handled (λ t. Keeps s.views t.views) (λ h line cap t k. sends_on h (record { line = line; body = ProbeBlock cap }) s.views t k) (λ line g t k. sends_on g.hart _ s.views t k) line answer.0 (with_notes answer.1 s) (stored_keeps line None answer.1 s refl tt)

  probed_keeps : (h line : ℕ) (cap : Cap) (s : State) → Keeps s.views (on_probe h line cap s).views
  probed_keeps h line cap s =
      let answer = probed (node_at s h).cache line cap in
      let shrunk = with_node h (with_less answer.1 line (node_at s h)) s in
      let k = keeps_node h (with_less answer.1 line (node_at s h)) s (probed_shape (node_at s h).cache line cap) in
      by_answered (λ t. Keeps s.views t.views) shrunk k h line answer.0 (λ change bytes e. sends_on h _ s.views shrunk k)

  granted_keeps : (h line : ℕ) (cap : Cap) (bytes : Option LineData) (s : State) → Keeps s.views (on_grant h line cap bytes s).views
  granted_keeps h line cap bytes s =
      let held = with_node h (record (node_at s h) { cache = granted (node_at s h).cache line cap bytes }) s in
      keeps_then s.views held.views _ (keeps_node h _ s refl) (sent_keeps h (record { line = line; body = GrantAck }) held)

  -- what a message carries to memory is a line's
  abbrev pub IsSizedBody : Body → Type 0
  IsSizedBody (ProbeAckData change bytes) = size_of bytes ≡ size
  IsSizedBody (ReleaseData change bytes) = size_of bytes ≡ size
  IsSizedBody _ = Unit {0}

  handled_keeps : (h line : ℕ) (body : Body) (s : State) → IsSizedBody body → Keeps s.views (handled h line body s).views
  handled_keeps h line (AcquireBlock grow) s is = acquired_keeps h line grow s
  handled_keeps h line (ProbeBlock cap) s is = probed_keeps h line cap s
  handled_keeps h line (ProbeAck change) s is = acknowledged_keeps h line change None s tt
  handled_keeps h line (ProbeAckData change bytes) s is = acknowledged_keeps h line change (Some bytes) s is
  handled_keeps h line (Release change) s is = released_keeps h line None s tt
  handled_keeps h line (ReleaseData change bytes) s is = released_keeps h line (Some bytes) s is
  handled_keeps h line (Grant cap) s is = granted_keeps h line cap None s
  handled_keeps h line (GrantData cap bytes) s is = granted_keeps h line cap (Some bytes) s
  handled_keeps h line ReleaseAck s is = keeps_node h (record (node_at s h) { cache = answered (node_at s h).cache line }) s refl
  handled_keeps h line GrantAck s is = stored_keeps line None (grant_acked s.views.notes (place_of (line_size s) line)) s refl tt

  delivered_keeps : (h : ℕ) (m : Msg) (s : State) → IsSizedBody m.body → Keeps s.views (delivered h m s).views
  delivered_keeps h m s is = keeps_then s.views (taken h m s).views _ (taken_keeps h m s) (handled_keeps h m.line m.body (taken h m s) is)

  -- ---- the other acts

  missed_keeps : (h line : ℕ) (grow : Grow) (s : State) → Keeps s.views (missed h line grow s).views
  missed_keeps h line grow s = sends_on h (record { line = line; body = AcquireBlock grow }) s.views (with_node h (record (node_at s h) { cache = (wanted (node_at s h).cache line grow).1 }) s) (keeps_node h _ s (wanted_keeps (node_at s h).cache line grow).0)

  given_up_keeps : (h line : ℕ) (s : State) → Keeps s.views (given_up h line s).views
  given_up_keeps h line s =
      let answer = evicted (node_at s h).cache line in
      let less = with_node h (with_less answer.1 line (node_at s h)) s in
      let k = keeps_node h (with_less answer.1 line (node_at s h)) s (evicted_shape (node_at s h).cache line) in
      by_left (λ t. Keeps s.views t.views) less k h line answer.0 (λ change bytes. sends_on h _ s.views less k)

  by_deeds : (v : Views) → KeptByDeeds (λ t. Keeps v t.views)
  by_deeds v = record {
    performs = λ h place t k. k;
    puts_out = λ h numbers t k. keeps_then v t.views _ k (keeps_node h (record (node_at t h) { output = numbers }) t refl);
    buffers = λ h b t k. keeps_then v t.views _ k (keeps_node h (record (node_at t h) { buffer = b }) t refl);
    reserves = λ h o t k. keeps_then v t.views _ k (keeps_node h (record (node_at t h) { reserved = o }) t refl);
    writes = λ h word marks bytes t k. keeps_then v t.views _ k (keeps_node h _ t (written_shape (node_at t h).cache (line_of (node_at t h).cache.shape.size word) word marks bytes));
  }

  -- ---- an act

  abbrev pub IsSizedAct : Act → Type 0
  IsSizedAct (act.Deliver m) = IsSizedBody m.body
  IsSizedAct _ = Unit {0}

  pub acted_keeps : (h : ℕ) (a : Act) (s : State) → IsSizedAct a → Keeps s.views (acted h a s).views
  acted_keeps h (act.Stop code) s is = keeps_node h _ s refl
  acted_keeps h (act.Retire entry i d) s is =
      let did = does s.views.config.model h d s in
      keeps_then s.views did.views _ (does_by (λ t. Keeps s.views t.views) (by_deeds s.views) s.views.config.model h d s (keeps_all s.views)) (keeps_node h (record (node_at did h) { hart = after_instr (node_at did h).hart entry (Some i) }) did refl)
  acted_keeps h (act.Miss line grow) s is = missed_keeps h line grow s
  acted_keeps h (act.Drain word) s is = drained_by (λ t. Keeps s.views t.views) (by_deeds s.views) h word s (keeps_all s.views)
  acted_keeps h (act.Evict line) s is = given_up_keeps h line s
  acted_keeps h (act.Deliver m) s is = delivered_keeps h m s is
  acted_keeps h (act.Local count) s is = keeps_node h _ s refl
