-- What is taken off a queue is as ready to be handled as it was in front of it.
use Rattle.std.specs.Prelude.{◌≡◌, ◌<◌, ℕ, IsTrue, length}
use Rattle.std.proofs.Common.{◌∙◌, ap, subst, sym}
use Rattle.std.specs.FinSet as set
use Rattle.client_cache.specs.Cache.{probed}
use Rattle.client_cache.specs.declared.shape.Shape.{Shape}
use Rattle.machine_model.specs.Deliveries.{taken}
use Rattle.machine_model.specs.Events.{is_piece}
use Rattle.machine_model.specs.Ready.{IsReadyBody, IsSound}
use Rattle.machine_model.specs.Views.{Node, State, line_size, node_at}
use Rattle.tilelink_channels.specs.Queues.{popped}
use Rattle.tl_types.specs.Line.{length_of}
use Rattle.tl_types.specs.Message.{channel_of}
use Rattle.tl_types.specs.declared.message.Body.{Body}
use Rattle.tl_types.specs.declared.message.Body.TheVariants.{AcquireBlock, ProbeBlock, ProbeAck, ProbeAckData, Release, ReleaseData, Grant, GrantData, ReleaseAck, GrantAck}
use Rattle.tl_types.specs.declared.message.Msg.{Msg}
use Rattle.machine_parts.specs.Handled.{HasLine}
use Rattle.machine_parts.specs.Unstalled.{IsAnswered, IsUnstalledBody}
use Rattle.machine_parts.proofs.Fronts.{from_base, noted_line}
use Rattle.machine_parts.proofs.Nodes.{node_same}

line_there : (line : ℕ) (s : State) → IsTrue (is_piece s.trace.image line (length_of (line_size s))) → IsSound s → HasLine line s
line_there line s e sound =
    let kept = noted_line s.trace.image (line_size s) line (length s.views.memory) e sound.lines in
    record { low = from_base s.trace.image line _ e; kept = kept; size = sound.sizes _ kept; noted = noted_line s.trace.image (line_size s) line _ e sound.noted_lines }

pub line_taken : (h : ℕ) (m : Msg) (s t : State) → t ≡ taken h m s → IsTrue (is_piece s.trace.image m.line (length_of (line_size s))) → IsSound s → HasLine m.line t
line_taken h m s t e p sound =
    let there = line_there m.line s p sound in
    subst (HasLine m.line) (sym e) (record { low = there.low; kept = there.kept; size = there.size; noted = there.noted })

-- the hart's node once it is taken
node_taken : (h : ℕ) (m : Msg) (s : State) → h < length s.views.nodes → node_at (taken h m s) h ≡ record (node_at s h) { queues = popped (node_at s h).queues (channel_of m) }
node_taken h m s l = node_same h (record (node_at s h) { queues = popped (node_at s h).queues (channel_of m) }) s l

pub size_taken : (h : ℕ) (m : Msg) (s t : State) → t ≡ taken h m s → h < length s.views.nodes → IsSound s → (node_at t h).cache.shape.size ≡ line_size t
size_taken h m s t e l sound =
    let kept : (node_at (taken h m s) h).cache.shape.size ≡ (node_at s h).cache.shape.size = ap (λ (n : Node). n.cache.shape.size) (node_taken h m s l) in
    let own : (node_at s h).cache.shape.size ≡ line_size s = ap (λ (shape : Shape). shape.size) (sound.shapes h) in
    rw e (kept ∙ own)

pub body_taken : (h : ℕ) (m : Msg) (s t : State) → t ≡ taken h m s → h < length s.views.nodes → IsReadyBody h m.line m.body s → IsReadyBody h m.line m.body t
body_taken h m s t e l r = subst (IsReadyBody h m.line m.body) (sym e) (go m.body r)
  where
    tracked : IsTrue (set.contains (node_at s h).cache.acquiring m.line) → IsTrue (set.contains (node_at (taken h m s) h).cache.acquiring m.line)
    tracked = subst (λ (n : Node). IsTrue (set.contains n.cache.acquiring m.line)) (sym (node_taken h m s l))

    go : (b : Body) → IsReadyBody h m.line b s → IsReadyBody h m.line b (taken h m s)
    go (AcquireBlock grow) r = r
    go (ProbeBlock cap) r = r
    go (ProbeAck change) r = r
    go (ProbeAckData change bytes) r = r
    go (Release change) r = r
    go (ReleaseData change bytes) r = r
    go (Grant cap) r = tracked r
    go (GrantData cap bytes) r = tracked r
    go ReleaseAck r = r
    go GrantAck r = r

pub unstalled_taken : (h : ℕ) (m : Msg) (s t : State) → t ≡ taken h m s → h < length s.views.nodes → IsUnstalledBody h m.line m.body s → IsUnstalledBody h m.line m.body t
unstalled_taken h m s t e l r = subst (IsUnstalledBody h m.line m.body) (sym e) (go m.body r)
  where
    go : (b : Body) → IsUnstalledBody h m.line b s → IsUnstalledBody h m.line b (taken h m s)
    go (AcquireBlock grow) r = r
    go (ProbeBlock cap) r = subst (λ (n : Node). IsAnswered (probed n.cache m.line cap).0) (sym (node_taken h m s l)) r
    go (ProbeAck change) r = tt
    go (ProbeAckData change bytes) r = tt
    go (Release change) r = tt
    go (ReleaseData change bytes) r = tt
    go (Grant cap) r = tt
    go (GrantData cap bytes) r = tt
    go ReleaseAck r = tt
    go GrantAck r = tt
