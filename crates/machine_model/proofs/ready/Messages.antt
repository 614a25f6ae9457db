-- What a queued message says of its line, and what the one in front of its queue finds.
use Rattle.std.proofs.Common.{ℕ, zero, suc, ◌<◌, Bool, true, false, List, [], ◌∷◌, ◌≡◌, refl, ap, ◌∙◌, subst, length, slice_index_or}
use Rattle.std.specs.Prelude.{◌==◌, if◌then◌else◌, Contains}
use Rattle.std.proofs.lemmas.Bool.{eq-eqb}
use native.Mathlib.Omega.{arith}
use Rattle.directory.specs.Directory.{line_at}
use Rattle.directory.specs.Lines.{known_at, unknown}
use Rattle.machine_model.specs.Events.{is_piece}
use Rattle.machine_model.specs.Ready.{IsReadyBody, IsReadyMessage}
use Rattle.machine_model.specs.Views.{Node, State, line_size, node_at, place_of}
use Rattle.machine_model.proofs.coherence.LineHeads.{queue_in}
use Rattle.machine_model.proofs.coherence.LineStands.{Side, quiet_side}
use Rattle.machine_model.proofs.coherence.LineViews.{front_here, of_line}
use Rattle.machine_model.proofs.log.Fronts.{IsFront}
use Rattle.machine_model.proofs.ready.Heads.{IsAnswering, IsGranted, answering, granting}
use Rattle.machine_model.proofs.coherence.WorldFits.{IsFit, kit_of}
use Rattle.machine_model.proofs.coherence.WorldKept.{side}
use Rattle.tilelink_channels.specs.Queues.{front_of, queue_of}
use Rattle.tl_types.specs.Line.{length_of, size_of}
use Rattle.tl_types.specs.Message.{channel_of_body}
use Rattle.tl_types.specs.declared.line.LineData.{LineData}
use Rattle.tl_types.specs.declared.message.Body.{Body}
use Rattle.tl_types.specs.declared.message.Body.TheVariants.{AcquireBlock, ProbeBlock, ProbeAck, ProbeAckData, Release, ReleaseData, Grant, GrantData, ReleaseAck, GrantAck}
use Rattle.tl_types.specs.declared.message.Channel.{Channel}
use Rattle.tl_types.specs.declared.message.Channel.TheVariants.{A, B, C, D, E}
use Rattle.tl_types.specs.declared.message.Msg.{Msg}

-- a queue with a message of a line isn't empty to the line
some_of_line : (q : List Msg) (m : Msg) (k : ℕ) → k < length q → slice_index_or q k m ≡ m → of_line m.line q ≡ [] → ⊥
some_of_line [] m k lt e none = absurd (omega arith)
some_of_line (x ∷ q) m zero lt e none = let is : x.body ∷ of_line m.line q ≡ [] = rw (eq-eqb x.line m.line (ap (λ (y : Msg). y.line) e)) at none in cc is
some_of_line (x ∷ q) m (suc k) lt e none = go (x.line == m.line) (some_of_line q m k (omega arith) e) none
  where
    go : (t : Bool) → (of_line m.line q ≡ [] → ⊥) → (if t then x.body ∷ of_line m.line q else of_line m.line q) ≡ [] → ⊥
    go true some none = cc none
    go false some none = some none

-- a line that lies in memory
abbrev pub IsLine : State → ℕ → Type 0
IsLine s l = is_piece s.trace.image l (length_of (line_size s)) ≡ true

module _ (s : State) (last : ℕ → LineData) (i : IsFit s last) where
  pub queued_line : (h : ℕ) (channel : Channel) (m : Msg) → Contains (queue_of (node_at s h).queues channel) m → IsLine s m.line
  queued_line h channel m among = go (is_piece s.trace.image m.line (length_of (line_size s))) refl
    where
      seen_as : (ch : Channel) → of_line m.line (queue_of (node_at s h).queues ch) ≡ queue_in (side (kit_of (node_at s h)) unknown m.line) ch
      seen_as A = refl
      seen_as B = refl
      seen_as C = refl
      seen_as D = refl
      seen_as E = refl

      quiet : (ch : Channel) → queue_in quiet_side ch ≡ []
      quiet A = refl
      quiet B = refl
      quiet C = refl
      quiet D = refl
      quiet E = refl

      go : (t : Bool) → is_piece s.trace.image m.line (length_of (line_size s)) ≡ t → t ≡ true
      go true e = refl
      go false e = absurd (some_of_line (queue_of (node_at s h).queues channel) m among.0 among.1 among.2 (seen_as channel ∙ ap (λ (x : Side). queue_in x channel) (i.well.outside m.line e h) ∙ quiet channel))

  module _ (sizes : (l : ℕ) → IsLine s l → size_of (last l) ≡ line_size s) (h : ℕ) where
    abbrev n : Node
    n = node_at s h

    -- the hart's side of a line
    abbrev own : ℕ → Side
    own l = side (kit_of n) (known_at (line_at s.views.notes (place_of (line_size s) l)) h) l

    answers : (l : ℕ) (body : Body) (rest : List Msg) → IsLine s l → n.queues.c ≡ (record { line = l; body = body }) ∷ rest → IsAnswering (last l) (body ∷ of_line l rest)
    answers l body rest on front = subst (IsAnswering (last l)) (front_here l n.queues.c body rest front) (answering ((i.well.kept l on).stands h))

    grants : (l : ℕ) (body : Body) (rest : List Msg) → IsLine s l → n.queues.d ≡ (record { line = l; body = body }) ∷ rest → IsGranted (own l) (body ∷ of_line l rest)
    grants l body rest on front = subst (IsGranted (own l)) (front_here l n.queues.d body rest front) (granting ((i.well.kept l on).stands h))

    ready_body : (l : ℕ) (body : Body) (rest : List Msg) → IsLine s l → queue_of n.queues (channel_of_body body) ≡ (record { line = l; body = body }) ∷ rest → IsReadyBody h l body s
    ready_body l (AcquireBlock grow) rest on front = tt
    ready_body l (ProbeBlock cap) rest on front = tt
    ready_body l (ProbeAck change) rest on front = answers l (ProbeAck change) rest on front
    ready_body l (ProbeAckData change bytes) rest on front =
        let is = answers l (ProbeAckData change bytes) rest on front in
        (is.0, ap size_of is.1 ∙ sizes l on)
    ready_body l (Release change) rest on front = tt
    ready_body l (ReleaseData change bytes) rest on front = ap size_of (answers l (ReleaseData change bytes) rest on front) ∙ sizes l on
    ready_body l (Grant cap) rest on front = grants l (Grant cap) rest on front
    ready_body l (GrantData cap bytes) rest on front = grants l (GrantData cap bytes) rest on front
    ready_body l ReleaseAck rest on front = tt
    ready_body l GrantAck rest on front = tt

    pub ready_message : (m : Msg) → IsFront n m → IsReadyMessage h m s
    ready_message m is = record { front = ap front_of is.1; line = on; body = ready_body m.line m.body is.0 on is.1 }
      where
        head : (q : List Msg) → q ≡ m ∷ is.0 → Contains q m
        head q e = rw e (0, omega arith, refl)

        on : IsLine s m.line
        on = queued_line h (channel_of_body m.body) m (head (queue_of n.queues (channel_of_body m.body)) is.1)
