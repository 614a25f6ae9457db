-- Each act of a cache keeps what holds of a machine's state.
use Rattle.std.proofs.Common.{ℕ, true, List, [], ◌∷◌, ◌≡◌, ◌<◌, Option, refl, ap, sym, ◌∙◌, subst, length}
use Rattle.std.specs.Prelude.{◌≢◌}
use Rattle.client_cache.specs.Cache.{copy_at, wanted, probed, granted, answered, evicted}
use Rattle.client_cache.proofs.AtLines.{probed_other, evicted_other}
use Rattle.client_cache.specs.declared.answers.Want.TheVariants.{Missed}
use Rattle.client_cache.specs.declared.answers.Evict.{Evict}
use Rattle.client_cache.specs.declared.answers.Evict.TheVariants.{Evicted}
use Rattle.client_cache.specs.declared.answers.Probed.TheVariants.{Answered}
use Rattle.directory.specs.Directory.{line_at}
use Rattle.directory.specs.Lines.{known_at, unknown}
use Rattle.directory.specs.declared.answer.Known.{Known}
use Rattle.machine_model.specs.Changing.{given_up, missed, release_body, sent_if_evicted}
use Rattle.machine_model.specs.Deliveries.{on_grant, on_probe, on_release_ack, probe_ack_body, sent_if_answered, taken, with_less}
use Rattle.machine_model.specs.Views.{Node, State, line_size, node_at, place_of, sent, with_node}
use Rattle.machine_model.proofs.coherence.LineHeads.{IsGranting, granting_reader}
use Rattle.machine_model.proofs.coherence.LineKept.{part_of}
use Rattle.machine_model.proofs.coherence.LineStands.{Side, IsReader, installed, quiet_side, Stands, Moves, Part, ProbedAt, probe_moves, ReachedAt, reach_moves, miss_moves, evict_moves}
use Rattle.machine_model.proofs.coherence.LineViews.{of_line, front_here, missed_says, missed_here, missed_elsewhere, evicted_says, evicted_here, evicted_elsewhere, probed_says, probed_here, probed_elsewhere, granted_other, granted_here, granted_elsewhere, rested_here, rested_elsewhere}
use Rattle.machine_model.proofs.coherence.WorldFits.{Framed, IsFit, fits, framed_again, framed_node, framed_sent, framed_taken, kit_at, kit_changed, kit_of, less_reserved, same_reserved}
use Rattle.machine_model.proofs.coherence.WorldKept.{IsWell, side, is_line, front_line, acts}
use Rattle.tilelink_channels.specs.Queues.{popped, pushed}
use Rattle.tl_types.specs.declared.line.LineData.{LineData}
use Rattle.tl_types.specs.declared.message.Body.{Body}
use Rattle.tl_types.specs.declared.message.Body.TheVariants.{AcquireBlock, ProbeBlock, ReleaseAck, GrantAck}
use Rattle.tl_types.specs.declared.message.Channel.TheVariants.{B, D}
use Rattle.tl_types.specs.declared.message.Msg.{Msg}
use Rattle.tl_types.specs.declared.permission.Cap.{Cap}
use Rattle.tl_types.specs.declared.permission.Change.{Change}
use Rattle.tl_types.specs.declared.permission.Grow.{Grow}
use Rattle.machine_model.proofs.CacheCalls.{evicted_shape, probed_shape, wanted_keeps}

module _ (s : State) (last : ℕ → LineData) (i : IsFit s last) (h : ℕ) (in_h : h < length s.views.nodes) where
  abbrev n : Node
  n = node_at s h

  abbrev known : ℕ → Known
  known l = known_at (line_at s.views.notes (place_of (line_size s) l)) h

  abbrev part : ℕ → Part
  part l = part_of (line_at s.views.notes (place_of (line_size s) l)).transaction h

  abbrev IsLine : ℕ → Type 0
  IsLine l = is_line s.trace.image (line_size s) (length s.views.nodes) l ≡ true

  abbrev stood : (l : ℕ) → IsLine l → Stands (last l) (part l) (side (kit_of n) (known l) l)
  stood l on = (i.well.kept l on).stands h

  -- the line of a message in front of a queue
  abbrev on_front : (l : ℕ) (body : Body) (rest : List Body) (queue : Side → List Body) → queue quiet_side ≡ [] → queue (side (kit_of n) unknown l) ≡ body ∷ rest → IsLine l
  on_front l body rest queue none front = front_line s.trace.image (line_size s) (length s.views.nodes) (kit_at s) s.views.notes s.views.memory last h l body rest queue i.well none front

  -- a node of which all but one line is as before
  abbrev well_by : (t : State) (m : Node) (l : ℕ) → IsLine l → Framed s t h m → ((q : ℕ) → q ≢ l → (z : Known) → side (kit_of m) z q ≡ side (kit_of n) z q) → Moves (last l) (part l) (side (kit_of n) (known l) l) (side (kit_of m) (known l) l) →
      IsWell s.trace.image (line_size s) (length s.views.nodes) (kit_at t) s.views.notes s.views.memory last
  well_by t m l on f elsewhere moves = acts s.trace.image (line_size s) (length s.views.nodes) (kit_at s) (kit_at t) s.views.notes s.views.memory last l on i.well h (kit_of m) (kit_changed s t h m f) elsewhere moves

  -- a miss
  pub missed_fits : (l : ℕ) (grow : Grow) → IsLine l → (wanted n.cache l grow).0 ≡ Missed grow → IsReader (copy_at n.cache l) → IsFit (missed h l grow s) last
  missed_fits l grow on is reader = fits s (missed h l grow s) h m last last i f
      (well_by (missed h l grow s) m l on f (λ q ne z. missed_elsewhere n.cache n.queues z l q grow ne)
      (rw (missed_here n.cache n.queues (known l) l grow is) (let says = missed_says n.cache l grow is in miss_moves grow (stood l on) says.0 says.1 reader)))
      (ap (λ x. x.size) (wanted_keeps n.cache l grow).0)
      (λ word e. rw (wanted_keeps n.cache l grow).1 (i.reserved h word e))
    where
      m : Node
      m = record n { cache = (wanted n.cache l grow).1; queues = pushed n.queues (record { line = l; body = AcquireBlock grow }) }

      f : Framed s (missed h l grow s) h m
      f = framed_sent s (with_node h (record n { cache = (wanted n.cache l grow).1 }) s) h (record n { cache = (wanted n.cache l grow).1 }) (record { line = l; body = AcquireBlock grow }) in_h (framed_node s h _ in_h)

  -- an eviction
  pub given_up_fits : (l : ℕ) (change : Change) (bytes : Option LineData) → IsLine l → (evicted n.cache l).0 ≡ Evicted change bytes → IsFit (given_up h l s) last
  given_up_fits l change bytes on is = subst (λ t. IsFit t last) (ap (λ (a : Evict). sent_if_evicted h l a (with_node h (with_less (evicted n.cache l).1 l n) s)) (sym is)) (fits s t h m last last i f
      (well_by t m l on f (λ q ne z. evicted_elsewhere n.cache n.queues z l q change bytes ne)
      (rw (evicted_here n.cache n.queues (known l) l change bytes is) (let says = evicted_says n.cache l change bytes is in evict_moves (stood l on) says.held says.unasked)))
      (ap (λ x. x.size) (evicted_shape n.cache l))
      (less_reserved (line_size s) n (evicted n.cache l).1 l (evicted_other n.cache l) (i.reserved h) (ap (λ x. x.size) (evicted_shape n.cache l) ∙ i.sized h)))
    where
      t : State
      t = sent h (record { line = l; body = release_body change bytes }) (with_node h (with_less (evicted n.cache l).1 l n) s)

      m : Node
      m = record (with_less (evicted n.cache l).1 l n) { queues = pushed n.queues (record { line = l; body = release_body change bytes }) }

      f : Framed s t h m
      f = framed_sent s (with_node h (with_less (evicted n.cache l).1 l n) s) h (with_less (evicted n.cache l).1 l n) (record { line = l; body = release_body change bytes }) in_h (framed_node s h _ in_h)

  -- a Probe that is answered
  pub probed_fits : (l : ℕ) (cap : Cap) (rest : List Msg) (change : Change) (bytes : Option LineData) → n.queues.b ≡ (record { line = l; body = ProbeBlock cap }) ∷ rest → (probed n.cache l cap).0 ≡ Answered change bytes →
      IsFit (on_probe h l cap (taken h (record { line = l; body = ProbeBlock cap }) s)) last
  probed_fits l cap rest change bytes front is = subst (λ t. IsFit t last) (sym same) (fits s t h m last last i f
      (well_by t m l on f (λ q ne z. probed_elsewhere n.cache n.queues z l q cap rest change bytes front ne)
      (rw (probed_here n.cache n.queues (known l) l cap rest change bytes front is) (subst (ProbedAt (last l) (part l) (side (kit_of n) (known l) l)) (front_here l n.queues.b (ProbeBlock cap) rest front) (probe_moves (stood l on)) (probed_says n.cache l cap change bytes is).rested)))
      (ap (λ x. x.size) (probed_shape n.cache l cap))
      (less_reserved (line_size s) n (probed n.cache l cap).1 l (probed_other n.cache l cap) (i.reserved h) (ap (λ x. x.size) (probed_shape n.cache l cap) ∙ i.sized h)))
    where
      on : IsLine l
      on = on_front l (ProbeBlock cap) (of_line l rest) (λ x. x.b) refl (front_here l n.queues.b (ProbeBlock cap) rest front)

      s1 : State
      s1 = taken h (record { line = l; body = ProbeBlock cap }) s

      n1 : Node
      n1 = record n { queues = popped n.queues B }

      f1 : Framed s s1 h n1
      f1 = framed_taken s h (record { line = l; body = ProbeBlock cap }) in_h

      n2 : Node
      n2 = with_less (probed n.cache l cap).1 l n1

      answer : Msg
      answer = record { line = l; body = probe_ack_body change bytes }

      t : State
      t = sent h answer (with_node h n2 s1)

      m : Node
      m = record n2 { queues = pushed n1.queues answer }

      f : Framed s t h m
      f = framed_sent s (with_node h n2 s1) h n2 answer in_h (framed_again s s1 h n1 n2 in_h f1)

      same : on_probe h l cap s1 ≡ t
      same = ap (λ (x : Node). sent_if_answered h l (probed x.cache l cap).0 (with_node h (with_less (probed x.cache l cap).1 l x) s1)) f1.here ∙ ap (λ a. sent_if_answered h l a (with_node h n2 s1)) is

  -- a Grant
  pub granted_fits : (l : ℕ) (cap : Cap) (bytes : Option LineData) (body : Body) (rest : List Msg) → n.queues.d ≡ (record { line = l; body = body }) ∷ rest →
      ((x : Side) (r : List Body) → ReachedAt (last l) (part l) x (body ∷ r) → Moves (last l) (part l) x (installed x cap bytes r)) → ((x : Side) (r : List Body) → IsGranting x (body ∷ r) → IsReader x.copy) →
      (s1 : State) → Framed s s1 h (record n { queues = popped n.queues D }) → s1.views.notes ≡ s.views.notes → s1.views.memory ≡ s.views.memory →
      IsFit (on_grant h l cap bytes s1) last
  granted_fits l cap bytes body rest front moves reads s1 f1 same_notes same_memory = subst (λ t. IsFit t last) (sym same) (fits s t h m last last i f
      (subst (λ ns. IsWell s.trace.image (line_size s) (length s.views.nodes) (kit_at t) ns s1.views.memory last) (sym same_notes)
      (subst (λ ms. IsWell s.trace.image (line_size s) (length s.views.nodes) (kit_at t) s.views.notes ms last) (sym same_memory)
      (well_by t m l on f (λ q ne z. granted_elsewhere n.cache n.queues z l q cap bytes (record { line = l; body = body }) rest front refl ne)
      (rw (granted_here n.cache n.queues (known l) l cap bytes (record { line = l; body = body }) rest front) (moves _ _ (subst (ReachedAt (last l) (part l) (side (kit_of n) (known l) l)) (front_here l n.queues.d body rest front) (reach_moves (stood l on))))))))
      refl
      (same_reserved (line_size s) n (granted n.cache l cap bytes) l (granted_other n.cache l cap bytes) (i.reserved h)
      (λ e. let reader : IsReader (copy_at n.cache l) = reads (side (kit_of n) (known l) l) (of_line l rest) (subst (IsGranting (side (kit_of n) (known l) l)) (front_here l n.queues.d body rest front) (granting_reader (stood l on))) in cc (reader, e))))
    where
      on : IsLine l
      on = on_front l body (of_line l rest) (λ x. x.d) refl (front_here l n.queues.d body rest front)

      n1 : Node
      n1 = record n { queues = popped n.queues D }

      n2 : Node
      n2 = record n1 { cache = granted n.cache l cap bytes }

      answer : Msg
      answer = record { line = l; body = GrantAck }

      t : State
      t = sent h answer (with_node h n2 s1)

      m : Node
      m = record n2 { queues = pushed n1.queues answer }

      f : Framed s t h m
      f = framed_sent s (with_node h n2 s1) h n2 answer in_h (framed_again s s1 h n1 n2 in_h f1)

      same : on_grant h l cap bytes s1 ≡ t
      same = ap (λ (x : Node). sent h answer (with_node h (record x { cache = granted x.cache l cap bytes }) s1)) f1.here

  -- a ReleaseAck
  pub rested_fits : (l : ℕ) (rest : List Msg) → n.queues.d ≡ (record { line = l; body = ReleaseAck }) ∷ rest → IsFit (on_release_ack h l (taken h (record { line = l; body = ReleaseAck }) s)) last
  rested_fits l rest front = subst (λ t. IsFit t last) (sym same) (fits s t h m last last i f
      (well_by t m l on f (λ q ne z. rested_elsewhere n.cache n.queues z l q (record { line = l; body = ReleaseAck }) rest front refl ne)
      (rw (rested_here n.cache n.queues (known l) l (record { line = l; body = ReleaseAck }) rest front) (subst (ReachedAt (last l) (part l) (side (kit_of n) (known l) l)) (front_here l n.queues.d ReleaseAck rest front) (reach_moves (stood l on)))))
      refl
      (λ word e. i.reserved h word e))
    where
      on : IsLine l
      on = on_front l ReleaseAck (of_line l rest) (λ x. x.d) refl (front_here l n.queues.d ReleaseAck rest front)

      s1 : State
      s1 = taken h (record { line = l; body = ReleaseAck }) s

      n1 : Node
      n1 = record n { queues = popped n.queues D }

      f1 : Framed s s1 h n1
      f1 = framed_taken s h (record { line = l; body = ReleaseAck }) in_h

      m : Node
      m = record n1 { cache = answered n.cache l }

      t : State
      t = with_node h m s1

      f : Framed s t h m
      f = framed_again s s1 h n1 m in_h f1

      same : on_release_ack h l s1 ≡ t
      same = ap (λ (x : Node). with_node h (record x { cache = answered x.cache l }) s1) f1.here
