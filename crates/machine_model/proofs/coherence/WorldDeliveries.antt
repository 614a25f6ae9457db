-- Each message that the manager takes keeps what holds of a machine's state.
use Rattle.std.proofs.Common.{ℕ, zero, suc, ◌+◌, Bool, true, false, List, [], ◌∷◌, ◌≡◌, ◌<◌, ◌≤◌, Option, Some, None, refl, ap, sym, ◌∙◌, subst, length}
use Rattle.std.specs.Prelude.{◌≢◌, ◌==◌, ◌&&◌, not, if◌then◌else◌, filter, slice_set}
use Rattle.std.specs.List.{range_with_len}
use Rattle.std.proofs.lemmas.List.{get_or-set_same, length-set, set-get_or, set-set, get_or_past}
use Rattle.std.proofs.lemmas.Bool.{cases_lt}
use Rattle.std.proofs.lemmas.Bool.Decides.{eqb_tells}
use mathlib.Core.Logic.{◌⊎◌, inl, inr}
use native.Mathlib.Omega.{arith}
use Rattle.backing_memory.specs.Memory as memory
use Rattle.directory.specs.Directory as directory
use Rattle.directory.specs.Directory.{Notes, line_at, quiet, with_line}
use Rattle.directory.proofs.Sets.{has-harts_below}
use Rattle.directory.specs.Harts.{harts_below, has}
use Rattle.directory.specs.Lines.{Line, acknowledged, acquired_by, acquired_in, answered_in, grant_for, granting, is_any_awaited, is_probed, known_at, probe_cap, probed, probing, unknown}
use Rattle.directory.specs.declared.answer.Acquired.TheVariants.{Handled}
use Rattle.directory.specs.declared.answer.Grant.{Grant as Granting}
use Rattle.directory.specs.declared.answer.Known.{Known}
use Rattle.directory.specs.declared.answer.Sent.{Sent}
use Rattle.directory.specs.declared.answer.Transaction.{Transaction}
use Rattle.directory.specs.declared.answer.Transaction.TheVariants.{Idle, Probing, Granted}
use Rattle.machine_model.specs.Deliveries.{grant_body, line_in_memory, on_acquire, on_grant_ack, on_probe_ack, on_release, sent_grant, sent_if_granted, sent_if_handled, sent_probes, taken, with_memory, with_notes}
use Rattle.machine_model.specs.Views.{Node, State, line_size, node_at, place_of, sent}
use Rattle.machine_types.specs.declared.config.Config.{Config}
use Rattle.machine_model.proofs.coherence.LineKept.{part_of, stored}
use Rattle.machine_model.proofs.coherence.LinePlaces.{place_inside}
use Rattle.machine_model.proofs.coherence.LineStands as stands
use Rattle.machine_model.proofs.coherence.LineStands.{Side, Stands, Takes, TakesAt, take_stands}
use Rattle.machine_model.proofs.coherence.LineViews.{of_line, of_line_same, front_here, behind_front, popped_elsewhere, answered_elsewhere}
use Rattle.machine_model.proofs.coherence.WorldFits.{Framed, IsFit, HoldsReserved, framed_sent, framed_taken, kit_at, kit_changed, kit_of}
use Rattle.machine_model.proofs.coherence.WorldKept.{IsWell, side, is_line, front_line}
use Rattle.machine_model.proofs.coherence.WorldManager.{ends, grants, grants_at_once, nothing_conflicts, own_unprobed, probes, pushed_grant, takes}
use Rattle.tilelink_channels.specs.Queues.{popped, pushed}
use Rattle.tl_types.specs.declared.line.LineData.{LineData}
use Rattle.tl_types.specs.declared.message.Body.{Body}
use Rattle.tl_types.specs.declared.message.Body.TheVariants.{AcquireBlock, ProbeBlock, ProbeAck, ProbeAckData, Release, ReleaseData, ReleaseAck, GrantAck}
use Rattle.tl_types.specs.declared.message.Channel.TheVariants.{A, C, E}
use Rattle.tl_types.specs.declared.message.Msg.{Msg}
use Rattle.tl_types.specs.declared.permission.Cap.{Cap}
use Rattle.tl_types.specs.declared.permission.Change.{Change}
use Rattle.tl_types.specs.declared.permission.Grow.{Grow}
use Rattle.tl_types.specs.declared.permission.Perm.TheVariants.{Nothing}

-- caches and reservations stay, and the harts are as many
pub record KeepsCaches (s t : State) : Type 0 where
  pub nodes : (j : ℕ) → ((node_at t j).cache ≡ (node_at s j).cache) × ((node_at t j).reserved ≡ (node_at s j).reserved)
  pub count : length t.views.nodes ≡ length s.views.nodes
  pub image : t.trace.image ≡ s.trace.image
  pub config : t.views.config ≡ s.views.config

pub fits_queues : (s t : State) (last : ℕ → LineData) → IsFit s last → KeepsCaches s t → IsWell s.trace.image (line_size s) (length s.views.nodes) (kit_at t) t.views.notes t.views.memory last → IsFit t last
fits_queues s t last i k w = record {
  pages = rw k.image i.pages;
  well = subst (λ im. IsWell im (line_size t) (length t.views.nodes) (kit_at t) t.views.notes t.views.memory last) (sym k.image)
      (subst (λ (c : Config). IsWell s.trace.image c.line (length t.views.nodes) (kit_at t) t.views.notes t.views.memory last) (sym k.config)
      (subst (λ count. IsWell s.trace.image (line_size s) count (kit_at t) t.views.notes t.views.memory last) (sym k.count) w));
  sized = λ j. ap (λ c. c.shape.size) (k.nodes j).0 ∙ i.sized j ∙ ap (λ (c : Config). c.line) (sym k.config);
  reserved = λ j. subst (λ (c : Config). HoldsReserved c.line (node_at t j)) (sym k.config) (λ word e. rw (k.nodes j).0 (i.reserved j word (sym (k.nodes j).1 ∙ e)));
}

pub keeps_framed : (s t : State) (h : ℕ) (n : Node) → Framed s t h n → n.cache ≡ (node_at s h).cache → n.reserved ≡ (node_at s h).reserved → KeepsCaches s t
keeps_framed s t h n f c r = record { nodes = nodes; count = f.count; image = f.image; config = f.config }
  where
    nodes : (j : ℕ) → ((node_at t j).cache ≡ (node_at s j).cache) × ((node_at t j).reserved ≡ (node_at s j).reserved)
    nodes j = go (eqb_tells j h)
      where
        go : (((j == h) ≡ true) × (j ≡ h)) ⊎ (((j == h) ≡ false) × (j ≡ h → ⊥)) → ((node_at t j).cache ≡ (node_at s j).cache) × ((node_at t j).reserved ≡ (node_at s j).reserved)
        go (inl e) = subst (λ k. ((node_at t k).cache ≡ (node_at s k).cache) × ((node_at t k).reserved ≡ (node_at s k).reserved)) (sym e.1) (ap (λ (x : Node). x.cache) f.here ∙ c, ap (λ (x : Node). x.reserved) f.here ∙ r)
        go (inr e) = (ap (λ (x : Node). x.cache) (f.there j e.1), ap (λ (x : Node). x.reserved) (f.there j e.1))

-- ---- probes to several harts

framed_self : (s : State) (h : ℕ) → Framed s s h (node_at s h)
framed_self s h = record { here = refl; there = λ j ne. refl; count = refl; image = refl; config = refl }

abbrev sent_to : Msg → Node → Node
sent_to m n = record n { queues = pushed n.queues m }

module _ (l : ℕ) (cap : Cap) where
  abbrev query : Msg
  query = record { line = l; body = ProbeBlock cap }

  -- what the probes leave as it was
  record Unprobed (s t : State) : Type 0 where
    count : length t.views.nodes ≡ length s.views.nodes
    image : t.trace.image ≡ s.trace.image
    config : t.views.config ≡ s.views.config
    notes : t.views.notes ≡ s.views.notes
    memory : t.views.memory ≡ s.views.memory

  unprobed : (hs : List ℕ) (s : State) → Unprobed s (sent_probes hs l cap s)
  unprobed [] s = record { count = refl; image = refl; config = refl; notes = refl; memory = refl }
  unprobed (h ∷ hs) s =
      let u : Unprobed (sent h query s) (sent_probes hs l cap (sent h query s)) = unprobed hs (sent h query s) in
      record { count = u.count ∙ length-set s.views.nodes h (sent_to query (node_at s h)); image = u.image; config = u.config; notes = u.notes; memory = u.memory }

  one_sent : (s : State) (h : ℕ) → h < length s.views.nodes → Framed s (sent h query s) h (sent_to query (node_at s h))
  one_sent s h in_h = framed_sent s s h (node_at s h) query in_h (framed_self s h)

  module _ (p : ℕ → Bool) where
    abbrev from_on : ℕ → ℕ → Bool → State → State
    from_on a n t s = sent_probes (if t then a ∷ filter p (range_with_len (a + 1) n) else filter p (range_with_len (a + 1) n)) l cap s

    outside : (a n : ℕ) (s : State) (j : ℕ) → a + n ≤ length s.views.nodes → (j < a) ⊎ (a + n ≤ j) → node_at (sent_probes (filter p (range_with_len a n)) l cap s) j ≡ node_at s j
    outside a zero s j fit out = refl
    outside a (suc n) s j fit out = go (λ t e. outside (a + 1) n t j (omega (arith, e, fit)) (later out)) (p a)
      where
        away : (j < a) ⊎ (a + suc n ≤ j) → (j ≡ a → ⊥)
        away (inl lt) e = omega arith
        away (inr le) e = omega arith

        later : (j < a) ⊎ (a + suc n ≤ j) → (j < a + 1) ⊎ (a + 1 + n ≤ j)
        later (inl lt) = inl (omega arith)
        later (inr le) = inr (omega arith)

        go : ((t : State) → length t.views.nodes ≡ length s.views.nodes → node_at (sent_probes (filter p (range_with_len (a + 1) n)) l cap t) j ≡ node_at t j) → (t : Bool) → node_at (from_on a n t s) j ≡ node_at s j
        go rest true = let one : Framed s (sent a query s) a (sent_to query (node_at s a)) = one_sent s a (omega arith) in rest (sent a query s) one.count ∙ one.there j (away out)
        go rest false = rest s refl

    inside : (a n : ℕ) (s : State) (j : ℕ) → a + n ≤ length s.views.nodes → a ≤ j → j < a + n → node_at (sent_probes (filter p (range_with_len a n)) l cap s) j ≡ (if p j then sent_to query (node_at s j) else node_at s j)
    inside a zero s j fit low high = absurd (omega arith)
    inside a (suc n) s j fit low high = go (λ t e low. inside (a + 1) n t j (omega (arith, e, fit)) low (omega arith)) (eqb_tells j a)
      where
        one : Framed s (sent a query s) a (sent_to query (node_at s a))
        one = one_sent s a (omega arith)

        own : (t : Bool) → node_at (from_on a n t s) a ≡ (if t then sent_to query (node_at s a) else node_at s a)
        own true = outside (a + 1) n (sent a query s) a (omega (arith, one.count)) (inl (omega arith)) ∙ one.here
        own false = outside (a + 1) n s a (omega arith) (inl (omega arith))

        more : ((t : State) → length t.views.nodes ≡ length s.views.nodes → a + 1 ≤ j → node_at (sent_probes (filter p (range_with_len (a + 1) n)) l cap t) j ≡ (if p j then sent_to query (node_at t j) else node_at t j)) →
            (j ≡ a → ⊥) → (t : Bool) → node_at (from_on a n t s) j ≡ (if p j then sent_to query (node_at s j) else node_at s j)
        more rest ne true = rest (sent a query s) one.count (omega (arith, ne)) ∙ ap (λ (x : Node). if p j then sent_to query x else x) (one.there j ne)
        more rest ne false = rest s refl (omega (arith, ne))

        go : ((t : State) → length t.views.nodes ≡ length s.views.nodes → a + 1 ≤ j → node_at (sent_probes (filter p (range_with_len (a + 1) n)) l cap t) j ≡ (if p j then sent_to query (node_at t j) else node_at t j)) →
            (((j == a) ≡ true) × (j ≡ a)) ⊎ (((j == a) ≡ false) × (j ≡ a → ⊥)) → node_at (sent_probes (filter p (range_with_len a (suc n))) l cap s) j ≡ (if p j then sent_to query (node_at s j) else node_at s j)
        go rest (inl e) = subst (λ i. node_at (sent_probes (filter p (range_with_len a (suc n))) l cap s) i ≡ (if p i then sent_to query (node_at s i) else node_at s i)) (sym e.1) (own (p a))
        go rest (inr e) = more rest e.1 (p a)

    -- each hart that the test names has the Probe behind its queue
    to_each : (n : ℕ) (s : State) (j : ℕ) → n ≡ length s.views.nodes → (n ≤ j → p j ≡ false) → node_at (sent_probes (harts_below n p) l cap s) j ≡ (if p j then sent_to query (node_at s j) else node_at s j)
    unfolding harts_below
    to_each n s j count none = go (cases_lt j n)
      where
        go : (j < n) ⊎ (n ≤ j) → node_at (sent_probes (filter p (range_with_len 0 n)) l cap s) j ≡ (if p j then sent_to query (node_at s j) else node_at s j)
        go (inl lt) = inside 0 n s j (omega (arith, count)) (omega arith) (omega arith)
        go (inr past) = outside 0 n s j (omega (arith, count)) (inr (omega arith)) ∙ rw (none past) refl

-- ---- Grants

-- once nobody is awaited, the Grant is sent
grant_fits : (s : State) (last : ℕ → LineData) (l r : ℕ) (g : Grow) → IsFit s last → is_line s.trace.image (line_size s) (length s.views.nodes) l ≡ true → (y : Line) → line_at s.views.notes (place_of (line_size s) l) ≡ y → y.transaction ≡ Probing r g → is_any_awaited y ≡ false →
    IsFit (sent_grant l (grant_for y r g) (with_notes (with_line s.views.notes (place_of (line_size s) l) (granting y r g)) s)) last
grant_fits s last l r g i on y e asks none = subst (λ (z : Line). IsFit (sent_grant l (grant_for z r g) (with_notes (with_line s.views.notes (place_of (line_size s) l) (granting z r g)) s)) last) e
    (fits_queues s t last i (keeps_framed s t r _ f refl refl) (grants s.trace.image (line_size s) (length s.views.nodes) (kit_at s) (kit_at t) s.views.notes s.views.memory last l on i.well r g (ap (λ (z : Line). z.transaction) e ∙ asks) (ap is_any_awaited e ∙ none) (kit_changed s t r _ f)))
  where
    own : Line
    own = line_at s.views.notes (place_of (line_size s) l)

    s1 : State
    s1 = with_notes (with_line s.views.notes (place_of (line_size s) l) (granting own r g)) s

    t : State
    t = sent_grant l (grant_for own r g) s1

    in_r : r < length s.views.nodes
    in_r = i.well.requester l r g on (ap (λ (z : Line). z.transaction) e ∙ asks)

    m : Msg
    m = record { line = l; body = grant_body (grant_for own r g) (line_in_memory s l) }

    f : Framed s t r (sent_to m (node_at s r))
    f = framed_sent s s1 r (node_at s r) m in_r (record { here = refl; there = λ j ne. refl; count = refl; image = refl; config = refl })

-- ---- what the manager takes

module _ (s : State) (last : ℕ → LineData) (i : IsFit s last) (h : ℕ) (in_h : h < length s.views.nodes) where
  abbrev n : Node
  n = node_at s h

  abbrev own : ℕ → Line
  own l = line_at s.views.notes (place_of (line_size s) l)

  abbrev IsLine : ℕ → Type 0
  IsLine l = is_line s.trace.image (line_size s) (length s.views.nodes) l ≡ true

  abbrev on_front : (l : ℕ) (body : Body) (rest : List Body) (queue : Side → List Body) → queue stands.quiet_side ≡ [] → queue (side (kit_of n) unknown l) ≡ body ∷ rest → IsLine l
  on_front l body rest queue none front = front_line s.trace.image (line_size s) (length s.views.nodes) (kit_at s) s.views.notes s.views.memory last h l body rest queue i.well none front

  -- a GrantAck
  pub ended_fits : (l : ℕ) (rest : List Msg) → n.queues.e ≡ (record { line = l; body = GrantAck }) ∷ rest → IsFit (on_grant_ack l (taken h (record { line = l; body = GrantAck }) s)) last
  ended_fits l rest front = fits_queues s t last i (keeps_framed s t h n1 f refl refl)
      (ends s.trace.image (line_size s) (length s.views.nodes) (kit_at s) (kit_at t) s.views.notes s.views.memory last l on i.well h (kit_of n1) (of_line l rest) (kit_changed s t h n1 f)
      (λ q ne z. popped_elsewhere _ n.queues z q E (record { line = l; body = GrantAck }) rest front (λ e. ne (sym e)))
      (λ z. rw (behind_front n.queues.e _ rest front) refl)
      (front_here l n.queues.e GrantAck rest front))
    where
      on : IsLine l
      on = on_front l GrantAck (of_line l rest) (λ x. x.e) refl (front_here l n.queues.e GrantAck rest front)

      n1 : Node
      n1 = record n { queues = popped n.queues E }

      t : State
      t = on_grant_ack l (taken h (record { line = l; body = GrantAck }) s)

      f1 : Framed s (taken h (record { line = l; body = GrantAck }) s) h n1
      f1 = framed_taken s h (record { line = l; body = GrantAck }) in_h

      f : Framed s t h n1
      f = record { here = f1.here; there = f1.there; count = f1.count; image = refl; config = refl }

  -- a Release, of which `s1` is the state after it left its queue and its data, if any, went to memory
  released_fits : (l : ℕ) (body : Body) (carried : Option LineData) (rest : List Msg) → n.queues.c ≡ (record { line = l; body = body }) ∷ rest →
      ((x : Side) (r : List Body) → TakesAt (last l) (part_of (own l).transaction h) x (body ∷ r) → Takes (last l) (part_of (own l).transaction h) x (stands.released x r) carried) →
      (s1 : State) → Framed s s1 h (record n { queues = popped n.queues C }) → s1.views.notes ≡ directory.released s.views.notes (place_of (line_size s) l) h →
      s1.views.memory ≡ slice_set s.views.memory (place_of (line_size s) l) (stored (line_in_memory s l) carried) →
      IsFit (sent h (record { line = l; body = ReleaseAck }) s1) last
  released_fits l body carried rest front takes_it s1 f1 same_notes same_memory = fits_queues s t last i (keeps_framed s t h n2 f refl refl)
      (subst (λ ns. IsWell s.trace.image (line_size s) (length s.views.nodes) (kit_at t) ns s1.views.memory last) (sym same_notes)
      (subst (λ ms. IsWell s.trace.image (line_size s) (length s.views.nodes) (kit_at t) (directory.released s.views.notes (place_of (line_size s) l) h) ms last) (sym same_memory)
      (takes s.trace.image (line_size s) (length s.views.nodes) (kit_at s) (kit_at t) s.views.notes s.views.memory last l on i.well h (kit_of n2) z carried in_h (kit_changed s t h n2 f)
      (λ q ne z. answered_elsewhere _ n.queues z q C (record { line = l; body = body }) rest answer front (λ e. ne (sym e)) refl)
      (subst (λ x. Takes (last l) (part_of (own l).transaction h) (side (kit_of n) (known_at (own l) h) l) x carried) (sym here) taken_here))))
    where
      on : IsLine l
      on = on_front l body (of_line l rest) (λ x. x.c) refl (front_here l n.queues.c body rest front)

      answer : Msg
      answer = record { line = l; body = ReleaseAck }

      n1 : Node
      n1 = record n { queues = popped n.queues C }

      n2 : Node
      n2 = record n1 { queues = pushed n1.queues answer }

      t : State
      t = sent h answer s1

      f : Framed s t h n2
      f = framed_sent s s1 h n1 answer in_h f1

      z : Known
      z = record (known_at (own l) h) { perm = Nothing }

      here : side (kit_of n2) z l ≡ stands.released (side (kit_of n) (known_at (own l) h) l) (of_line l rest)
      here = rw (behind_front n.queues.c _ rest front, of_line_same l n.queues.d ReleaseAck) refl

      taken_here : Takes (last l) (part_of (own l).transaction h) (side (kit_of n) (known_at (own l) h) l) (stands.released (side (kit_of n) (known_at (own l) h) l) (of_line l rest)) carried
      taken_here = takes_it _ _ (subst (TakesAt (last l) (part_of (own l).transaction h) (side (kit_of n) (known_at (own l) h) l)) (front_here l n.queues.c body rest front) (take_stands ((i.well.kept l on).stands h)))

  pub release_fits : (l : ℕ) (change : Change) (rest : List Msg) → n.queues.c ≡ (record { line = l; body = Release change }) ∷ rest → IsFit (on_release h l None (taken h (record { line = l; body = Release change }) s)) last
  release_fits l change rest front =
      let m : Msg = record { line = l; body = Release change } in
      let f : Framed s (taken h m s) h (record n { queues = popped n.queues C }) = framed_taken s h m in_h in
      released_fits l (Release change) None rest front (λ x r t. t) (with_notes (directory.released s.views.notes (place_of (line_size s) l) h) (taken h m s))
      (record { here = f.here; there = f.there; count = f.count; image = refl; config = refl }) refl (sym (set-get_or s.views.memory (place_of (line_size s) l) memory.no_line))

  pub release_data_fits : (l : ℕ) (change : Change) (bytes : LineData) (rest : List Msg) → n.queues.c ≡ (record { line = l; body = ReleaseData change bytes }) ∷ rest → IsFit (on_release h l (Some bytes) (taken h (record { line = l; body = ReleaseData change bytes }) s)) last
  release_data_fits l change bytes rest front =
      let m : Msg = record { line = l; body = ReleaseData change bytes } in
      let f : Framed s (taken h m s) h (record n { queues = popped n.queues C }) = framed_taken s h m in_h in
      released_fits l (ReleaseData change bytes) (Some bytes) rest front (λ x r t. t) (with_notes (directory.released s.views.notes (place_of (line_size s) l) h) (with_memory l (Some bytes) (taken h m s)))
      (record { here = f.here; there = f.there; count = f.count; image = refl; config = refl }) refl refl

  -- a ProbeAck, noted; `s1` is the state after it left its queue and its data, if any, went to memory
  acknowledged_fits : (l : ℕ) (body : Body) (change : Change) (carried : Option LineData) (rest : List Msg) → n.queues.c ≡ (record { line = l; body = body }) ∷ rest →
      ((x : Side) (r : List Body) → TakesAt (last l) (part_of (own l).transaction h) x (body ∷ r) → Takes (last l) (part_of (own l).transaction h) x (stands.acknowledged x change r) carried) →
      (t : State) → Framed s t h (record n { queues = popped n.queues C }) → t.views.notes ≡ with_line s.views.notes (place_of (line_size s) l) (acknowledged (own l) h change) →
      t.views.memory ≡ slice_set s.views.memory (place_of (line_size s) l) (stored (line_in_memory s l) carried) →
      IsLine l × IsFit t last
  acknowledged_fits l body change carried rest front takes_it t f same_notes same_memory = (
    on,
    fits_queues s t last i (keeps_framed s t h n1 f refl refl)
        (subst (λ ns. IsWell s.trace.image (line_size s) (length s.views.nodes) (kit_at t) ns t.views.memory last) (sym same_notes)
        (subst (λ ms. IsWell s.trace.image (line_size s) (length s.views.nodes) (kit_at t) (with_line s.views.notes (place_of (line_size s) l) (acknowledged (own l) h change)) ms last) (sym same_memory)
        (takes s.trace.image (line_size s) (length s.views.nodes) (kit_at s) (kit_at t) s.views.notes s.views.memory last l on i.well h (kit_of n1) _ carried in_h (kit_changed s t h n1 f)
        (λ q ne z. popped_elsewhere _ n.queues z q C (record { line = l; body = body }) rest front (λ e. ne (sym e)))
        (rw (behind_front n.queues.c _ rest front) taken_here)))),
  )
    where
      on : IsLine l
      on = on_front l body (of_line l rest) (λ x. x.c) refl (front_here l n.queues.c body rest front)

      n1 : Node
      n1 = record n { queues = popped n.queues C }

      taken_here : Takes (last l) (part_of (own l).transaction h) (side (kit_of n) (known_at (own l) h) l) (stands.acknowledged (side (kit_of n) (known_at (own l) h) l) change (of_line l rest)) carried
      taken_here = takes_it _ _ (subst (TakesAt (last l) (part_of (own l).transaction h) (side (kit_of n) (known_at (own l) h) l)) (front_here l n.queues.c body rest front) (take_stands ((i.well.kept l on).stands h)))

  -- and then the Grant, if it was the last that was awaited
  then_granted : (l : ℕ) (y : Line) (u : State) → place_of (line_size s) l < length s.views.notes.lines → u.views.config ≡ s.views.config →
      is_line u.trace.image (line_size u) (length u.views.nodes) l ≡ true →
      IsFit (with_notes (with_line s.views.notes (place_of (line_size s) l) y) u) last →
      IsFit (sent_if_granted l (answered_in y.transaction y).0 (with_notes (with_line s.views.notes (place_of (line_size s) l) (answered_in y.transaction y).1) u)) last
  then_granted l y u inside config on fit = go y.transaction refl
    where
      p : ℕ
      p = place_of (line_size s) l

      w : State
      w = with_notes (with_line s.views.notes p y) u

      at_place : line_at w.views.notes (place_of (line_size w) l) ≡ y
      at_place = ap (λ c. line_at w.views.notes (place_of c.line l)) config ∙ get_or-set_same s.views.notes.lines p y (quiet s.views.notes.harts) inside

      twice : (later : Line) → with_line w.views.notes (place_of (line_size w) l) later ≡ with_line s.views.notes p later
      twice later = ap (λ c. with_line w.views.notes (place_of c.line l) later) config ∙ ap (λ ls. record s.views.notes { lines = ls }) (set-set s.views.notes.lines p y later)

      choice : Bool → ℕ → Grow → Option Granting × Line
      choice t r g = if t then (None, y) else (Some (grant_for y r g), granting y r g)

      asks : (r : ℕ) (g : Grow) → y.transaction ≡ Probing r g → (t : Bool) → is_any_awaited y ≡ t → IsFit (sent_if_granted l (choice t r g).0 (with_notes (with_line s.views.notes p (choice t r g).1) u)) last
      asks r g e true a = fit
      asks r g e false a = subst (λ ns. IsFit (sent_grant l (grant_for y r g) (with_notes ns u)) last) (twice (granting y r g)) (grant_fits w last l r g fit on y at_place e a)

      go : (t : Transaction) → y.transaction ≡ t → IsFit (sent_if_granted l (answered_in t y).0 (with_notes (with_line s.views.notes p (answered_in t y).1) u)) last
      go Idle e = fit
      go (Granted r) e = fit
      go (Probing r g) e = asks r g e (is_any_awaited y) refl

  -- a ProbeAck, with data or without
  answered_fits : (l : ℕ) (body : Body) (change : Change) (carried : Option LineData) (rest : List Msg) → n.queues.c ≡ (record { line = l; body = body }) ∷ rest →
      ((x : Side) (r : List Body) → TakesAt (last l) (part_of (own l).transaction h) x (body ∷ r) → Takes (last l) (part_of (own l).transaction h) x (stands.acknowledged x change r) carried) →
      (u : State) → u.views.config ≡ s.views.config → u.views.notes ≡ s.views.notes → Framed s u h (record n { queues = popped n.queues C }) →
      u.views.memory ≡ slice_set s.views.memory (place_of (line_size s) l) (stored (line_in_memory s l) carried) →
      IsFit (sent_if_granted l (answered_in (own l).transaction (acknowledged (own l) h change)).0 (with_notes (with_line s.views.notes (place_of (line_size s) l) (answered_in (own l).transaction (acknowledged (own l) h change)).1) u)) last
  answered_fits l body change carried rest front takes_it u config notes f same_memory =
      let noted : IsLine l × IsFit (with_notes (with_line s.views.notes (place_of (line_size s) l) (acknowledged (own l) h change)) u) last =
      acknowledged_fits l body change carried rest front takes_it (with_notes (with_line s.views.notes (place_of (line_size s) l) (acknowledged (own l) h change)) u)
      (record { here = f.here; there = f.there; count = f.count; image = f.image; config = f.config }) refl same_memory in
      then_granted l (acknowledged (own l) h change) u (rw i.well.notes_room (place_inside s.trace.image (line_size s) l noted.0)) config (there u f noted.0) noted.1
    where
      there : (u : State) → Framed s u h (record n { queues = popped n.queues C }) → IsLine l → is_line u.trace.image (line_size u) (length u.views.nodes) l ≡ true
      there u f on = rw (f.image, f.config) on

  pub probe_ack_fits : (l : ℕ) (change : Change) (rest : List Msg) → n.queues.c ≡ (record { line = l; body = ProbeAck change }) ∷ rest → IsFit (on_probe_ack h l change None (taken h (record { line = l; body = ProbeAck change }) s)) last
  probe_ack_fits l change rest front = answered_fits l (ProbeAck change) change None rest front (λ x r t. t) (taken h (record { line = l; body = ProbeAck change }) s) refl refl
      (framed_taken s h (record { line = l; body = ProbeAck change }) in_h) (sym (set-get_or s.views.memory (place_of (line_size s) l) memory.no_line))

  pub probe_ack_data_fits : (l : ℕ) (change : Change) (bytes : LineData) (rest : List Msg) → n.queues.c ≡ (record { line = l; body = ProbeAckData change bytes }) ∷ rest → IsFit (on_probe_ack h l change (Some bytes) (taken h (record { line = l; body = ProbeAckData change bytes }) s)) last
  probe_ack_data_fits l change bytes rest front =
      let m : Msg = record { line = l; body = ProbeAckData change bytes } in
      let f : Framed s (taken h m s) h (record n { queues = popped n.queues C }) = framed_taken s h m in_h in
      answered_fits l (ProbeAckData change bytes) change (Some bytes) rest front (λ x r t. t) (with_memory l (Some bytes) (taken h m s)) refl refl
      (record { here = f.here; there = f.there; count = f.count; image = refl; config = refl }) refl

  -- an Acquire
  module _ (l : ℕ) (g : Grow) (rest : List Msg) (front : n.queues.a ≡ (record { line = l; body = AcquireBlock g }) ∷ rest) where
    on : IsLine l
    on = on_front l (AcquireBlock g) (of_line l rest) (λ x. x.a) refl (front_here l n.queues.a (AcquireBlock g) rest front)

    abbrev s1 : State
    s1 = taken h (record { line = l; body = AcquireBlock g }) s

    abbrev n1 : Node
    n1 = record n { queues = popped n.queues A }

    f1 : Framed s s1 h n1
    f1 = framed_taken s h (record { line = l; body = AcquireBlock g }) in_h

    -- the Grant at once
    at_once : (own l).transaction ≡ Idle → probed (own l) h g ≡ [] → IsFit (sent_grant l (grant_for (own l) h g) (with_notes (with_line s.views.notes (place_of (line_size s) l) (granting (own l) h g)) s1)) last
    at_once idle none = fits_queues s t last i (keeps_framed s t h _ f refl refl)
        (grants_at_once s.trace.image (line_size s) (length s.views.nodes) (kit_at s) (kit_at t) s.views.notes s.views.memory last l on i.well h g (kit_of (sent_to m n1)) (of_line l rest) idle (front_here l n.queues.a (AcquireBlock g) rest front)
        (λ j lt. unprobed j (rw (i.well.known l on) lt)) in_h (kit_changed s t h _ f)
        (λ q ne z. answered_elsewhere _ n.queues z q A (record { line = l; body = AcquireBlock g }) rest m front (λ e. ne (sym e)) refl)
        (λ z. rw (pushed_grant n1.queues l (grant_for (own l) h g) (line_in_memory s l), behind_front n.queues.a _ rest front, of_line_same l n.queues.d (grant_body (grant_for (own l) h g) (line_in_memory s l))) refl))
      where
        m : Msg
        m = record { line = l; body = grant_body (grant_for (own l) h g) (line_in_memory s l) }

        t : State
        t = sent_grant l (grant_for (own l) h g) (with_notes (with_line s.views.notes (place_of (line_size s) l) (granting (own l) h g)) s1)

        f : Framed s t h (sent_to m n1)
        f = framed_sent s (with_notes (with_line s.views.notes (place_of (line_size s) l) (granting (own l) h g)) s1) h n1 m in_h (record { here = f1.here; there = f1.there; count = f1.count; image = refl; config = refl })

        unprobed : (j : ℕ) → j < length (own l).known → is_probed (own l) h g j ≡ false
        unprobed j lt = sym (has-harts_below (length (own l).known) (is_probed (own l) h g) j lt) ∙ ap (λ hs. has hs j) none

    -- the Probes
    asked : (own l).transaction ≡ Idle → IsFit (sent_probes (probed (own l) h g) l (probe_cap g) (with_notes (with_line s.views.notes (place_of (line_size s) l) (probing (own l) h g)) s1)) last
    asked idle = fits_queues s t last i caches
        (subst (λ ns. IsWell s.trace.image (line_size s) (length s.views.nodes) (kit_at t) ns t.views.memory last) (sym u.notes)
        (subst (λ ms. IsWell s.trace.image (line_size s) (length s.views.nodes) (kit_at t) (with_line s.views.notes (place_of (line_size s) l) (probing (own l) h g)) ms last) (sym u.memory)
        (probes s.trace.image (line_size s) (length s.views.nodes) (kit_at s) (kit_at t) s.views.notes s.views.memory last l on i.well h g (kit_of n1) (of_line l rest) idle (front_here l n.queues.a (AcquireBlock g) rest front)
        in_h (ap kit_of here)
        (λ q ne z. popped_elsewhere _ n.queues z q A (record { line = l; body = AcquireBlock g }) rest front (λ e. ne (sym e)))
        (λ z. rw (behind_front n.queues.a _ rest front) refl)
        others)))
      where
        s2 : State
        s2 = with_notes (with_line s.views.notes (place_of (line_size s) l) (probing (own l) h g)) s1

        t : State
        t = sent_probes (probed (own l) h g) l (probe_cap g) s2

        u : Unprobed l (probe_cap g) s2 t
        u = unprobed l (probe_cap g) (probed (own l) h g) s2

        m : Msg
        m = record { line = l; body = ProbeBlock (probe_cap g) }

        absent : (j : ℕ) → length (own l).known ≤ j → is_probed (own l) h g j ≡ false
        absent j past = let e : known_at (own l) j ≡ unknown = get_or_past (own l).known j unknown past in rw (e, nothing_conflicts g) (off (not (j == h)))
          where
            off : (t : Bool) → t && false ≡ false
            off true = refl
            off false = refl

        sent_at : (j : ℕ) → node_at t j ≡ (if is_probed (own l) h g j then sent_to m (node_at s1 j) else node_at s1 j)
        sent_at j = to_each l (probe_cap g) (is_probed (own l) h g) (length (own l).known) s2 j (i.well.known l on ∙ sym f1.count) (absent j)

        here : node_at t h ≡ n1
        here = sent_at h ∙ ap (λ b. if b then sent_to m (node_at s1 h) else node_at s1 h) (own_unprobed (own l) h g) ∙ f1.here

        kit_if : (b : Bool) (x y : Node) → kit_of (if b then x else y) ≡ (if b then kit_of x else kit_of y)
        kit_if true x y = refl
        kit_if false x y = refl

        others : (j : ℕ) → j ≢ h → kit_at t j ≡ (if is_probed (own l) h g j then record (kit_at s j) { queues = pushed (kit_at s j).queues m } else kit_at s j)
        others j ne = ap kit_of (sent_at j ∙ ap (λ (x : Node). if is_probed (own l) h g j then sent_to m x else x) (f1.there j ne)) ∙ kit_if (is_probed (own l) h g j) (sent_to m (node_at s j)) (node_at s j)

        cache_if : (b : Bool) (x : Node) → ((if b then sent_to m x else x).cache ≡ x.cache) × ((if b then sent_to m x else x).reserved ≡ x.reserved)
        cache_if true x = (refl, refl)
        cache_if false x = (refl, refl)

        first : KeepsCaches s s1
        first = keeps_framed s s1 h n1 f1 refl refl

        caches : KeepsCaches s t
        caches = record {
          nodes = λ j. (
            ap (λ (x : Node). x.cache) (sent_at j) ∙ (cache_if (is_probed (own l) h g j) (node_at s1 j)).0 ∙ (first.nodes j).0,
            ap (λ (x : Node). x.reserved) (sent_at j) ∙ (cache_if (is_probed (own l) h g j) (node_at s1 j)).1 ∙ (first.nodes j).1,
          );
          count = u.count ∙ f1.count;
          image = u.image;
          config = u.config;
        }

    pub acquired_fits : (sends : Sent) → (directory.acquired s.views.notes (place_of (line_size s) l) h g).0 ≡ Handled sends → IsFit (on_acquire h l g s1) last
    acquired_fits sends is = by_state (own l).transaction refl is
      where
        by_list : (own l).transaction ≡ Idle → (hs : List ℕ) → probed (own l) h g ≡ hs → IsFit (sent_if_handled l (acquired_by (own l) h g hs).0 (with_notes (with_line s.views.notes (place_of (line_size s) l) (acquired_by (own l) h g hs).1) s1)) last
        by_list idle [] e = at_once idle e
        by_list idle (a ∷ hs) e = subst (λ (ks : List ℕ). IsFit (sent_probes ks l (probe_cap g) (with_notes (with_line s.views.notes (place_of (line_size s) l) (probing (own l) h g)) s1)) last) e (asked idle)

        by_state : (t : Transaction) → (own l).transaction ≡ t → (acquired_in t (own l) h g).0 ≡ Handled sends → IsFit (sent_if_handled l (acquired_in t (own l) h g).0 (with_notes (with_line s.views.notes (place_of (line_size s) l) (acquired_in t (own l) h g).1) s1)) last
        by_state Idle e is = by_list e (probed (own l) h g) refl
        by_state (Probing r q) e is = cc is
        by_state (Granted r) e is = cc is
