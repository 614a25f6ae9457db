-- What each act makes of the losses of a hart that asks to write what it reads.
use Rattle.std.proofs.Common.{ℕ, ◌+◌, ◌<◌, true, false, List, [], ◌∷◌, ◌++◌, ◌≡◌, Option, Some, None, refl, ap, sym, ◌∙◌, subst, length, slice_index_or}
use Rattle.std.specs.Prelude.{◌||◌, nat_lt}
use Rattle.std.specs.FinSet as set
use Rattle.std.proofs.lemmas.Bool.{lt-ltb}
use mathlib.Core.Logic.{◌⊎◌, inl, inr}
use native.Mathlib.Omega.{arith}
use Rattle.client_cache.proofs.AtLines.{evicted_other, evicted_own, missed_own, probed_other, probed_own, remove_own, wanted_other}
use Rattle.client_cache.specs.AtLine.{AtLine, KeepsOthers, at_line}
use Rattle.client_cache.specs.Cache.{Cache, answered, copy_at, evicted, granted, probed, wanted}
use Rattle.client_cache.specs.Held.{perm_of, shrunk_at}
use Rattle.client_cache.specs.declared.answers.Evict.{Evict}
use Rattle.client_cache.specs.declared.answers.Evict.TheVariants as evict
use Rattle.client_cache.specs.declared.answers.Probed.{Probed}
use Rattle.client_cache.specs.declared.answers.Probed.TheVariants.{Answered}
use Rattle.client_cache.specs.declared.held.Held.{Held}
use Rattle.client_cache.specs.declared.held.Held.TheVariants as held
use Rattle.directory.specs.Directory as directory
use Rattle.directory.specs.Directory.{Notes, line_at}
use Rattle.directory.specs.Lines.{known_at, needs_data}
use Rattle.directory.specs.declared.answer.Acquired.{Acquired}
use Rattle.directory.specs.declared.answer.Grant.{Grant as Granting}
use Rattle.elf_loader.specs.Image.{Initial}
use Rattle.machine_model.specs.Changing.{acted, given_up, missed, release_body, sent_if_evicted}
use Rattle.machine_model.specs.Deliveries.{handled, is_trunk, on_grant, on_probe_ack, on_release, on_release_ack, probe_ack_body, sent_if_answered, taken, with_less, with_memory, with_notes}
use Rattle.machine_model.specs.Events.{happens, hart_of}
use Rattle.machine_model.specs.LawfulLog.{concerns, is_BtoN, is_acquire, is_loss, lost_since_asking, sent_count, taken_count}
use Rattle.machine_model.specs.Views.{Node, State, line_size, no_node, node_at, opening, place_of, sent, with_node}
use Rattle.machine_model.specs.declared.act.Act.{Act}
use Rattle.machine_model.specs.declared.act.Act.TheVariants as act
use Rattle.machine_types.specs.declared.config.Config.{Config}
use Rattle.machine_types.specs.declared.event.Event.{Event}
use Rattle.machine_model.proofs.coherence.LineStands.{Side}
use Rattle.machine_model.proofs.coherence.LineViews.{Answering, evicted_says, front_here, granted_other, answered_other, of_line, probed_says}
use Rattle.machine_model.proofs.log.Acts.{IsAlone, Still, alone_still, if_granted, if_handled}
use Rattle.machine_model.proofs.Events.{IsMove, by_event}
use Rattle.machine_model.proofs.log.Counts.{bit, sent_in, sent_out, taken_in, taken_out}
use Rattle.machine_model.proofs.log.Lists.{comes_out, goes_in}
use Rattle.machine_model.proofs.log.manager.Alone.{KeepsPerms, alone_perms}
use Rattle.machine_model.proofs.log.manager.Answers.{same_cache}
use Rattle.machine_model.proofs.log.manager.Losses.{IsLosing, Lost, framed_turns, less_not, losses, managed, or_true, same_both, same_in, same_lost, same_out, sends, sent_losing, taken_losing, takes, turned_losing}
use Rattle.machine_model.proofs.log.manager.Parts.{asking_reads, branch_kept}
use Rattle.machine_model.proofs.log.manager.Queues.{count_in}
use Rattle.machine_model.proofs.log.manager.Readings.{and_off, asked_in, asked_now, asked_out, is_at, last_asked, losses_in, lost_asking, reading, reading_in, reading_out, same_count}
use Rattle.machine_model.proofs.log.Fronts.{IsFront, front_of_move}
use Rattle.machine_model.proofs.log.Queues.{same_within}
use Rattle.machine_model.proofs.log.Sends.{Known}
use Rattle.machine_model.proofs.Plans.{IsReady, Misses}
use Rattle.machine_model.proofs.coherence.WorldFits.{Framed, framed_again, framed_node, framed_sent, framed_taken, kit_at, kit_of}
use Rattle.machine_model.proofs.coherence.WorldKept.{front_line, is_line, side}
use Rattle.machine_model.proofs.coherence.WorldSteps.{trunk_line}
use Rattle.tilelink_channels.specs.Queues.{popped, pushed}
use Rattle.tl_types.specs.Message.{channel_of_body}
use Rattle.tl_types.specs.Shrink.{shrunk_by}
use Rattle.tl_types.specs.declared.line.LineData.{LineData}
use Rattle.tl_types.specs.declared.message.Body.{Body}
use Rattle.tl_types.specs.declared.message.Body.TheVariants.{AcquireBlock, ProbeBlock, ProbeAck, ProbeAckData, Release, ReleaseData, Grant, GrantData, ReleaseAck, GrantAck}
use Rattle.tl_types.specs.declared.message.Msg.{Msg}
use Rattle.tl_types.specs.declared.permission.Cap.{Cap}
use Rattle.tl_types.specs.declared.permission.Cap.TheVariants.{ToT, ToB, ToN}
use Rattle.tl_types.specs.declared.permission.Change.{Change}
use Rattle.tl_types.specs.declared.permission.Grow.{Grow}
use Rattle.tl_types.specs.declared.permission.Grow.TheVariants.{BtoT}
use Rattle.tl_types.specs.declared.permission.Perm.TheVariants.{Nothing, Branch}
use Rattle.trace_recorder.specs.declared.logged.Logged.{Logged}

-- what a Probe takes of a copy that isn't written
shrinks : (copy : Option Held) (cap : Cap) → is_trunk (perm_of copy) ≡ false →
    ((is_BtoN (shrunk_by (perm_of copy) cap).1 ≡ true) × (perm_of (shrunk_at cap copy) ≡ Nothing)) ⊎ ((is_BtoN (shrunk_by (perm_of copy) cap).1 ≡ false) × (perm_of (shrunk_at cap copy) ≡ perm_of copy))
shrinks None cap e = inr (refl, refl)
shrinks (Some (held.Branch bytes)) ToT e = inr (refl, refl)
shrinks (Some (held.Branch bytes)) ToB e = inr (refl, refl)
shrinks (Some (held.Branch bytes)) ToN e = inl (refl, refl)
shrinks (Some (held.Trunk dirty bytes)) cap e = cc e

loss_by : (change : Change) (bytes : Option LineData) → (is_loss (probe_ack_body change bytes) ≡ is_BtoN change) × (is_acquire (probe_ack_body change bytes) ≡ false)
loss_by change None = (refl, refl)
loss_by change (Some bytes) = (refl, refl)

module _ (s : State) (h : ℕ) (in_h : h < length s.views.nodes) (g : Known s) (i : IsLosing s) where
  abbrev n : Node
  n = node_at s h

  abbrev seen_at : ℕ → Side
  seen_at l = side (kit_of n) (known_at (line_at s.views.notes (place_of (line_size s) l)) h) l

  abbrev IsLine : ℕ → Type 0
  IsLine l = is_line s.trace.image (line_size s) (length s.views.nodes) l ≡ true

  missed_losing : (address line : ℕ) (grow : Grow) → Misses n address line grow → IsLosing (missed h line grow s)
  missed_losing address line grow is = turned_losing s t h line (wanted n.cache line grow).1 (framed_turns s t h _ f) (wanted_other n.cache line grow) (same_in h m s.trace.log) (λ _. here) i
    where
      m : Msg
      m = record { line = line; body = AcquireBlock grow }

      asking : State
      asking = with_node h (record n { cache = (wanted n.cache line grow).1 }) s

      t : State
      t = missed h line grow s

      f : Framed s t h (record n { cache = (wanted n.cache line grow).1; queues = pushed n.queues m })
      f = framed_sent s asking h (record n { cache = (wanted n.cache line grow).1 }) m in_h (framed_node s h (record n { cache = (wanted n.cache line grow).1 }) in_h)

      none : perm_of (copy_at n.cache line) ≡ Branch → nat_lt (taken_count is_loss (concerns h line) t.trace.log) (sent_count is_loss (concerns h line) t.trace.log) ≡ false
      none branch =
          let on : IsLine line = trunk_line s g.0.0 h line g.0.1 (λ e. cc (e, branch)) in
          let kept : count_in is_loss (of_line line n.queues.c) ≡ 0 = branch_kept ((g.0.1.well.kept line on).stands h) branch in
          let all : sends s g.1 h line in_h ≡ takes s g.1 h line in_h + count_in is_loss (of_line line n.queues.c) = losses s g.1 h line in_h in
          let a : taken_count is_loss (concerns h line) t.trace.log ≡ taken_count is_loss (concerns h line) s.trace.log = same_count _ _ (taken_in is_loss h line s.trace.log h m) in
          let b : sent_count is_loss (concerns h line) t.trace.log ≡ sent_count is_loss (concerns h line) s.trace.log = same_count _ _ (sent_in is_loss h line s.trace.log h m ∙ ap (λ x. sent_count is_loss (concerns h line) s.trace.log + bit x) (and_off (is_at h line h m) false refl)) in
          let same : taken_count is_loss (concerns h line) t.trace.log ≡ sent_count is_loss (concerns h line) t.trace.log = omega (arith, kept, all, a, b) in
          ap (λ x. nat_lt x (sent_count is_loss (concerns h line) t.trace.log)) same ∙ less_not (sent_count is_loss (concerns h line) t.trace.log)

      here : Lost h line (at_line (wanted n.cache line grow).1 line) t.trace.log
      here on last reader =
          let same : grow ≡ BtoT = let e : Some (AcquireBlock grow) ≡ Some (AcquireBlock BtoT) = sym (asked_now line s.trace.log h grow) ∙ last in cc e in
          let branch : perm_of (copy_at n.cache line) ≡ Branch = is.branch same in
          let lost : lost_since_asking h line false t.trace.log ≡ false = lost_asking s.trace.log h m refl in
          ap (λ (x : AtLine). needs_data BtoT (perm_of x.copy)) (missed_own n.cache line grow is.answer) ∙ ap (needs_data BtoT) branch ∙ sym (λ j. lost j || none branch j)

  given_up_losing : (line : ℕ) (change : Change) (bytes : Option LineData) → (evicted n.cache line).0 ≡ evict.Evicted change bytes → IsLosing (given_up h line s)
  given_up_losing line change bytes is = subst IsLosing (ap (λ (a : Evict). sent_if_evicted h line a less) (sym is))
      (turned_losing s t h line (evicted n.cache line).1 (framed_turns s t h _ f) (evicted_other n.cache line) (same_in h m s.trace.log) (λ _ on. cc (off, on)) i)
    where
      m : Msg
      m = record { line = line; body = release_body change bytes }

      n1 : Node
      n1 = with_less (evicted n.cache line).1 line n

      less : State
      less = with_node h n1 s

      t : State
      t = sent h m less

      f : Framed s t h (record n1 { queues = pushed n1.queues m })
      f = framed_sent s less h n1 m in_h (framed_node s h n1 in_h)

      off : set.contains (evicted n.cache line).1.acquiring line ≡ false
      off = ap (λ (x : AtLine). x.acquiring) (evicted_own n.cache line change bytes is) ∙ (evicted_says n.cache line change bytes is).unasked

  module _ (line : ℕ) (body : Body) where
    abbrev m : Msg
    m = record { line = line; body = body }

    abbrev s1 : State
    s1 = taken h m s

    abbrev n1 : Node
    n1 = record n { queues = popped n.queues (channel_of_body body) }

    f1 : Framed s s1 h n1
    f1 = framed_taken s h m in_h

    same1 : node_at s1 h ≡ n1
    same1 = f1.here

    granted_losing : (cap : Cap) (bytes : Option LineData) → IsLosing (on_grant h line cap bytes s1)
    granted_losing cap bytes = turned_losing s (on_grant h line cap bytes s1) h line c (framed_turns s (on_grant h line cap bytes s1) h (record m1 { queues = pushed m1.queues answer }) f) keeps (same_both h line body GrantAck s.trace.log) (λ _ on. cc (remove_own (node_at s1 h).cache.acquiring line, on)) i
      where
        c : Cache
        c = granted (node_at s1 h).cache line cap bytes

        keeps : KeepsOthers line n.cache c
        keeps = subst (λ (x : Cache). KeepsOthers line x c) (ap (λ (x : Node). x.cache) same1) (granted_other (node_at s1 h).cache line cap bytes)

        m1 : Node
        m1 = record (node_at s1 h) { cache = c }

        answer : Msg
        answer = record { line = line; body = GrantAck }

        f : Framed s (on_grant h line cap bytes s1) h (record m1 { queues = pushed m1.queues answer })
        f = framed_sent s (with_node h m1 s1) h m1 answer in_h (framed_again s s1 h n1 m1 in_h f1)

    rested_losing : is_loss body ≡ false → IsLosing (on_release_ack h line s1)
    rested_losing plain = turned_losing s (on_release_ack h line s1) h line c (framed_turns s (on_release_ack h line s1) h (record (node_at s1 h) { cache = c }) (framed_again s s1 h n1 (record (node_at s1 h) { cache = c }) in_h f1)) keeps (same_out h m s.trace.log) here i
      where
        c : Cache
        c = answered (node_at s1 h).cache line

        keeps : KeepsOthers line n.cache c
        keeps = subst (λ (x : Cache). KeepsOthers line x c) (ap (λ (x : Node). x.cache) same1) (answered_other (node_at s1 h).cache line)

        old : h < length s.views.nodes → Lost h line (at_line (node_at s1 h).cache line) s1.trace.log
        old in_h = subst (λ (x : Node). Lost h line (at_line x.cache line) s1.trace.log) (sym same1)
            (same_lost h line (at_line n.cache line) s.trace.log s1.trace.log (asked_out h line s.trace.log h m) (reading_out h line s.trace.log h m (and_off (is_at h line h m) (is_loss body) plain)) (i h line in_h))

        here : h < length s.views.nodes → Lost h line (at_line c line) (on_release_ack h line s1).trace.log
        here in_h on last reader = old in_h on last reader

  -- a Probe
  module _ (line : ℕ) (cap : Cap) (rest : List Msg) (front : n.queues.b ≡ (record { line = line; body = ProbeBlock cap }) ∷ rest) (change : Change) (bytes : Option LineData) (is : (probed n.cache line cap).0 ≡ Answered change bytes) where
    on : IsLine line
    on = front_line s.trace.image (line_size s) (length s.views.nodes) (kit_at s) s.views.notes s.views.memory g.0.0 h line (ProbeBlock cap) (of_line line rest) (λ x. x.b) g.0.1.well refl (front_here line n.queues.b (ProbeBlock cap) rest front)

    says : Answering n.cache line cap change bytes
    says = probed_says n.cache line cap change bytes is

    abbrev log1 : List Logged
    log1 = s.trace.log ++ comes_out h (record { line = line; body = ProbeBlock cap }) ∷ []

    abbrev answer : Msg
    answer = record { line = line; body = probe_ack_body change bytes }

    abbrev log2 : List Logged
    log2 = log1 ++ goes_in h answer ∷ []

    asked_same : last_asked h line log2 ≡ last_asked h line s.trace.log
    asked_same = asked_in h line log1 h answer (and_off (is_at h line h answer) _ (loss_by change bytes).1) ∙ asked_out h line s.trace.log h (record { line = line; body = ProbeBlock cap })

    -- the loss goes out
    loses : is_BtoN change ≡ true → reading h line log2 ≡ true
    loses e = ap (λ b. lost_since_asking h line false log2 || b) (lt-ltb _ _ less) ∙ or_true (lost_since_asking h line false log2)
      where
        less : taken_count is_loss (concerns h line) log2 < sent_count is_loss (concerns h line) log2
        less =
            let all : sends s g.1 h line in_h ≡ takes s g.1 h line in_h + count_in is_loss (of_line line n.queues.c) = losses s g.1 h line in_h in
            let a : taken_count is_loss (concerns h line) log1 ≡ takes s g.1 h line in_h = same_count _ _ (taken_out is_loss h line s.trace.log h (record { line = line; body = ProbeBlock cap }) ∙ ap (λ x. takes s g.1 h line in_h + bit x) (and_off (is_at h line h (record { line = line; body = ProbeBlock cap })) false refl)) in
            let b : sent_count is_loss (concerns h line) log1 ≡ sends s g.1 h line in_h + 0 = sent_out is_loss h line s.trace.log h (record { line = line; body = ProbeBlock cap }) in
            let c : taken_count is_loss (concerns h line) log2 ≡ taken_count is_loss (concerns h line) log1 + 0 = taken_in is_loss h line log1 h answer in
            let d : sent_count is_loss (concerns h line) log2 ≡ sent_count is_loss (concerns h line) log1 + 1 = losses_in log1 h answer ((loss_by change bytes).0 ∙ e) in
            omega (arith, all, a, b, c, d)

    keeps_reading : is_BtoN change ≡ false → reading h line log2 ≡ reading h line s.trace.log
    keeps_reading e =
        reading_in h line log1 h answer (and_off (is_at h line h answer) _ (loss_by change bytes).1) (and_off (is_at h line h answer) _ ((loss_by change bytes).0 ∙ e))
        ∙ reading_out h line s.trace.log h (record { line = line; body = ProbeBlock cap }) (and_off (is_at h line h (record { line = line; body = ProbeBlock cap })) false refl)

    own_line : at_line (probed n.cache line cap).1 line ≡ record (at_line n.cache line) { copy = shrunk_at cap (copy_at n.cache line) }
    own_line = probed_own n.cache line cap says.rested

    here : Lost h line (record (at_line n.cache line) { copy = shrunk_at cap (copy_at n.cache line) }) log2
    here acquiring last reader = go (shrinks (copy_at n.cache line) cap reads)
      where
        reads : is_trunk (perm_of (copy_at n.cache line)) ≡ false
        reads = asking_reads ((g.0.1.well.kept line on).stands h) acquiring

        old : needs_data BtoT (perm_of (copy_at n.cache line)) ≡ reading h line s.trace.log
        old = i h line in_h acquiring (sym asked_same ∙ last) reads

        go : ((is_BtoN (shrunk_by (perm_of (copy_at n.cache line)) cap).1 ≡ true) × (perm_of (shrunk_at cap (copy_at n.cache line)) ≡ Nothing)) ⊎ ((is_BtoN (shrunk_by (perm_of (copy_at n.cache line)) cap).1 ≡ false) × (perm_of (shrunk_at cap (copy_at n.cache line)) ≡ perm_of (copy_at n.cache line))) →
            needs_data BtoT (perm_of (shrunk_at cap (copy_at n.cache line))) ≡ reading h line log2
        go (inl e) = ap (needs_data BtoT) e.1 ∙ sym (loses (ap is_BtoN says.change_is ∙ e.0))
        go (inr e) = ap (needs_data BtoT) e.1 ∙ old ∙ sym (keeps_reading (ap is_BtoN says.change_is ∙ e.0))

    abbrev s0 : State
    s0 = taken h (record { line = line; body = ProbeBlock cap }) s

    cache0 : (node_at s0 h).cache ≡ n.cache
    cache0 = same_cache h (record { line = line; body = ProbeBlock cap }) s

    probed_losing : IsLosing (sent_if_answered h line (probed (node_at s0 h).cache line cap).0 (with_node h (with_less (probed (node_at s0 h).cache line cap).1 line (node_at s0 h)) s0))
    probed_losing = go (probed (node_at s0 h).cache line cap).0 (ap (λ (c : Cache). (probed c line cap).0) cache0 ∙ is)
      where
        c : Cache
        c = (probed (node_at s0 h).cache line cap).1

        m1 : Node
        m1 = with_less c line (node_at s0 h)

        shrunk : State
        shrunk = with_node h m1 s0

        f : Framed s (sent h answer shrunk) h (record m1 { queues = pushed m1.queues answer })
        f = framed_sent s shrunk h m1 answer in_h (framed_again s s0 h _ m1 in_h (framed_taken s h (record { line = line; body = ProbeBlock cap }) in_h))

        keeps : KeepsOthers line n.cache c
        keeps = subst (λ (x : Cache). KeepsOthers line x c) cache0 (probed_other (node_at s0 h).cache line cap)

        now : Lost h line (at_line c line) log2
        now = subst (λ (x : AtLine). Lost h line x log2) (sym (ap (λ (x : Cache). at_line (probed x line cap).1 line) cache0 ∙ own_line)) here

        go : (a : Probed) → a ≡ Answered change bytes → IsLosing (sent_if_answered h line a shrunk)
        go a e = subst (λ (x : Probed). IsLosing (sent_if_answered h line x shrunk)) (sym e)
            (turned_losing s (sent h answer shrunk) h line c (framed_turns s (sent h answer shrunk) h (record m1 { queues = pushed m1.queues answer }) f) keeps (same_both h line (ProbeBlock cap) (probe_ack_body change bytes) s.trace.log) (λ _. now) i)

-- ---- all acts

module _ (s : State) (h : ℕ) (in_h : h < length s.views.nodes) (g : Known s) (i : IsLosing s) where
  abbrev at_hand : ℕ → Body → State
  at_hand l body = taken h (record { line = l; body = body }) s

  noted_losing : (l : ℕ) (bytes : Option LineData) (notes : Notes) (a : State) → IsLosing a → IsLosing (with_notes notes (with_memory l bytes a))
  noted_losing l None notes a j = j
  noted_losing l (Some bytes) notes a j = j

  released_losing : (l : ℕ) (body : Body) (bytes : Option LineData) → IsLosing (at_hand l body) → IsLosing (on_release h l bytes (at_hand l body))
  released_losing l body bytes j =
      let s1 : State = at_hand l body in
      let notes : Notes = directory.released s1.views.notes (place_of (line_size s1) l) h in
      sent_losing h (record { line = l; body = ReleaseAck }) (with_notes notes (with_memory l bytes s1)) refl refl (noted_losing l bytes notes s1 j)

  answered_losing : (l : ℕ) (body : Body) (change : Change) (bytes : Option LineData) → IsLosing (at_hand l body) → IsLosing (on_probe_ack h l change bytes (at_hand l body))
  answered_losing l body change bytes j =
      let s1 : State = at_hand l body in
      let answer : Option Granting × Notes = directory.probe_acked s1.views.notes (place_of (line_size s1) l) h change in
      if_granted IsLosing managed l answer.0 (with_notes answer.1 (with_memory l bytes s1)) (noted_losing l bytes answer.1 s1 j)

  delivered_losing : (l : ℕ) (body : Body) → IsReady s h l body → IsFront (node_at s h) (record { line = l; body = body }) → IsLosing (handled h l body (at_hand l body))
  delivered_losing l (AcquireBlock grow) ready front =
      let s1 : State = at_hand l (AcquireBlock grow) in
      let answer : Acquired × Notes = directory.acquired s1.views.notes (place_of (line_size s1) l) h grow in
      if_handled IsLosing managed l answer.0 (with_notes answer.1 s1) (taken_losing h (record { line = l; body = AcquireBlock grow }) s g.1 front i)
  delivered_losing l (ProbeBlock cap) ready front = probed_losing s h in_h g i l cap front.0 front.1 ready.0 ready.1 ready.2
  delivered_losing l (ProbeAck change) ready front = answered_losing l (ProbeAck change) change None (taken_losing h _ s g.1 front i)
  delivered_losing l (ProbeAckData change bytes) ready front = answered_losing l (ProbeAckData change bytes) change (Some bytes) (taken_losing h _ s g.1 front i)
  delivered_losing l (Release change) ready front = released_losing l (Release change) None (taken_losing h _ s g.1 front i)
  delivered_losing l (ReleaseData change bytes) ready front = released_losing l (ReleaseData change bytes) (Some bytes) (taken_losing h _ s g.1 front i)
  delivered_losing l (Grant cap) ready front = granted_losing s h in_h g i l (Grant cap) cap None
  delivered_losing l (GrantData cap bytes) ready front = granted_losing s h in_h g i l (GrantData cap bytes) cap (Some bytes)
  delivered_losing l ReleaseAck ready front = rested_losing s h in_h g i l ReleaseAck refl
  delivered_losing l GrantAck ready front = taken_losing h (record { line = l; body = GrantAck }) s g.1 front i

  alone_losing : (a : Act) → IsAlone a → IsLosing (acted h a s)
  alone_losing a is k l in_k on last reader =
      let t : State = acted h a s in
      let q : Still s t = alone_still h a s is in
      let p : KeepsPerms s t = alone_perms h a s is in
      let in_s : k < length s.views.nodes = subst (λ n. k < n) q.quiet.count in_k in
      let same : slice_index_or s.views.nodes k (no_node t) ≡ node_at s k = same_within s.views.nodes k (no_node t) (no_node s) in_s in
      let perm : perm_of (copy_at (node_at t k).cache l) ≡ perm_of (copy_at (node_at s k).cache l) = p.same k (no_node t) l reader ∙ ap (λ (x : Node). perm_of (copy_at x.cache l)) same in
      let flag : set.contains (node_at t k).cache.acquiring l ≡ set.contains (node_at s k).cache.acquiring l = ap (λ b. set.contains b l) (q.acquiring k (no_node t) ∙ ap (λ (x : Node). x.cache.acquiring) same) in
      ap (needs_data BtoT) perm ∙ i k l in_s (sym flag ∙ on) (ap (last_asked k l) (sym q.quiet.log) ∙ last) (ap is_trunk (sym perm) ∙ reader) ∙ ap (reading k l) (sym q.quiet.log)

losing : (s : State) (e : Event) (a : Act) → IsMove s e a → Known s → IsLosing s → IsLosing (acted (hart_of e) a s)
losing s e (act.Miss line grow) k g i = missed_losing s (hart_of e) k.in_h g i k.rests.0 line grow k.rests.2
losing s e (act.Evict line) k g i = given_up_losing s (hart_of e) k.in_h g i line k.rests.1.0 k.rests.1.1 k.rests.1.2
losing s e (act.Deliver m) k g i = delivered_losing s (hart_of e) k.in_h g i m.line m.body k.rests.2.ready (front_of_move s g.1 e m k)
losing s e a k g i = alone_losing s (hart_of e) k.in_h g i a tt

pub happens_losing : (s : State) (e : Event) → Known s → IsLosing s → IsLosing (happens s e)
happens_losing s e g i = by_event IsLosing s e i (λ a k. losing s e a k g i)

pub opening_losing : (image : Initial) (config : Config) → IsLosing (opening image config)
opening_losing image config k l in_k on last reader = cc last
