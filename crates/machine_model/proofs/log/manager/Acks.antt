-- The Grant that the last awaited ProbeAck comes to goes out where it may.
use Rattle.std.proofs.Common.{ℕ, ◌+◌, ◌<◌, Bool, true, false, List, [], ◌∷◌, ◌≡◌, Option, Some, None, refl, ap, sym, ◌∙◌, subst, length}
use Rattle.std.specs.Prelude.{◌≢◌, ◌==◌, ◌&&◌, if◌then◌else◌, not}
use Rattle.std.proofs.lemmas.Bool.{eq-eqb}
use Rattle.std.proofs.lemmas.Bool.Decides.{eqb_tells}
use Rattle.std.proofs.lemmas.List.{get_or-set_other}
use mathlib.Core.Logic.{◌⊎◌, inl, inr}
use native.Mathlib.Omega.{arith}
use Rattle.directory.specs.Directory.{Notes, line_at, with_line}
use Rattle.directory.specs.Lines.{Line, acknowledged, answered_in, grant_for, granting, is_any_awaited, known_at, unknown}
use Rattle.directory.specs.declared.answer.Grant.{Grant as Granting}
use Rattle.directory.specs.declared.answer.Known.{Known}
use Rattle.directory.specs.declared.answer.Transaction.{Transaction}
use Rattle.directory.specs.declared.answer.Transaction.TheVariants.{Idle, Probing, Granted}
use Rattle.machine_model.specs.Deliveries.{grant_body, line_in_memory, on_probe_ack, sent_grant, sent_if_granted, taken, with_memory, with_notes}
use Rattle.machine_model.specs.LawfulLog.{concerns, is_BtoT, is_acquire, is_grant, is_grant_ack, is_loss, is_probe, is_probe_ack, may_send, sent_count, taken_count}
use Rattle.machine_model.specs.Views.{Node, State, line_size, node_at, place_of}
use Rattle.machine_types.specs.declared.config.Config.{Config}
use Rattle.machine_model.proofs.coherence.LineKept.{not_eq, part_of}
use Rattle.machine_model.proofs.coherence.LineStands.{Asking, Probed, Stands}
use Rattle.machine_model.proofs.coherence.LineViews.{front_here, of_line}
use Rattle.machine_model.proofs.log.Counts.{bit, sent_out, taken_out}
use Rattle.machine_model.proofs.log.Flags.{no_bit}
use Rattle.machine_model.proofs.log.manager.Grants.{HasData, MayGrant, has_data, may_grant_now, none_waits}
use Rattle.machine_model.proofs.log.manager.Kept.{IsGoverned, noted_same, same_governed, same_views, sent_governed, taken_governed}
use Rattle.machine_model.proofs.log.manager.Numbers.{IsLine, IsPlain, acquires_are, grants_are, noted, part_at, probes_are, seen_at, stands}
use Rattle.machine_model.proofs.log.manager.Parts.{IsWaiting, is_asking, is_taking, probes_open, waits_for}
use Rattle.machine_model.proofs.log.manager.Queues.{count_in}
use Rattle.machine_model.proofs.log.manager.Readings.{and_off, heard_out, is_at, lost_out}
use Rattle.machine_model.proofs.log.manager.Sums.{settled_by_all}
use Rattle.machine_model.proofs.coherence.WorldFits.{kit_at}
use Rattle.machine_model.proofs.coherence.WorldKept.{front_line}
use Rattle.machine_model.proofs.coherence.WorldManager.{none_awaited}
use Rattle.tl_types.specs.declared.line.LineData.{LineData}
use Rattle.tl_types.specs.declared.message.Body.{Body}
use Rattle.tl_types.specs.declared.message.Body.TheVariants.{ProbeAck, ProbeAckData}
use Rattle.tl_types.specs.declared.message.Msg.{Msg}
use Rattle.tl_types.specs.declared.permission.Change.{Change}
use Rattle.tl_types.specs.declared.permission.Grow.{Grow}
use Rattle.trace_recorder.specs.History.{History}
use Rattle.trace_recorder.specs.declared.logged.Logged.{Logged}

-- a ProbeAck, with data or without
abbrev IsAnswer : Body → Type 0
IsAnswer body = (is_probe_ack body ≡ true) × (is_acquire body ≡ false) × (is_grant_ack body ≡ false)

asks_or_probed : (r : ℕ) (g : Grow) (k : ℕ) → is_taking (part_of (Probing r g) k) ≡ false
asks_or_probed r g k = go (k == r)
  where
    go : (b : Bool) → is_taking (if b then Asking g else Probed g) ≡ false
    go true = refl
    go false = refl

one_bit : (b : Bool) (n : ℕ) → n + 1 ≡ bit b → bit b ≡ 1
one_bit true n e = refl
one_bit false n e = absurd (omega (arith, e))

module _ (s : State) (p : IsPlain s) (h : ℕ) (in_h : h < length s.views.nodes) (i : IsGoverned s) (l : ℕ) (body : Body) (answer : IsAnswer body) (change : Change) (rest : List Msg) (front : (node_at s h).queues.c ≡ (record { line = l; body = body }) ∷ rest) where
  abbrev n : Node
  n = node_at s h

  abbrev own : Line
  own = noted s l

  abbrev y : Line
  y = acknowledged own h change

  abbrev place : ℕ
  place = place_of (line_size s) l

  abbrev m : Msg
  m = record { line = l; body = body }

  abbrev s1 : State
  s1 = taken h m s

  abbrev log : List Logged
  log = s.trace.log

  abbrev log1 : List Logged
  log1 = s1.trace.log

  abbrev harts : ℕ
  harts = s.views.config.harts

  in_nodes : (k : ℕ) → k < harts → k < length s.views.nodes
  in_nodes k lt = subst (λ c. k < c) (sym p.standing.nodes) lt

  in_c : (k : ℕ) → k < length s.views.nodes → k < harts
  in_c k lt = subst (λ c. k < c) p.standing.nodes lt

  on : IsLine s l
  on = front_line s.trace.image (line_size s) (length s.views.nodes) (kit_at s) s.views.notes s.views.memory p.known.0.0 h l body (of_line l rest) (λ x. x.c) p.known.0.1.well refl (front_here l n.queues.c body rest front)

  first : IsGoverned s1
  first = taken_governed h m s (in_c h in_h) answer.1 i

  -- the hart's answer was awaited
  awaited : bit (known_at own h).awaited ≡ 1
  awaited =
      let open_now : count_in is_probe (seen_at s h l).b + count_in is_probe_ack (seen_at s h l).c ≡ bit (known_at own h).awaited = probes_open (stands s p h l in_h on) in
      let here : count_in is_probe_ack (seen_at s h l).c ≡ count_in is_probe_ack (of_line l rest) + 1 = ap (count_in is_probe_ack) (front_here l n.queues.c body rest front) ∙ counted (of_line l rest) in
      one_bit (known_at own h).awaited (count_in is_probe (seen_at s h l).b + count_in is_probe_ack (of_line l rest)) (omega (arith, open_now, here))
    where
      counted : (bodies : List Body) → count_in is_probe_ack (body ∷ bodies) ≡ count_in is_probe_ack bodies + 1
      counted bodies = let e : is_probe_ack body ≡ true = answer.0 in rw e (omega arith)

  -- ---- once nobody is awaited

  module _ (r : ℕ) (g : Grow) (asks : own.transaction ≡ Probing r g) (none : is_any_awaited y ≡ false) where
    in_r : r < length s.views.nodes
    in_r = p.known.0.1.well.requester l r g on asks

    waits : IsWaiting (seen_at s r l)
    waits = waits_for (subst (λ q. Stands (p.known.0.0 l) q (seen_at s r l)) (ap (λ t. part_of t r) asks ∙ own_part) (stands s p r l in_r on))
      where
        own_part : part_of (Probing r g) r ≡ Asking g
        own_part = rw (eq-eqb r r refl) refl

    apart : r ≢ h
    apart e =
        let empty : of_line l n.queues.c ≡ [] = subst (λ k. of_line l (node_at s k).queues.c ≡ []) e waits.answered in
        let full : of_line l n.queues.c ≡ body ∷ of_line l rest = front_here l n.queues.c body rest front in
        cc (empty, full)

    elsewhere : is_at r l h m ≡ false
    elsewhere = let off : (h == r) ≡ false = not_eq h r (λ e. apart (sym e)) in rw off refl

    probes_free : (k : ℕ) → k < harts → sent_count is_probe (concerns k l) log1 ≡ taken_count is_probe_ack (concerns k l) log1
    probes_free k in_k = go (eqb_tells h k)
      where
        asked : sent_count is_probe (concerns k l) log ≡ taken_count is_probe_ack (concerns k l) log + bit (known_at own k).awaited
        asked = probes_are s p k l (in_nodes k in_k) on

        a : sent_count is_probe (concerns k l) log1 ≡ sent_count is_probe (concerns k l) log + 0
        a = sent_out is_probe k l log h m

        b : taken_count is_probe_ack (concerns k l) log1 ≡ taken_count is_probe_ack (concerns k l) log + bit (is_at k l h m && is_probe_ack body)
        b = taken_out is_probe_ack k l log h m

        go : (((h == k) ≡ true) × (h ≡ k)) ⊎ (((h == k) ≡ false) × (h ≡ k → ⊥)) → sent_count is_probe (concerns k l) log1 ≡ taken_count is_probe_ack (concerns k l) log1
        go (inl e) =
            let line : (l == l) ≡ true = eq-eqb l l refl in
            let kind : is_probe_ack body ≡ true = answer.0 in
            let one : bit (is_at k l h m && is_probe_ack body) ≡ 1 = rw (e.0, line, kind) refl in
            let was : bit (known_at own k).awaited ≡ 1 = subst (λ j. bit (known_at own j).awaited ≡ 1) e.1 awaited in
            omega (arith, asked, a, b, one, was)
        go (inr e) =
            let off : bit (is_at k l h m && is_probe_ack body) ≡ 0 = rw e.0 refl in
            let rests : (known_at own k).awaited ≡ false = ap (λ (z : Known). z.awaited) (sym (get_or-set_other own.known h k _ unknown (λ q. e.1 (sym q)))) ∙ none_awaited y.known none k in
            let was : bit (known_at own k).awaited ≡ 0 = ap bit rests in
            omega (arith, asked, a, b, off, was)

    grants_free : (k : ℕ) → k < harts → sent_count is_grant (concerns k l) log1 ≡ taken_count is_grant_ack (concerns k l) log1
    grants_free k in_k =
        let asked : sent_count is_grant (concerns k l) log ≡ taken_count is_grant_ack (concerns k l) log + bit (is_taking (part_at s k l)) = grants_are s p k l (in_nodes k in_k) on in
        let nobody : bit (is_taking (part_at s k l)) ≡ 0 = ap (λ t. bit (is_taking (part_of t k))) asks ∙ ap bit (asks_or_probed r g k) in
        let a : sent_count is_grant (concerns k l) log1 ≡ sent_count is_grant (concerns k l) log + 0 = sent_out is_grant k l log h m in
        let b : taken_count is_grant_ack (concerns k l) log1 ≡ taken_count is_grant_ack (concerns k l) log + bit (is_at k l h m && is_grant_ack body) = taken_out is_grant_ack k l log h m in
        let off : bit (is_at k l h m && is_grant_ack body) ≡ 0 = no_bit (is_at k l h m) (is_grant_ack body) answer.2 in
        omega (arith, asked, nobody, a, b, off)

    may_grant_it : MayGrant g r l log1
    may_grant_it = record {
      one_more = one;
      heard = heard_out r l log h m (and_off (is_at r l h m) (is_acquire body) answer.1) ∙ i.heard r l g on asks;
      unprobed = settled_by_all is_probe is_probe_ack harts l log1 first.below probes_free;
      ungranted = settled_by_all is_grant is_grant_ack harts l log1 first.below grants_free;
    }
      where
        asking : is_asking (part_of (Probing r g) r) ≡ true
        asking = rw (eq-eqb r r refl) refl

        one : taken_count is_acquire (concerns r l) log1 ≡ sent_count is_grant (concerns r l) log1 + 1
        one =
            let a : taken_count is_acquire (concerns r l) log ≡ sent_count is_grant (concerns r l) log + bit (is_asking (part_at s r l)) = acquires_are s p r l in_r on in
            let it : bit (is_asking (part_at s r l)) ≡ 1 = ap (λ t. bit (is_asking (part_of t r))) asks ∙ ap bit asking in
            let b : taken_count is_acquire (concerns r l) log1 ≡ taken_count is_acquire (concerns r l) log + bit (is_at r l h m && is_acquire body) = taken_out is_acquire r l log h m in
            let off : bit (is_at r l h m && is_acquire body) ≡ 0 = no_bit (is_at r l h m) (is_acquire body) answer.1 in
            let c : sent_count is_grant (concerns r l) log1 ≡ sent_count is_grant (concerns r l) log + 0 = sent_out is_grant r l log h m in
            omega (arith, a, it, b, off, c)

    lacks : HasData g (known_at y r).perm r l log1
    lacks = subst (λ (z : Known). HasData g z.perm r l log1) (sym (get_or-set_other own.known h r _ unknown apart))
        (has_data s r l g (known_at own r).perm p.known.1 p.losing in_r waits.acquiring (none_waits s r l p.known.1 in_r waits.asked ∙ i.heard r l g on asks) waits.reader waits.noted waits.answered
        ∙ ap (λ b. not (is_BtoT g && not b)) (sym (lost_out r l log h m (ap (λ b. b && is_loss body) elsewhere))))

    -- `u` is the state once the data, if any, went to memory
    grants_last : (u : State) → u.trace ≡ s1.trace → u.views.config ≡ s1.views.config → u.views.notes ≡ s1.views.notes → IsGoverned u → IsGoverned (sent_grant l (grant_for y r g) (with_notes (with_line s.views.notes place (granting y r g)) u))
    grants_last u trace config notes j =
        let noted_now : State = with_notes (with_line s.views.notes place (granting y r g)) u in
        sent_governed r (record { line = l; body = grant_body (grant_for y r g) (line_in_memory noted_now l) }) noted_now (subst (λ c. r < c) (ap (λ (c : Config). c.harts) (sym config)) (in_c r in_r))
        (λ _. subst (λ logged. may_send (grant_body (grant_for y r g) (line_in_memory noted_now l)) r l logged ≡ true) (ap (λ (t : History). t.log) (sym trace)) (may_grant_now y g r l log1 (line_in_memory noted_now l) may_grant_it lacks))
        (same_governed u noted_now (noted_same u noted_now place (granting y r g) refl refl (ap (λ (x : Notes). with_line x place (granting y r g)) (sym notes)) (λ k grow e. cc e)) j)

  then_granted : (u : State) → u.trace ≡ s1.trace → u.views.config ≡ s1.views.config → u.views.notes ≡ s1.views.notes → IsGoverned u →
      IsGoverned (sent_if_granted l (answered_in own.transaction y).0 (with_notes (with_line s.views.notes place (answered_in own.transaction y).1) u))
  then_granted u trace config notes j = go own.transaction refl
    where
      stays : IsGoverned (with_notes (with_line s.views.notes place y) u)
      stays = same_governed u (with_notes (with_line s.views.notes place y) u) (noted_same u (with_notes (with_line s.views.notes place y) u) place y refl refl (ap (λ (x : Notes). with_line x place y) (sym notes)) (λ k grow e. ap (λ (x : Notes). (line_at x place).transaction) notes ∙ e)) j

      choice : Bool → ℕ → Grow → Option Granting × Line
      choice t r g = if t then (None, y) else (Some (grant_for y r g), granting y r g)

      asks : (r : ℕ) (g : Grow) → own.transaction ≡ Probing r g → (t : Bool) → is_any_awaited y ≡ t → IsGoverned (sent_if_granted l (choice t r g).0 (with_notes (with_line s.views.notes place (choice t r g).1) u))
      asks r g e true a = stays
      asks r g e false a = grants_last r g e a u trace config notes j

      go : (t : Transaction) → own.transaction ≡ t → IsGoverned (sent_if_granted l (answered_in t y).0 (with_notes (with_line s.views.notes place (answered_in t y).1) u))
      go Idle e = stays
      go (Granted r) e = stays
      go (Probing r g) e = asks r g e (is_any_awaited y) refl

pub probe_ack_governed : (s : State) → IsPlain s → (h : ℕ) → h < length s.views.nodes → IsGoverned s → (l : ℕ) (change : Change) (rest : List Msg) → (node_at s h).queues.c ≡ (record { line = l; body = ProbeAck change }) ∷ rest → IsGoverned (on_probe_ack h l change None (taken h (record { line = l; body = ProbeAck change }) s))
probe_ack_governed s p h in_h i l change rest front =
    let body : Body = ProbeAck change in
    let s1 : State = taken h (record { line = l; body = body }) s in
    then_granted s p h in_h i l body (refl, refl, refl) change rest front s1 refl refl refl (first s p h in_h i l body (refl, refl, refl) change rest front)

pub probe_ack_data_governed : (s : State) → IsPlain s → (h : ℕ) → h < length s.views.nodes → IsGoverned s → (l : ℕ) (change : Change) (bytes : LineData) (rest : List Msg) → (node_at s h).queues.c ≡ (record { line = l; body = ProbeAckData change bytes }) ∷ rest → IsGoverned (on_probe_ack h l change (Some bytes) (taken h (record { line = l; body = ProbeAckData change bytes }) s))
probe_ack_data_governed s p h in_h i l change bytes rest front =
    let body : Body = ProbeAckData change bytes in
    let s1 : State = taken h (record { line = l; body = body }) s in
    let stored : State = with_memory l (Some bytes) s1 in
    then_granted s p h in_h i l body (refl, refl, refl) change rest front stored refl refl refl (same_governed s1 stored (same_views s1 stored refl refl refl refl) (first s p h in_h i l body (refl, refl, refl) change rest front))
