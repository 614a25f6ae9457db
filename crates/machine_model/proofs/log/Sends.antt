-- What a cache sends, and each ReleaseAck, it may send.
use Rattle.std.proofs.Common.{ℕ, ◌<◌, Bool, true, false, List, [], ◌∷◌, ◌≡◌, Option, Some, None, refl, ap, ◌∙◌, subst, length, slice_index_or}
use Rattle.std.specs.Prelude.{not, is_some}
use Rattle.std.specs.FinSet as set
use Rattle.std.specs.FinSet.{contains-empty}
use Rattle.std.specs.Ordering.{nat_cmp}
use Rattle.std.proofs.lemmas.Bool.{and_from}
use Rattle.std.proofs.lemmas.List.FromFn.{get_or-map-range_with_len, length-map-range_with_len}
use mathlib.Core.Logic.{◌⊎◌, inl, inr}
use native.Mathlib.Omega.{arith}
use Rattle.client_cache.specs.Cache.{copy_at}
use Rattle.directory.specs.Directory.{line_at}
use Rattle.directory.specs.Directory as directory
use Rattle.directory.specs.Lines.{known_at}
use Rattle.elf_loader.specs.Image.{Initial}
use Rattle.machine_model.specs.Changing.{acted}
use Rattle.machine_model.specs.Deliveries.{handled, on_release, taken, with_memory, with_notes}
use Rattle.machine_model.specs.Events.{counted, happens, hart_of}
use Rattle.machine_model.specs.LawfulLog.{may_send}
use Rattle.machine_model.proofs.log.Parts.{OthersLawfulAlways, is_due, is_probe_or_grant}
use Rattle.machine_model.specs.Views.{Node, State, line_size, node_at, opening, opening_node, place_of}
use Rattle.machine_model.specs.declared.act.Act.{Act}
use Rattle.machine_model.specs.declared.act.Act.TheVariants as act
use Rattle.machine_types.specs.declared.config.Config.{Config}
use Rattle.machine_types.specs.declared.event.Event.{Event}
use Rattle.machine_model.proofs.coherence.LineStands.{Side, Part, Stands, Leaves, Left, LeavesProbed, LeftProbed, LeavesAnswered, Receives, Upgrades, LeavesGranted, LeftGranted}
use Rattle.machine_model.proofs.coherence.LineViews.{evicted_says, front_here, of_line}
use Rattle.machine_model.proofs.log.Acts.{acknowledged, acquired_keeps, alone_still, noted_still, same_nodes}
use Rattle.machine_model.proofs.Events.{IsMove, after_act, events_keep, happens_keeps}
use Rattle.machine_model.proofs.log.Answers.{answers_due_always}
use Rattle.machine_model.proofs.log.Caches.{IsFlagged, given_up_flagged, granted_flagged, is_free, managed, missed_flagged, plus_none, plain_sent, plain_taken, probed_flagged, rested_flagged, still_flagged}
use Rattle.machine_model.proofs.log.Counts.{bit, no_last}
use Rattle.machine_model.proofs.log.Events.{happens_order, opening_order}
use Rattle.machine_model.proofs.log.Fronts.{front_of_move}
use Rattle.machine_model.proofs.log.Queues.{IsInOrder}
use Rattle.machine_model.proofs.coherence.WorldEvents.{happens_fits}
use Rattle.machine_model.proofs.coherence.WorldFits.{kit_at, kit_of}
use Rattle.machine_model.proofs.coherence.WorldKept.{front_line, is_line, side}
use Rattle.machine_model.proofs.coherence.WorldOpening.{opening_fits}
use Rattle.machine_model.proofs.coherence.WorldSteps.{Fits}
use Rattle.tilelink_channels.specs.Queues.{queue_of}
use Rattle.tl_types.specs.Message.{channel_of_body}
use Rattle.tl_types.specs.declared.line.LineData.{LineData}
use Rattle.tl_types.specs.declared.message.Body.{Body}
use Rattle.tl_types.specs.declared.message.Body.TheVariants.{AcquireBlock, ProbeBlock, ProbeAck, ProbeAckData, Release, ReleaseData, Grant, GrantData, ReleaseAck, GrantAck}
use Rattle.tl_types.specs.declared.message.Msg.{Msg}

-- ---- what an answer on channel D finds, and what a copy says

abbrev Awaits : Side → List Body → Type 0
Awaits x [] = Unit {0}
Awaits x (Grant cap ∷ rest) = x.acquiring ≡ true
Awaits x (GrantData cap bytes ∷ rest) = x.acquiring ≡ true
Awaits x (ReleaseAck ∷ rest) = x.releasing ≡ true
Awaits x (_ ∷ rest) = Unit {0}

awaits : {last : LineData} {part : Part} {x : Side} → Stands last part x → Awaits x x.d
awaits (Left _ by) = refl
awaits (LeftProbed g) = refl
awaits LeftGranted = refl
awaits (Receives g copy is reader) = refl
awaits Upgrades = refl
awaits _ = tt

abbrev Rests : Side → Type 0
Rests x = (is_some x.copy ≡ false) ⊎ (x.releasing ≡ false)

rests : {last : LineData} {part : Part} {x : Side} → Stands last part x → Rests x
rests (Leaves _ from change carried by is) = inl refl
rests (Left _ by) = inl refl
rests (LeavesProbed g from change carried is) = inl refl
rests (LeftProbed g) = inl refl
rests (LeavesAnswered g from change carried other lowers enough by) = inl refl
rests (LeavesGranted from change carried is) = inl refl
rests LeftGranted = inl refl
rests _ = inr refl

module _ (s : State) (fit : Fits s) (h : ℕ) where
  abbrev n : Node
  n = node_at s h

  abbrev on_line : ℕ → Bool
  on_line l = is_line s.trace.image (line_size s) (length s.views.nodes) l

  abbrev seen_at : ℕ → Side
  seen_at l = side (kit_of n) (known_at (line_at s.views.notes (place_of (line_size s) l)) h) l

  front_awaits : (l : ℕ) (body : Body) (rest : List Msg) → n.queues.d ≡ (record { line = l; body = body }) ∷ rest → Awaits (seen_at l) (body ∷ of_line l rest)
  front_awaits l body rest front = subst (Awaits (seen_at l)) (front_here l n.queues.d body rest front) (awaits ((fit.1.well.kept l on).stands h))
    where
      on : on_line l ≡ true
      on = front_line s.trace.image (line_size s) (length s.views.nodes) (kit_at s) s.views.notes s.views.memory fit.0 h l body (of_line l rest) (λ x. x.d) fit.1.well refl (front_here l n.queues.d body rest front)

  copy_rests : (l : ℕ) → is_some (copy_at n.cache l) ≡ true → set.contains n.cache.releasing l ≡ false
  copy_rests l copied = go (on_line l) refl
    where
      from : Rests (seen_at l) → set.contains n.cache.releasing l ≡ false
      from (inl e) = cc (e, copied)
      from (inr e) = e

      go : (t : Bool) → on_line l ≡ t → set.contains n.cache.releasing l ≡ false
      go true on = from (rests ((fit.1.well.kept l on).stands h))
      go false off = ap (λ (x : Side). x.releasing) (fit.1.well.outside l off h)

-- ---- acts

module _ (s : State) (fit : Fits s) (h : ℕ) (in_h : h < length s.views.nodes) (i : IsFlagged s) where
  abbrev after : ℕ → Body → State
  after l body = taken h (record { line = l; body = body }) s

  released_flagged : (l : ℕ) (body : Body) (bytes : Option LineData) → IsFlagged (after l body) → IsFlagged (on_release h l bytes (after l body))
  released_flagged l body bytes j =
      let s1 : State = after l body in
      let notes = directory.released s1.views.notes (place_of (line_size s1) l) h in
      let noted : State = with_notes notes (with_memory l bytes s1) in
      plain_sent h (record { line = l; body = ReleaseAck }) noted refl refl refl (still_flagged s1 noted (noted_still l bytes notes s1) j)

  delivered_flagged : (l : ℕ) (body : Body) (rest : List Msg) → queue_of (node_at s h).queues (channel_of_body body) ≡ (record { line = l; body = body }) ∷ rest → IsFlagged (handled h l body (after l body))
  delivered_flagged l (AcquireBlock grow) rest front = acquired_keeps IsFlagged still_flagged managed h l grow (after l (AcquireBlock grow)) (plain_taken h _ s refl refl i)
  delivered_flagged l (ProbeBlock cap) rest front = probed_flagged s h in_h i (record { line = l; body = ProbeBlock cap }) cap (plain_taken h _ s refl refl i)
  delivered_flagged l (ProbeAck change) rest front = acknowledged IsFlagged still_flagged managed h l change None (after l (ProbeAck change)) (plain_taken h _ s refl refl i)
  delivered_flagged l (ProbeAckData change bytes) rest front = acknowledged IsFlagged still_flagged managed h l change (Some bytes) (after l (ProbeAckData change bytes)) (plain_taken h _ s refl refl i)
  delivered_flagged l (Release change) rest front = released_flagged l (Release change) None (plain_taken h _ s refl refl i)
  delivered_flagged l (ReleaseData change bytes) rest front = released_flagged l (ReleaseData change bytes) (Some bytes) (plain_taken h _ s refl refl i)
  delivered_flagged l (Grant cap) rest front = granted_flagged s h in_h i (record { line = l; body = Grant cap }) cap None refl refl (front_awaits s fit h l (Grant cap) rest front)
  delivered_flagged l (GrantData cap bytes) rest front = granted_flagged s h in_h i (record { line = l; body = GrantData cap bytes }) cap (Some bytes) refl refl (front_awaits s fit h l (GrantData cap bytes) rest front)
  delivered_flagged l ReleaseAck rest front = rested_flagged s h in_h i (record { line = l; body = ReleaseAck }) refl refl (front_awaits s fit h l ReleaseAck rest front)
  delivered_flagged l GrantAck rest front = still_flagged (after l GrantAck) _ (same_nodes (after l GrantAck) _ refl refl) (plain_taken h _ s refl refl i)

abbrev pub Known : State → Type 0
Known s = Fits s × IsInOrder s

pub known : (s : State) (e : Event) → Known s → Known (happens s e)
known s e g = (happens_fits s e g.0, happens_order s e g.1)

flagged : (s : State) (e : Event) (a : Act) → IsMove s e a → Known s → IsFlagged s → IsFlagged (acted (hart_of e) a s)
flagged s e (act.Miss line grow) k g i = missed_flagged s (hart_of e) k.in_h i line grow k.rests.2.answer
flagged s e (act.Evict line) k g i =
    let is = k.rests.1 in
    given_up_flagged s (hart_of e) k.in_h i line is.0 is.1 is.2 (copy_rests s g.0 (hart_of e) line (evicted_says (node_at s (hart_of e)).cache line is.0 is.1 is.2).held)
flagged s e (act.Deliver m) k g i =
    let front = front_of_move s g.1 e m k in
    delivered_flagged s g.0 (hart_of e) k.in_h i m.line m.body front.0 front.1
flagged s e a k g i = still_flagged s _ (alone_still (hart_of e) a s tt) i

acts : (s : State) (e : Event) (a : Act) → IsMove s e a → Known s → IsFlagged s → IsFlagged (after_act s e a)
acts s e a k g i = let next = acted (hart_of e) a s in still_flagged next (counted next) (same_nodes next (counted next) refl refl) (flagged s e a k g i)

pub happens_flagged : (s : State) (e : Event) → Known s → IsFlagged s → IsFlagged (happens s e)
happens_flagged s e g i = happens_keeps Known IsFlagged known acts s e g i

-- nothing is outstanding at reset
pub opening_flagged : (image : Initial) (config : Config) → IsFlagged (opening image config)
opening_flagged image config = record {
  asked = λ k l d in_k. plus_none 0 0 _ refl (ap (λ (n : Node). bit (set.contains n.cache.acquiring l)) (fresh k d in_k) ∙ ap bit (contains-empty nat_cmp l));
  left = λ k l d in_k. plus_none 0 0 _ refl (ap (λ (n : Node). bit (set.contains n.cache.releasing l)) (fresh k d in_k) ∙ ap bit (contains-empty nat_cmp l));
  each = λ h m before rest e. absurd (no_last before rest _ e);
}
  where
    fresh : (k : ℕ) (d : Node) → k < length (opening image config).views.nodes → slice_index_or (opening image config).views.nodes k d ≡ opening_node image config k
    fresh k d in_k =
        let within : k < config.harts = subst (λ n. k < n) (length-map-range_with_len (opening_node image config) 0 config.harts) in_k in
        get_or-map-range_with_len (opening_node image config) 0 config.harts k k d within (omega arith)

-- ---- the law

may : (body : Body) (h l : ℕ) (log : List _) → is_due body h l log ≡ true → is_free body h l log ≡ true → not (is_probe_or_grant body) ≡ true → may_send body h l log ≡ true
may (AcquireBlock grow) h l log due free is = free
may (ProbeAck change) h l log due free is = and_from _ _ due free
may (ProbeAckData change bytes) h l log due free is = and_from _ _ due free
may (Release change) h l log due free is = free
may (ReleaseData change bytes) h l log due free is = free
may ReleaseAck h l log due free is = due
may GrantAck h l log due free is = due
may _ h l log due free is = cc is

pub others_lawful_always : OthersLawfulAlways
others_lawful_always image config events is h m before rest e other =
    may m.body h m.line before (answers_due_always image config events is h m before rest e)
    ((events_keep Known IsFlagged known acts events (opening image config) (opening_fits image config is.legal_size.whole_pages, opening_order image config) (opening_flagged image config)).each h m before rest e) other
