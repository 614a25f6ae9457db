-- The log tells the state after every list of events, and so each message keeps the rules.
use Rattle.std.proofs.Common.{ℕ, zero, suc, ◌-◌, ◌*◌, ◌/◌, ◌%◌, ◌<◌, ◌≤◌, Bool, true, false, List, [], ◌∷◌, ◌++◌, ◌≡◌, Option, Some, None, refl, ap, sym, ◌∙◌, subst, length, take, drop}
use Rattle.std.specs.Prelude.{◌==◌, ◌&&◌, if◌then◌else◌, map, slice_set}
use Rattle.std.specs.FinMap.{get-empty}
use Rattle.std.specs.List.{cons_option, range_with_len}
use Rattle.std.specs.Ordering.{nat_cmp}
use Rattle.std.proofs.lemmas.Bool.{and_parts, cases_lt, eqb-true}
use Rattle.std.proofs.lemmas.List.{get_or-map, get_or_past}
use Rattle.std.proofs.lemmas.List.FromFn.{get_or-map-range_with_len, length-map-range_with_len}
use mathlib.Core.Logic.{◌⊎◌, inl, inr}
use native.Mathlib.Omega.{arith}
use Rattle.backing_memory.specs.Memory as memory
use Rattle.backing_memory.specs.Memory.{lines_of, pieces_of}
use Rattle.client_cache.specs.Cache.{copy_at}
use Rattle.client_cache.specs.Held.{granted_copy, perm_of}
use Rattle.coherent_log.specs.Laws.{IsCoherentLog}
use Rattle.coherent_log.specs.Rules.{IsDataKept, IsOfImage, KeepsGoing}
use Rattle.coherent_log.specs.Told.{brought_of}
use Rattle.coherent_log.specs.declared.lines.Brought.{Brought}
use Rattle.coherent_log.specs.declared.rule.CoherenceRule.{CoherenceRule}
use Rattle.coherent_log.specs.declared.rule.CoherenceRule.TheVariants.{PermissionHeld, ProbeObeyed, OneWriter, DataAsked, DataKept}
use Rattle.directory.specs.Directory.{line_at, quiet}
use Rattle.directory.specs.Lines.{known_at, unknown}
use Rattle.directory.specs.declared.answer.Known.{Known}
use Rattle.elf_loader.specs.Image.{Initial}
use Rattle.elf_loader.specs.Size.{base}
use Rattle.machine_logs.proofs.Copies.{alone_alike, drains_alike, granted_perm, retires_alike, stopped_alike}
use Rattle.machine_logs.proofs.Managing.{acked_told, acquired_told, ended_told, released_told}
use Rattle.machine_logs.proofs.Misses.{asks_from_copy}
use Rattle.machine_logs.proofs.Notes.{Told, alike_told, home_turned, on_at}
use Rattle.machine_logs.proofs.Sides.{given_up_told, granted_told, missed_told, probed_told, rested_told}
use Rattle.machine_logs.proofs.Told.{IsHome, LeavesNothing}
use Rattle.machine_logs.specs.Laws.{LogTellsState, MessagesLawfulAlways, noted_at}
use Rattle.machine_model.proofs.Events.{IsMove, events_keep}
use Rattle.machine_model.proofs.Plans.{IsReady}
use Rattle.machine_model.proofs.coherence.LinePlaces.{IsPiece, piece, place_inside}
use Rattle.machine_model.proofs.coherence.LineStands.{Part, Side, Stands, Upgrades, quiet_side}
use Rattle.machine_model.proofs.coherence.LineViews.{front_here, of_line}
use Rattle.machine_model.proofs.coherence.WorldEvents.{act_fits, deed_may, happens_fits, trunk_may}
use Rattle.machine_model.proofs.coherence.WorldFits.{IsFit, kit_at, kit_of}
use Rattle.machine_model.proofs.coherence.WorldKept.{front_line, side}
use Rattle.machine_model.proofs.coherence.WorldOpening.{opening_fits, same_everywhere}
use Rattle.machine_model.proofs.coherence.WorldSteps.{Fits}
use Rattle.machine_model.proofs.log.Counts.{no_last}
use Rattle.machine_model.proofs.log.Events.{happens_order, opening_order}
use Rattle.machine_model.proofs.log.Fronts.{IsFront, front_of_move}
use Rattle.machine_model.proofs.log.Lists.{goes_in}
use Rattle.machine_model.proofs.log.Queues.{IsInOrder}
use Rattle.machine_model.proofs.log.manager.Always.{log_lawful_always}
use Rattle.machine_model.specs.Changing.{acted}
use Rattle.machine_model.specs.Coherent.{perm_at}
use Rattle.machine_model.specs.Deliveries.{delivered, line_in_memory}
use Rattle.machine_model.specs.Events.{after_events, hart_of, is_piece}
use Rattle.machine_model.specs.LawfulLog.{is_on, is_sent, sent_on, taken_on}
use Rattle.machine_model.specs.Laws.{Always}
use Rattle.machine_model.specs.Views.{Node, State, line_size, no_node, node_at, opening, opening_node, place_of}
use Rattle.machine_model.specs.declared.act.Act.{Act}
use Rattle.machine_model.specs.declared.act.Act.TheVariants as act
use Rattle.machine_types.specs.declared.config.Config.{Config}
use Rattle.machine_types.specs.declared.event.Event.{Event}
use Rattle.tilelink_channels.specs.Queues.{queue_of}
use Rattle.tl_types.specs.Line.{bytes_of, length_of}
use Rattle.tl_types.specs.Message.{channel_of, channel_of_body}
use Rattle.tl_types.specs.Permission.{left_by, named_by}
use Rattle.tl_types.specs.declared.line.LineData.{LineData}
use Rattle.tl_types.specs.declared.line.LineData.TheVariants as data_of
use Rattle.tl_types.specs.declared.line.LineSize.{LineSize}
use Rattle.tl_types.specs.declared.line.LineSize.TheVariants.{Bytes16, Bytes64}
use Rattle.tl_types.specs.declared.message.Body.{Body}
use Rattle.tl_types.specs.declared.message.Body.TheVariants.{AcquireBlock, ProbeBlock, ProbeAck, ProbeAckData, Release, ReleaseData, Grant, GrantData, ReleaseAck, GrantAck}
use Rattle.tl_types.specs.declared.message.Channel.{Channel}
use Rattle.tl_types.specs.declared.message.Msg.{Msg}
use Rattle.tl_types.specs.declared.permission.Perm.TheVariants.{Nothing}
use Rattle.trace_recorder.specs.declared.logged.Direction.{Direction}
use Rattle.trace_recorder.specs.declared.logged.Direction.TheVariants.{Sent, Taken}
use Rattle.trace_recorder.specs.declared.logged.Logged.{Logged}

-- ---- a Release that waits was sent, and leaves nothing

was_sent : (d : Direction) → is_sent d ≡ true → d ≡ Sent
was_sent Sent e = refl
was_sent Taken e = cc e

abbrev SentAt : ℕ → Msg → List Logged → Type 0
SentAt h m log = (before : List Logged) × (rest : List Logged) × (before ++ goes_in h m ∷ rest ≡ log)

sent_at : (c : Channel) (h : ℕ) (log : List Logged) (xs ys : List Msg) (m : Msg) → sent_on c h log ≡ xs ++ m ∷ ys → SentAt h m log
sent_at c h [] xs ys m is = absurd (no_last xs ys m (sym is))
sent_at c h (e ∷ log) xs ys m is = go (λ vs ws q. sent_at c h log vs ws m q) (is_sent e.direction && e.hart == h && is_on c (channel_of e.message)) refl is
  where
    later : ((vs ws : List Msg) → sent_on c h log ≡ vs ++ m ∷ ws → SentAt h m log) → (vs ws : List Msg) → sent_on c h log ≡ vs ++ m ∷ ws → SentAt h m (e ∷ log)
    later rest vs ws q = let found = rest vs ws q in (e ∷ found.0, found.1, ap (λ (l : List Logged). e ∷ l) found.2)

    first : ((vs ws : List Msg) → sent_on c h log ≡ vs ++ m ∷ ws → SentAt h m log) → is_sent e.direction && e.hart == h && is_on c (channel_of e.message) ≡ true → (vs : List Msg) → e.message ∷ sent_on c h log ≡ vs ++ m ∷ ys → SentAt h m (e ∷ log)
    first rest t [] q =
        let parts = and_parts (is_sent e.direction) (e.hart == h) (and_parts (is_sent e.direction && e.hart == h) (is_on c (channel_of e.message)) t).0 in
        let sent : e.direction ≡ Sent = was_sent e.direction parts.0 in
        let hart : e.hart ≡ h = eqb-true e.hart h parts.1 in
        let message : e.message ≡ m = cc q in
        ([], log, λ k. (record { direction = sym sent k; hart = sym hart k; message = sym message k }) ∷ log)
    first rest t (v ∷ vs) q = let others : sent_on c h log ≡ vs ++ m ∷ ys = cc q in later rest vs ys others

    go : ((vs ws : List Msg) → sent_on c h log ≡ vs ++ m ∷ ws → SentAt h m log) → (t : Bool) → is_sent e.direction && e.hart == h && is_on c (channel_of e.message) ≡ t → cons_option (if t then Some e.message else None) (sent_on c h log) ≡ xs ++ m ∷ ys → SentAt h m (e ∷ log)
    go rest true t q = first rest t xs q
    go rest false t q = later rest xs ys q

leaves_nothing : (s : State) → IsInOrder s → Told s → (h : ℕ) → h < length s.views.nodes → (m : Msg) → IsFront (node_at s h) m → LeavesNothing m.body
leaves_nothing s order told h in_h m front =
    let c = channel_of m in
    let found = sent_at c h s.trace.log (taken_on c h s.trace.log) front.0 m (sym (order.waiting c h (no_node s) in_h) ∙ ap (λ (q : List Msg). taken_on c h s.trace.log ++ q) front.1) in
    (told.each h m found.0 found.1 found.2).1

-- ---- a Grant without data finds the copy that it raises

abbrev GrantFinds : Side → List Body → Type 0
GrantFinds x [] = Unit {0}
GrantFinds x (Grant cap ∷ rest) = perm_of (granted_copy cap None x.copy) ≡ named_by cap
GrantFinds x (_ ∷ rest) = Unit {0}

grant_finds : {last : LineData} {part : Part} {x : Side} → Stands last part x → GrantFinds x x.d
grant_finds Upgrades = refl
grant_finds _ = tt

-- ---- acts

module _ (s : State) (last : ℕ → LineData) (i : IsFit s last) (told : Told s) (h : ℕ) (in_h : h < length s.views.nodes) where
  abbrev n : Node
  n = node_at s h

  abbrev Front : ℕ → Body → List Msg → Type 0
  Front l body rest = queue_of n.queues (channel_of_body body) ≡ (record { line = l; body = body }) ∷ rest

  -- the message is about a line of memory
  on : (l : ℕ) (body : Body) (rest : List Msg) (queue : Side → List Body) → queue quiet_side ≡ [] → queue (side (kit_of n) unknown l) ≡ body ∷ of_line l rest → on_at s l ≡ true
  on l body rest queue none front = front_line s.trace.image (line_size s) (length s.views.nodes) (kit_at s) s.views.notes s.views.memory last h l body (of_line l rest) queue i.well none front

  -- that of what arrives on channel C
  on_c : (l : ℕ) (body : Body) (rest : List Msg) → n.queues.c ≡ (record { line = l; body = body }) ∷ rest → on_at s l ≡ true
  on_c l body rest front = on l body rest (λ x. x.c) refl (front_here l n.queues.c body rest front)

  delivered_told : (l : ℕ) (body : Body) (rest : List Msg) → Front l body rest → IsReady s h l body → LeavesNothing body → (later : ℕ → LineData) → IsFit (delivered h (record { line = l; body = body }) s) later → Told (delivered h (record { line = l; body = body }) s)
  delivered_told l (AcquireBlock grow) rest front ready leaves later fit = acquired_told s last i h in_h told l (on l (AcquireBlock grow) rest (λ x. x.a) refl (front_here l n.queues.a (AcquireBlock grow) rest front)) grow later fit
  delivered_told l (ProbeBlock cap) rest front ready leaves later fit = probed_told s h l cap ready.0 ready.1 in_h ready.2 told
  delivered_told l (ProbeAck change) rest front ready leaves later fit =
      acked_told s last i h in_h told l (on_c l (ProbeAck change) rest front) (ProbeAck change) (left_by change) None refl refl refl s.views.memory (λ q there. refl) change refl later fit
  delivered_told l (ProbeAckData change bytes) rest front ready leaves later fit =
      let there = on_c l (ProbeAckData change bytes) rest front in
      acked_told s last i h in_h told l there (ProbeAckData change bytes) (left_by change) (Some bytes) refl refl refl (slice_set s.views.memory (place_of (line_size s) l) bytes) (home_turned s last i l there bytes) change refl later fit
  delivered_told l (Release change) rest front ready leaves later fit =
      released_told s last i h in_h told l (on_c l (Release change) rest front) (Release change) (left_by change) None refl refl refl s.views.memory (λ q there. refl) leaves
  delivered_told l (ReleaseData change bytes) rest front ready leaves later fit =
      let there = on_c l (ReleaseData change bytes) rest front in
      released_told s last i h in_h told l there (ReleaseData change bytes) (left_by change) (Some bytes) refl refl refl (slice_set s.views.memory (place_of (line_size s) l) bytes) (home_turned s last i l there bytes) leaves
  delivered_told l (Grant cap) rest front ready leaves later fit =
      let there = on l (Grant cap) rest (λ x. x.d) refl (front_here l n.queues.d (Grant cap) rest front) in
      let stands = (i.well.kept l there).stands h in
      granted_told s h l cap None (Grant cap) in_h refl refl refl (subst (GrantFinds (side (kit_of n) (known_at (line_at s.views.notes (place_of (line_size s) l)) h) l)) (front_here l n.queues.d (Grant cap) rest front) (grant_finds stands)) told
  delivered_told l (GrantData cap bytes) rest front ready leaves later fit = granted_told s h l cap (Some bytes) (GrantData cap bytes) in_h refl refl refl (granted_perm cap bytes) told
  delivered_told l ReleaseAck rest front ready leaves later fit = rested_told s h l told
  delivered_told l GrantAck rest front ready leaves later fit = ended_told s last i h in_h told l (on l GrantAck rest (λ x. x.e) refl (front_here l n.queues.e GrantAck rest front))

act_told : (s : State) (last : ℕ → LineData) → IsFit s last → IsInOrder s → Told s → (e : Event) (a : Act) → IsMove s e a → Told (acted (hart_of e) a s)
act_told s last i order told e (act.Stop code) m = alike_told s _ (stopped_alike (hart_of e) code s) told
act_told s last i order told e (act.Retire entry j d) m = alike_told s _ (retires_alike s last i (hart_of e) s.views.config.model entry j d (deed_may s last i (hart_of e) entry j d m.rests.1)) told
act_told s last i order told e (act.Miss line grow) m = missed_told s (hart_of e) line grow (asks_from_copy s e (act.Miss line grow) m.planned) told
act_told s last i order told e (act.Drain word) m = alike_told s _ (drains_alike s last i (hart_of e) word (trunk_may s last i (hart_of e) word m.rests.1.trunk)) told
act_told s last i order told e (act.Evict line) m = given_up_told s (hart_of e) line m.rests.1.0 m.rests.1.1 m.in_h m.rests.1.2 told
act_told s last i order told e (act.Deliver msg) m =
    let front = front_of_move s order e msg m in
    delivered_told s last i told (hart_of e) m.in_h msg.line msg.body front.0 front.1 m.rests.2.ready (leaves_nothing s order told (hart_of e) m.in_h msg front) last (act_fits s last i e (act.Deliver msg) m)
act_told s last i order told e (act.Local count) m = alike_told s _ (alone_alike (hart_of e) count s) told

-- ---- at reset

take_all_of : {X : Type 0} (n : ℕ) (xs : List X) → take n xs ≡ take (length (take n xs)) xs
take_all_of zero xs = refl
take_all_of (suc n) [] = refl
take_all_of (suc n) (x ∷ xs) = ap (λ ys. x ∷ ys) (take_all_of n xs)

module _ (image : Initial) (config : Config) where
  abbrev reset : State
  reset = opening image config

  empty_at : (k l : ℕ) → perm_at reset k l ≡ Nothing
  empty_at k l = go (cases_lt k config.harts)
    where
      none : (id : ℕ) → perm_of (copy_at (opening_node image config id).cache l) ≡ Nothing
      none id = ap perm_of (get-empty nat_cmp l)

      go : (k < config.harts) ⊎ (config.harts ≤ k) → perm_at reset k l ≡ Nothing
      go (inl lt) = ap (λ (x : Node). perm_of (copy_at x.cache l)) (get_or-map-range_with_len (opening_node image config) 0 config.harts k k (no_node reset) lt (omega arith)) ∙ none k
      go (inr past) = ap (λ (x : Node). perm_of (copy_at x.cache l)) (get_or_past (map (opening_node image config) (range_with_len 0 config.harts)) k (no_node reset) (rw (length-map-range_with_len (opening_node image config) 0 config.harts) past)) ∙ none 0

  unnoted_at : (k l : ℕ) → noted_at reset k l ≡ Nothing
  unnoted_at k l = ap (λ y. (known_at y k).perm) (same_everywhere _ (quiet config.harts) (place_of (line_size reset) l)) ∙ ap (λ (z : Known). z.perm) (same_everywhere config.harts unknown k)

  -- memory is the image's
  of_image : (size : LineSize) (l : ℕ) → is_piece image l (length_of size) ≡ true → IsOfImage image l (bytes_of (memory.line_data (lines_of size image.bytes) (place_of size l)))
  of_image Bytes16 l there = subst (IsOfImage image l) (sym found) (ap (λ at. take 16 (drop at image.bytes)) whole ∙ take_all_of 16 (drop (l - base) image.bytes) ∙ ap (λ at. take (length (take 16 (drop at image.bytes))) (drop (l - base) image.bytes)) (sym whole))
    where
      p : IsPiece image l 16
      p = piece image l 16 there

      k : ℕ
      k = place_of Bytes16 l

      whole : k * 16 ≡ l - base
      whole = go p.aligned p.low
        where
          go : l % 16 ≡ 0 → 2147483648 ≤ l → (l - 2147483648) / 16 * 16 ≡ l - 2147483648
          go aligned low = omega arith

      inside : k < length image.bytes / 16
      inside = place_inside image Bytes16 l there

      found : bytes_of (memory.line_data (lines_of Bytes16 image.bytes) k) ≡ take 16 (drop (k * 16) image.bytes)
      found = ap bytes_of (get_or-map data_of.Bytes16 (pieces_of 16 image.bytes) k [] memory.no_line (subst (λ n. k < n) (sym (length-map-range_with_len (λ j. take 16 (drop (j * 16) image.bytes)) 0 (length image.bytes / 16))) inside))
          ∙ get_or-map-range_with_len (λ j. take 16 (drop (j * 16) image.bytes)) 0 (length image.bytes / 16) k k [] inside (omega arith)
  of_image Bytes64 l there = subst (IsOfImage image l) (sym found) (ap (λ at. take 64 (drop at image.bytes)) whole ∙ take_all_of 64 (drop (l - base) image.bytes) ∙ ap (λ at. take (length (take 64 (drop at image.bytes))) (drop (l - base) image.bytes)) (sym whole))
    where
      p : IsPiece image l 64
      p = piece image l 64 there

      k : ℕ
      k = place_of Bytes64 l

      whole : k * 64 ≡ l - base
      whole = go p.aligned p.low
        where
          go : l % 64 ≡ 0 → 2147483648 ≤ l → (l - 2147483648) / 64 * 64 ≡ l - 2147483648
          go aligned low = omega arith

      inside : k < length image.bytes / 64
      inside = place_inside image Bytes64 l there

      found : bytes_of (memory.line_data (lines_of Bytes64 image.bytes) k) ≡ take 64 (drop (k * 64) image.bytes)
      found = ap bytes_of (get_or-map data_of.Bytes64 (pieces_of 64 image.bytes) k [] memory.no_line (subst (λ n. k < n) (sym (length-map-range_with_len (λ j. take 64 (drop (j * 64) image.bytes)) 0 (length image.bytes / 64))) inside))
          ∙ get_or-map-range_with_len (λ j. take 64 (drop (j * 64) image.bytes)) 0 (length image.bytes / 64) k k [] inside (omega arith)

  opening_told : Told reset
  opening_told = record {
    clients = λ k l. sym (empty_at k l);
    notes = λ k l there. sym (unnoted_at k l);
    bytes = λ l there. of_image config.line l there;
    each = λ h m before rest is. absurd (no_last before rest (goes_in h m) is);
  }

-- ---- every list of events

-- known already of each state
abbrev Known_of : State → Type 0
Known_of s = Fits s × IsInOrder s

told_always : Always (λ image config s. Told s)
told_always image config events is =
    events_keep Known_of Told (λ s e g. (happens_fits s e g.0, happens_order s e g.1)) (λ s e a m g told. act_told s g.0.0 g.0.1 g.1 told e a m) events (opening image config)
    (opening_fits image config is.legal_size.whole_pages, opening_order image config) (opening_told image config)

-- ---- the rules

coherent : (s : State) → Told s → IsCoherentLog (Some s.trace.image) s.trace.log
coherent s told rule before rest e is = go e.direction e.hart e.message is
  where
    go : (d : Direction) (h : ℕ) (m : Msg) → before ++ (record { direction = d; hart = h; message = m }) ∷ rest ≡ s.trace.log → KeepsGoing d rule (Some s.trace.image) h m.line m.body before
    go Sent h m is = (told.each h m before rest is).0 rule
    go Taken h m is = tt

-- who doesn't know what memory was at the start asks less
unknown_kept : (body : Body) (image : Initial) (line : ℕ) (x : Option Brought) → IsDataKept body (Some image) line x → IsDataKept body None line x
unknown_kept (GrantData cap bytes) image line None is = tt
unknown_kept (GrantData cap bytes) image line (Some b) is = is
unknown_kept _ image line x is = tt

coherent_unknown : (image : Initial) (log : List Logged) → IsCoherentLog (Some image) log → IsCoherentLog None log
coherent_unknown image log all rule before rest e is = go e.direction rule (all rule before rest e is)
  where
    go : (d : Direction) (rule : CoherenceRule) → KeepsGoing d rule (Some image) e.hart e.message.line e.message.body before → KeepsGoing d rule None e.hart e.message.line e.message.body before
    go Taken rule kept = tt
    go Sent PermissionHeld kept = kept
    go Sent ProbeObeyed kept = kept
    go Sent OneWriter kept = kept
    go Sent DataAsked kept = kept
    go Sent DataKept kept = unknown_kept e.message.body image e.message.line (brought_of e.message.line before) kept

pub messages_lawful_always : MessagesLawfulAlways
messages_lawful_always image config events is =
    let s = after_events (opening image config) events in
    let all = coherent s (told_always image config events is) in
    let lawful = log_lawful_always image config events is in
    record { lawful = lawful; coherent = all; coherent_to_all = coherent_unknown s.trace.image s.trace.log all }

pub log_tells_state : LogTellsState
log_tells_state image config events is =
    let s = after_events (opening image config) events in
    let told = told_always image config events is in
    record {
      copies = told.clients;
      notes = told.notes;
      memory = λ line brought there found. subst (λ x. IsHome s.trace.image line x (line_in_memory s line)) found (told.bytes line there);
    }
