-- A message keeps a rule with all its bytes exactly where it does so with those of each half.
use Rattle.std.proofs.Common.{ℕ, ◌+◌, Bool, true, false, List, [], ◌∷◌, ◌≡◌, ◌∙◌, Option, Some, None, ap, length, map, refl, subst, sym}
use Rattle.std.specs.Prelude.{◌&&◌, ◌==◌, ◌≢◌, if◌then◌else◌, not, option_map, slice_get}
use Rattle.std.specs.List.{cons_option}
use Rattle.std.specs.Option.{option_or}
use Rattle.std.proofs.lemmas.List.{length-map}
use Rattle.std.proofs.lemmas.Option.{slice_get-map}
use Rattle.coherent_log.specs.Rules as coherent
use Rattle.coherent_log.specs.Rules.{IsDataAsked, IsDataKept, IsOneWriter, IsPermissionHeld, IsProbeObeyed, perm_in}
use Rattle.coherent_log.specs.Told as copies
use Rattle.coherent_log.specs.Told.{brought, brought_at, brought_of, client_of, latest_from, tells_bytes}
use Rattle.coherent_log.specs.declared.clients.ClientLog.{ClientLog}
use Rattle.coherent_log.specs.declared.clients.Probed.{Probed}
use Rattle.coherent_log.specs.declared.lines.Brought.{Brought}
use Rattle.coherent_log.specs.declared.rule.CoherenceRule.{CoherenceRule}
use Rattle.coherent_log.specs.declared.rule.CoherenceRule.TheVariants.{PermissionHeld, ProbeObeyed, OneWriter, DataAsked, DataKept}
use Rattle.lawful_log.specs.Rules as lawful
use Rattle.lawful_log.specs.declared.profile.Profile.{Profile}
use Rattle.lawful_log.specs.declared.rule.LogRule.{LogRule}
use Rattle.lawful_log.specs.declared.rule.LogRule.TheVariants.{InOrder, Question, Permission, Data, AcquireOnce, ProbeOnce, GrantAlone, ReleaseAlone}
use Rattle.machine_model.specs.LawfulLog.{is_on, is_sent, sent_on, taken_on}
use Rattle.parted_judge.specs.Rules.{ComesInOrder, GoesWithKept, IsWholeFront, IsWholeKept, KeepsWide, ObeysWide, both, last_brought, whole_brought, whole_of, whole_sent_on, whole_taken_on}
use Rattle.tl_types.specs.Message.{channel_of, channel_of_body}
use Rattle.tl_types.specs.declared.line.LineData.{LineData}
use Rattle.tl_types.specs.declared.message.Body.{Body}
use Rattle.tl_types.specs.declared.message.Body.TheVariants.{AcquireBlock, ProbeBlock, ProbeAck, ProbeAckData, Release, ReleaseData, Grant, GrantData, ReleaseAck, GrantAck}
use Rattle.tl_types.specs.declared.message.Channel.{Channel}
use Rattle.tl_types.specs.declared.message.Msg.{Msg}
use Rattle.trace_recorder.specs.declared.logged.Direction.{Direction}
use Rattle.trace_recorder.specs.declared.logged.Direction.TheVariants.{Sent, Taken}
use Rattle.wide_logs.specs.Entries.{first_of, second_of, with_bytes}
use Rattle.wide_logs.specs.declared.entry.WideLogged.{WideLogged}
use Rattle.parted_judge.proofs.Alike.{blind, client_alike, going_alike}

-- ---- queues

put_first : (b : Bool) (w : Msg × Msg) (ws : List (Msg × Msg)) (ms : List Msg) → ms ≡ map (λ (p : Msg × Msg). p.0) ws → cons_option (if b then Some w.0 else None) ms ≡ map (λ (p : Msg × Msg). p.0) (cons_option (if b then Some w else None) ws)
put_first true w ws ms is = ap (λ l. w.0 ∷ l) is
put_first false w ws ms is = is

put_second : (b : Bool) (w : Msg × Msg) (ws : List (Msg × Msg)) (ms : List Msg) → ms ≡ map (λ (p : Msg × Msg). p.1) ws → cons_option (if b then Some w.1 else None) ms ≡ map (λ (p : Msg × Msg). p.1) (cons_option (if b then Some w else None) ws)
put_second true w ws ms is = ap (λ l. w.1 ∷ l) is
put_second false w ws ms is = is

channel_alike : (e : WideLogged) → channel_of (second_of e).message ≡ channel_of e.first.message
channel_alike e = blind channel_of_body (λ c a b. refl) (λ c a b. refl) (λ c a b. refl) e.first.message.body e.second

module _ (c : Channel) (h : ℕ) where
  sent_first : (log : List WideLogged) → sent_on c h (map first_of log) ≡ map (λ (p : Msg × Msg). p.0) (whole_sent_on c h log)
  sent_first [] = refl
  sent_first (e ∷ log) = put_first (is_sent e.first.direction && e.first.hart == h && is_on c (channel_of e.first.message)) (whole_of e) (whole_sent_on c h log) (sent_on c h (map first_of log)) (sent_first log)

  taken_first : (log : List WideLogged) → taken_on c h (map first_of log) ≡ map (λ (p : Msg × Msg). p.0) (whole_taken_on c h log)
  taken_first [] = refl
  taken_first (e ∷ log) = put_first (not (is_sent e.first.direction) && e.first.hart == h && is_on c (channel_of e.first.message)) (whole_of e) (whole_taken_on c h log) (taken_on c h (map first_of log)) (taken_first log)

  sent_second : (log : List WideLogged) → sent_on c h (map second_of log) ≡ map (λ (p : Msg × Msg). p.1) (whole_sent_on c h log)
  sent_second [] = refl
  sent_second (e ∷ log) =
      ap (λ (k : Channel). cons_option (if is_sent e.first.direction && e.first.hart == h && is_on c k then Some (second_of e).message else None) (sent_on c h (map second_of log))) (channel_alike e)
      ∙ put_second (is_sent e.first.direction && e.first.hart == h && is_on c (channel_of e.first.message)) (whole_of e) (whole_sent_on c h log) (sent_on c h (map second_of log)) (sent_second log)

  taken_second : (log : List WideLogged) → taken_on c h (map second_of log) ≡ map (λ (p : Msg × Msg). p.1) (whole_taken_on c h log)
  taken_second [] = refl
  taken_second (e ∷ log) =
      ap (λ (k : Channel). cons_option (if not (is_sent e.first.direction) && e.first.hart == h && is_on c k then Some (second_of e).message else None) (taken_on c h (map second_of log))) (channel_alike e)
      ∙ put_second (not (is_sent e.first.direction) && e.first.hart == h && is_on c (channel_of e.first.message)) (whole_of e) (whole_taken_on c h log) (taken_on c h (map second_of log)) (taken_second log)

at_front : (v : Msg × Msg → Msg) (sent taken : List Msg) (whole gone : List (Msg × Msg)) → sent ≡ map v whole → taken ≡ map v gone → slice_get sent (length taken) ≡ option_map v (slice_get whole (length gone))
at_front v sent taken whole gone is was = (λ i. slice_get (is i) (length (was i))) ∙ ap (slice_get (map v whole)) (length-map gone v) ∙ slice_get-map v whole (length gone)

module _ (e : WideLogged) (log : List WideLogged) where
  -- what stands in front of its queue, whole
  abbrev front : Option (Msg × Msg)
  front = slice_get (whole_sent_on (channel_of e.first.message) e.first.hart log) (length (whole_taken_on (channel_of e.first.message) e.first.hart log))

  first_front : slice_get (sent_on (channel_of e.first.message) e.first.hart (map first_of log)) (length (taken_on (channel_of e.first.message) e.first.hart (map first_of log))) ≡ option_map (λ (p : Msg × Msg). p.0) front
  first_front =
      at_front (λ p. p.0) (sent_on (channel_of e.first.message) e.first.hart (map first_of log)) (taken_on (channel_of e.first.message) e.first.hart (map first_of log))
      (whole_sent_on (channel_of e.first.message) e.first.hart log) (whole_taken_on (channel_of e.first.message) e.first.hart log)
      (sent_first (channel_of e.first.message) e.first.hart log) (taken_first (channel_of e.first.message) e.first.hart log)

  second_front : slice_get (sent_on (channel_of (second_of e).message) e.first.hart (map second_of log)) (length (taken_on (channel_of (second_of e).message) e.first.hart (map second_of log))) ≡ option_map (λ (p : Msg × Msg). p.1) front
  second_front =
      ap (λ (c : Channel). slice_get (sent_on c e.first.hart (map second_of log)) (length (taken_on c e.first.hart (map second_of log)))) (channel_alike e)
      ∙ at_front (λ p. p.1) (sent_on (channel_of e.first.message) e.first.hart (map second_of log)) (taken_on (channel_of e.first.message) e.first.hart (map second_of log))
      (whole_sent_on (channel_of e.first.message) e.first.hart log) (whole_taken_on (channel_of e.first.message) e.first.hart log)
      (sent_second (channel_of e.first.message) e.first.hart log) (taken_second (channel_of e.first.message) e.first.hart log)

  comes_first : IsWholeFront e log → lawful.IsFront e.first.hart e.first.message (map first_of log)
  comes_first whole = first_front ∙ ap (option_map (λ (p : Msg × Msg). p.0)) whole

  comes_second : IsWholeFront e log → lawful.IsFront e.first.hart (second_of e).message (map second_of log)
  comes_second whole = second_front ∙ ap (option_map (λ (p : Msg × Msg). p.1)) whole

  comes_whole : lawful.IsFront e.first.hart e.first.message (map first_of log) → lawful.IsFront e.first.hart (second_of e).message (map second_of log) → IsWholeFront e log
  comes_whole one two = go front (sym first_front ∙ one) (sym second_front ∙ two)
    where
      go : (o : Option (Msg × Msg)) → option_map (λ (p : Msg × Msg). p.0) o ≡ Some e.first.message → option_map (λ (p : Msg × Msg). p.1) o ≡ Some (second_of e).message → o ≡ Some (whole_of e)
      go None one two = cc one
      go (Some p) one two = let a : p.0 ≡ e.first.message = cc one in let b : p.1 ≡ (second_of e).message = cc two in λ i. Some (a i, b i)

-- ---- the rules of the lawful log

module _ (profile : Profile) (log : List WideLogged) (e : WideLogged) where
  ordered_first : (d : Direction) → ComesInOrder d e log → lawful.KeepsGoing profile d InOrder e.first.hart e.first.message (map first_of log)
  ordered_first Sent keeps = refl
  ordered_first Taken keeps = comes_first e log keeps

  ordered_second : (d : Direction) → ComesInOrder d e log → lawful.KeepsGoing profile d InOrder e.first.hart (second_of e).message (map second_of log)
  ordered_second Sent keeps = refl
  ordered_second Taken keeps = comes_second e log keeps

  ordered_whole : (d : Direction) → lawful.KeepsGoing profile d InOrder e.first.hart e.first.message (map first_of log) → lawful.KeepsGoing profile d InOrder e.first.hart (second_of e).message (map second_of log) → ComesInOrder d e log
  ordered_whole Sent one two = tt
  ordered_whole Taken one two = comes_whole e log one two

  goes_second : (rule : LogRule) → lawful.KeepsGoing profile Sent rule e.first.hart e.first.message (map first_of log) → lawful.KeepsGoing profile Sent rule e.first.hart (second_of e).message (map second_of log)
  goes_second rule keeps = going_alike profile e.first.hart e.first.message.line log rule e.first.message.body e.second ∙ keeps

  pub obeys_first : (rule : LogRule) → ObeysWide profile rule log e → lawful.Obeys profile rule (map first_of log) (first_of e)
  obeys_first InOrder keeps = ordered_first e.first.direction keeps
  obeys_first Question keeps = keeps
  obeys_first Permission keeps = keeps
  obeys_first Data keeps = keeps
  obeys_first AcquireOnce keeps = keeps
  obeys_first ProbeOnce keeps = keeps
  obeys_first GrantAlone keeps = keeps
  obeys_first ReleaseAlone keeps = keeps

  -- a message that is taken keeps each other rule
  other_second : (d : Direction) (rule : LogRule) → lawful.KeepsGoing profile d rule e.first.hart e.first.message (map first_of log) → rule ≢ InOrder → lawful.KeepsGoing profile d rule e.first.hart (second_of e).message (map second_of log)
  other_second Sent rule keeps other = goes_second rule keeps
  other_second Taken InOrder keeps other = absurd (other refl)
  other_second Taken Question keeps other = refl
  other_second Taken Permission keeps other = refl
  other_second Taken Data keeps other = refl
  other_second Taken AcquireOnce keeps other = refl
  other_second Taken ProbeOnce keeps other = refl
  other_second Taken GrantAlone keeps other = refl
  other_second Taken ReleaseAlone keeps other = refl

  pub obeys_second : (rule : LogRule) → ObeysWide profile rule log e → lawful.Obeys profile rule (map second_of log) (second_of e)
  obeys_second InOrder keeps = ordered_second e.first.direction keeps
  obeys_second Question keeps = other_second e.first.direction Question keeps (λ same. cc same)
  obeys_second Permission keeps = other_second e.first.direction Permission keeps (λ same. cc same)
  obeys_second Data keeps = other_second e.first.direction Data keeps (λ same. cc same)
  obeys_second AcquireOnce keeps = other_second e.first.direction AcquireOnce keeps (λ same. cc same)
  obeys_second ProbeOnce keeps = other_second e.first.direction ProbeOnce keeps (λ same. cc same)
  obeys_second GrantAlone keeps = other_second e.first.direction GrantAlone keeps (λ same. cc same)
  obeys_second ReleaseAlone keeps = other_second e.first.direction ReleaseAlone keeps (λ same. cc same)

  pub obeys_whole : (rule : LogRule) → lawful.Obeys profile rule (map first_of log) (first_of e) → lawful.Obeys profile rule (map second_of log) (second_of e) → ObeysWide profile rule log e
  obeys_whole InOrder one two = ordered_whole e.first.direction one two
  obeys_whole Question one two = one
  obeys_whole Permission one two = one
  obeys_whole Data one two = one
  obeys_whole AcquireOnce one two = one
  obeys_whole ProbeOnce one two = one
  obeys_whole GrantAlone one two = one
  obeys_whole ReleaseAlone one two = one

-- ---- the line's bytes

-- the bytes of both halves, as the same entry told them last
abbrev pub AreBoth : Option Brought → Option Brought → Option (LineData × LineData) → Type 0
AreBoth None None None = Unit {0}
AreBoth (Some one) (Some two) (Some kept) = (one.bytes ≡ kept.0) × (two.bytes ≡ kept.1) × (one.index ≡ two.index)
AreBoth _ _ _ = ⊥

both_same : (i : ℕ) (o : Option LineData) → AreBoth (brought_at i o) (brought_at i o) (both o o)
both_same i None = tt
both_same i (Some bytes) = (refl, refl, refl)

both_told : (i : ℕ) (d : Direction) (body : Body) (bytes : Option LineData) → AreBoth (brought_at i (brought d body)) (brought_at i (brought d (with_bytes body bytes))) (both (brought d body) (brought d (with_bytes body bytes)))
both_told i d body None = both_same i (brought d body)
both_told i Sent (AcquireBlock grow) (Some new) = tt
both_told i Sent (ProbeBlock cap) (Some new) = tt
both_told i Sent (ProbeAck change) (Some new) = tt
both_told i Sent (ProbeAckData change old) (Some new) = tt
both_told i Sent (Release change) (Some new) = tt
both_told i Sent (ReleaseData change old) (Some new) = tt
both_told i Sent (Grant cap) (Some new) = tt
both_told i Sent (GrantData cap old) (Some new) = (refl, refl, refl)
both_told i Sent ReleaseAck (Some new) = tt
both_told i Sent GrantAck (Some new) = tt
both_told i Taken (AcquireBlock grow) (Some new) = tt
both_told i Taken (ProbeBlock cap) (Some new) = tt
both_told i Taken (ProbeAck change) (Some new) = tt
both_told i Taken (ProbeAckData change old) (Some new) = (refl, refl, refl)
both_told i Taken (Release change) (Some new) = tt
both_told i Taken (ReleaseData change old) (Some new) = (refl, refl, refl)
both_told i Taken (Grant cap) (Some new) = tt
both_told i Taken (GrantData cap old) (Some new) = tt
both_told i Taken ReleaseAck (Some new) = tt
both_told i Taken GrantAck (Some new) = tt

both_if : (w : Bool) (one two : Option Brought) (kept : Option (LineData × LineData)) → AreBoth one two kept → AreBoth (if w then one else None) (if w then two else None) (if w then kept else None)
both_if true one two kept are = are
both_if false one two kept are = tt

both_or : (one two new newer : Option Brought) (kept keep : Option (LineData × LineData)) → AreBoth one two kept → AreBoth new newer keep → AreBoth (option_or one new) (option_or two newer) (option_or kept keep)
both_or None None new newer None keep are later = later
both_or (Some one) (Some two) new newer (Some kept) keep are later = are
both_or None None new newer (Some kept) keep are later = absurd are
both_or None (Some two) new newer kept keep are later = absurd are
both_or (Some one) None new newer kept keep are later = absurd are
both_or (Some one) (Some two) new newer None keep are later = absurd are

both_latest : (i line : ℕ) (log : List WideLogged) → AreBoth (latest_from i (tells_bytes line) (map first_of log)) (latest_from i (tells_bytes line) (map second_of log)) (last_brought line log)
both_latest i line [] = tt
both_latest i line (e ∷ log) =
    both_or (latest_from (i + 1) (tells_bytes line) (map first_of log)) (latest_from (i + 1) (tells_bytes line) (map second_of log)) (tells_bytes line i (first_of e)) (tells_bytes line i (second_of e)) (last_brought line log) (whole_brought line e)
    (both_latest (i + 1) line log)
    (both_if (copies.is_of_line line e.first) (brought_at i (brought e.first.direction e.first.message.body)) (brought_at i (brought e.first.direction (second_of e).message.body)) (both (brought e.first.direction e.first.message.body) (brought e.first.direction (second_of e).message.body))
    (both_told i e.first.direction e.first.message.body e.second))

pub both_brought : (line : ℕ) (log : List WideLogged) → AreBoth (brought_of line (map first_of log)) (brought_of line (map second_of log)) (last_brought line log)
both_brought line log = both_latest 0 line log

-- ---- data-kept

module _ (line : ℕ) where
  kept_first : (body : Body) (bytes : Option LineData) (one two : Option Brought) (kept : Option (LineData × LineData)) → AreBoth one two kept → IsWholeKept body (with_bytes body bytes) kept → IsDataKept body None line one
  kept_first (AcquireBlock grow) bytes one two kept are keeps = tt
  kept_first (ProbeBlock cap) bytes one two kept are keeps = tt
  kept_first (ProbeAck change) bytes one two kept are keeps = tt
  kept_first (ProbeAckData change old) bytes one two kept are keeps = tt
  kept_first (Release change) bytes one two kept are keeps = tt
  kept_first (ReleaseData change old) bytes one two kept are keeps = tt
  kept_first (Grant cap) bytes one two kept are keeps = tt
  kept_first ReleaseAck bytes one two kept are keeps = tt
  kept_first GrantAck bytes one two kept are keeps = tt
  kept_first (GrantData cap old) bytes None two kept are keeps = tt
  kept_first (GrantData cap old) None (Some one) (Some two) (Some kept) are keeps = keeps.0 ∙ sym are.0
  kept_first (GrantData cap old) (Some new) (Some one) (Some two) (Some kept) are keeps = keeps.0 ∙ sym are.0
  kept_first (GrantData cap old) bytes (Some one) None kept are keeps = absurd are
  kept_first (GrantData cap old) bytes (Some one) (Some two) None are keeps = absurd are

  kept_second : (body : Body) (bytes : Option LineData) (one two : Option Brought) (kept : Option (LineData × LineData)) → AreBoth one two kept → IsWholeKept body (with_bytes body bytes) kept → IsDataKept (with_bytes body bytes) None line two
  kept_second (AcquireBlock grow) None one two kept are keeps = tt
  kept_second (AcquireBlock grow) (Some new) one two kept are keeps = tt
  kept_second (ProbeBlock cap) None one two kept are keeps = tt
  kept_second (ProbeBlock cap) (Some new) one two kept are keeps = tt
  kept_second (ProbeAck change) None one two kept are keeps = tt
  kept_second (ProbeAck change) (Some new) one two kept are keeps = tt
  kept_second (ProbeAckData change old) None one two kept are keeps = tt
  kept_second (ProbeAckData change old) (Some new) one two kept are keeps = tt
  kept_second (Release change) None one two kept are keeps = tt
  kept_second (Release change) (Some new) one two kept are keeps = tt
  kept_second (ReleaseData change old) None one two kept are keeps = tt
  kept_second (ReleaseData change old) (Some new) one two kept are keeps = tt
  kept_second (Grant cap) None one two kept are keeps = tt
  kept_second (Grant cap) (Some new) one two kept are keeps = tt
  kept_second ReleaseAck None one two kept are keeps = tt
  kept_second ReleaseAck (Some new) one two kept are keeps = tt
  kept_second GrantAck None one two kept are keeps = tt
  kept_second GrantAck (Some new) one two kept are keeps = tt
  kept_second (GrantData cap old) None one None kept are keeps = tt
  kept_second (GrantData cap old) (Some new) one None kept are keeps = tt
  kept_second (GrantData cap old) None (Some one) (Some two) (Some kept) are keeps = keeps.1 ∙ sym are.1
  kept_second (GrantData cap old) (Some new) (Some one) (Some two) (Some kept) are keeps = keeps.1 ∙ sym are.1
  kept_second (GrantData cap old) bytes None (Some two) kept are keeps = absurd are
  kept_second (GrantData cap old) bytes (Some one) (Some two) None are keeps = absurd are

  kept_whole : (body : Body) (bytes : Option LineData) (one two : Option Brought) (kept : Option (LineData × LineData)) → AreBoth one two kept → IsDataKept body None line one → IsDataKept (with_bytes body bytes) None line two → IsWholeKept body (with_bytes body bytes) kept
  kept_whole (AcquireBlock grow) bytes one two kept are first second = tt
  kept_whole (ProbeBlock cap) bytes one two kept are first second = tt
  kept_whole (ProbeAck change) bytes one two kept are first second = tt
  kept_whole (ProbeAckData change old) bytes one two kept are first second = tt
  kept_whole (Release change) bytes one two kept are first second = tt
  kept_whole (ReleaseData change old) bytes one two kept are first second = tt
  kept_whole (Grant cap) bytes one two kept are first second = tt
  kept_whole ReleaseAck bytes one two kept are first second = tt
  kept_whole GrantAck bytes one two kept are first second = tt
  kept_whole (GrantData cap old) None one two None are first second = tt
  kept_whole (GrantData cap old) (Some new) one two None are first second = tt
  kept_whole (GrantData cap old) None (Some one) (Some two) (Some kept) are first second = (first ∙ are.0, second ∙ are.1)
  kept_whole (GrantData cap old) (Some new) (Some one) (Some two) (Some kept) are first second = (first ∙ are.0, second ∙ are.1)
  kept_whole (GrantData cap old) bytes None None (Some kept) are first second = absurd are
  kept_whole (GrantData cap old) bytes None (Some two) (Some kept) are first second = absurd are
  kept_whole (GrantData cap old) bytes (Some one) None (Some kept) are first second = absurd are

-- ---- the rules of the coherent log

module _ (log : List WideLogged) (e : WideLogged) where
  going_first : (d : Direction) → GoesWithKept d e log → coherent.KeepsGoing d DataKept None e.first.hart e.first.message.line e.first.message.body (map first_of log)
  going_first Sent keeps = kept_first e.first.message.line e.first.message.body e.second (brought_of e.first.message.line (map first_of log)) (brought_of e.first.message.line (map second_of log)) (last_brought e.first.message.line log) (both_brought e.first.message.line log) keeps
  going_first Taken keeps = tt

  going_second : (d : Direction) → GoesWithKept d e log → coherent.KeepsGoing d DataKept None e.first.hart e.first.message.line (second_of e).message.body (map second_of log)
  going_second Sent keeps = kept_second e.first.message.line e.first.message.body e.second (brought_of e.first.message.line (map first_of log)) (brought_of e.first.message.line (map second_of log)) (last_brought e.first.message.line log) (both_brought e.first.message.line log) keeps
  going_second Taken keeps = tt

  going_whole : (d : Direction) → coherent.KeepsGoing d DataKept None e.first.hart e.first.message.line e.first.message.body (map first_of log) → coherent.KeepsGoing d DataKept None e.first.hart e.first.message.line (second_of e).message.body (map second_of log) → GoesWithKept d e log
  going_whole Sent one two = kept_whole e.first.message.line e.first.message.body e.second (brought_of e.first.message.line (map first_of log)) (brought_of e.first.message.line (map second_of log)) (last_brought e.first.message.line log) (both_brought e.first.message.line log) one two
  going_whole Taken one two = tt

  -- what each client has is the same
  clients_alike : ◌≡◌ {A = ℕ → ClientLog} (λ k. client_of k e.first.message.line (map second_of log)) (λ k. client_of k e.first.message.line (map first_of log))
  clients_alike = λ i k. client_alike k e.first.message.line log i

  abbrev Told : (CoherenceRule → (ℕ → ClientLog) → Body → Option Brought → Type 0)
  Told rule clients body kept = coherent.MayGoBy rule None e.first.hart e.first.message.line body clients kept

  told_blind : (rule : CoherenceRule) → rule ≢ DataKept → (clients : ℕ → ClientLog) (kept other : Option Brought) → Told rule clients (second_of e).message.body kept ≡ Told rule clients e.first.message.body other
  told_blind PermissionHeld other_rule clients kept other = blind (λ b. IsPermissionHeld b (perm_in (clients e.first.hart).held)) (λ c a b. refl) (λ c a b. refl) (λ c a b. refl) e.first.message.body e.second
  told_blind ProbeObeyed other_rule clients kept other = probe_blind (clients e.first.hart).probe
    where
      probe_blind : (p : Option Probed) → IsProbeObeyed (second_of e).message.body (perm_in (clients e.first.hart).held) p ≡ IsProbeObeyed e.first.message.body (perm_in (clients e.first.hart).held) p
      probe_blind None = blind (λ b. IsProbeObeyed b (perm_in (clients e.first.hart).held) None) (λ c a b. refl) (λ c a b. refl) (λ c a b. refl) e.first.message.body e.second
      probe_blind (Some p) = blind (λ b. IsProbeObeyed b (perm_in (clients e.first.hart).held) (Some p)) (λ c a b. refl) (λ c a b. refl) (λ c a b. refl) e.first.message.body e.second
  told_blind OneWriter other_rule clients kept other = blind (λ b. IsOneWriter b e.first.hart (λ k. perm_in (clients k).noted)) (λ c a b. refl) (λ c a b. refl) (λ c a b. refl) e.first.message.body e.second
  told_blind DataAsked other_rule clients kept other = blind (λ b. IsDataAsked b (perm_in (clients e.first.hart).held)) (λ c a b. refl) (λ c a b. refl) (λ c a b. refl) e.first.message.body e.second
  told_blind DataKept other_rule clients kept other = absurd (other_rule refl)

  other_kept : (d : Direction) (rule : CoherenceRule) → rule ≢ DataKept → coherent.KeepsGoing d rule None e.first.hart e.first.message.line e.first.message.body (map first_of log) → coherent.KeepsGoing d rule None e.first.hart e.first.message.line (second_of e).message.body (map second_of log)
  other_kept Sent rule other_rule keeps =
      subst (λ (T : Type 0). T) (sym (ap (λ (clients : ℕ → ClientLog). Told rule clients (second_of e).message.body (brought_of e.first.message.line (map second_of log))) clients_alike
      ∙ told_blind rule other_rule (λ k. client_of k e.first.message.line (map first_of log)) (brought_of e.first.message.line (map second_of log)) (brought_of e.first.message.line (map first_of log)))) keeps
  other_kept Taken rule other_rule keeps = tt

  pub keeps_first : (rule : CoherenceRule) → KeepsWide rule log e → coherent.Keeps rule None (map first_of log) (first_of e)
  keeps_first DataKept keeps = going_first e.first.direction keeps
  keeps_first PermissionHeld keeps = keeps
  keeps_first ProbeObeyed keeps = keeps
  keeps_first OneWriter keeps = keeps
  keeps_first DataAsked keeps = keeps

  pub keeps_second : (rule : CoherenceRule) → KeepsWide rule log e → coherent.Keeps rule None (map second_of log) (second_of e)
  keeps_second DataKept keeps = going_second e.first.direction keeps
  keeps_second PermissionHeld keeps = other_kept e.first.direction PermissionHeld (λ same. cc same) keeps
  keeps_second ProbeObeyed keeps = other_kept e.first.direction ProbeObeyed (λ same. cc same) keeps
  keeps_second OneWriter keeps = other_kept e.first.direction OneWriter (λ same. cc same) keeps
  keeps_second DataAsked keeps = other_kept e.first.direction DataAsked (λ same. cc same) keeps

  pub keeps_whole : (rule : CoherenceRule) → coherent.Keeps rule None (map first_of log) (first_of e) → coherent.Keeps rule None (map second_of log) (second_of e) → KeepsWide rule log e
  keeps_whole DataKept one two = going_whole e.first.direction one two
  keeps_whole PermissionHeld one two = one
  keeps_whole ProbeObeyed one two = one
  keeps_whole OneWriter one two = one
  keeps_whole DataAsked one two = one
