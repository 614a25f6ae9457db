-- The verdict in words of whole lines, by those on both halves.
use Rattle.std.proofs.Common.{ℕ, ◌+◌, ◌<◌, ◌≤◌, Bool, true, false, List, ◌≡◌, ◌∙◌, Option, Some, None, ap, arith, map, refl, subst, sym, take}
use Rattle.std.specs.Prelude.{if◌then◌else◌, nat_lt, option_map, slice_get}
use Rattle.std.proofs.lemmas.Option.{slice_get-map}
use Rattle.std.proofs.lemmas.Bool.{ltb-false, ltb-true}
use Rattle.std.proofs.lemmas.List.{take-map, take-take}
use Rattle.coherent_log.specs.Laws as coherence
use Rattle.coherent_log.specs.Laws.{IsCause, IsHolder, index_in, rule_of}
use Rattle.coherent_log.specs.Rules as coherent
use Rattle.coherent_log.specs.Rules.{MayGoBeside, perm_in}
use Rattle.coherent_log.specs.Told.{brought_of, client_of}
use Rattle.coherent_log.specs.declared.clients.ClientLog.{ClientLog}
use Rattle.coherent_log.specs.declared.lines.Brought.{Brought}
use Rattle.coherent_log.specs.declared.rule.CoherenceRule.{CoherenceRule}
use Rattle.coherent_log.specs.declared.rule.CoherenceRule.TheVariants.{PermissionHeld, ProbeObeyed, OneWriter, DataAsked, DataKept}
use Rattle.coherent_log.specs.declared.verdict.Breach.{Breach}
use Rattle.coherent_log.specs.declared.verdict.Breach.TheVariants as causes
use Rattle.lawful_log.specs.Laws as order
use Rattle.lawful_log.specs.Rules as lawful
use Rattle.lawful_log.specs.Rules.{IsLawfulBy, Obeys}
use Rattle.lawful_log.specs.declared.profile.Profile.{Profile}
use Rattle.lawful_log.specs.declared.rule.LogRule.{LogRule}
use Rattle.lawful_log.specs.declared.rule.LogRule.TheVariants.{InOrder, Question, Permission, Data, AcquireOnce, ProbeOnce, GrantAlone, ReleaseAlone}
use Rattle.message_judge.specs.Laws.{AreLawfulMessages, IsFirstFault, IsMessageVerdict}
use Rattle.message_judge.specs.declared.verdict.MessageBreach.{MessageBreach}
use Rattle.message_judge.specs.declared.verdict.MessageBreach.TheVariants.{Incoherent, Unanswered, Unlawful, Unwritten}
use Rattle.message_judge.specs.declared.verdict.MessageVerdict.{MessageVerdict}
use Rattle.message_judge.specs.declared.verdict.MessageVerdict.TheVariants as message
use Rattle.parted_judge.proofs.Alike.{blind, client_alike}
use Rattle.parted_judge.proofs.Splits.{coherent_at, coherent_up_to, half_at, lawful_first, lawful_second, lawful_whole, ordered_at, ordered_up_to}
use Rattle.parted_judge.proofs.Whole.{AreBoth, both_brought, keeps_first, keeps_second, keeps_whole, obeys_first, obeys_second, obeys_whole}
use Rattle.parted_judge.specs.Laws.{IsFirstWideFault, IsWideVerdict}
use Rattle.parted_judge.specs.Parts.{earlier}
use Rattle.parted_judge.specs.Rules.{AreLawfulWide, ComesInOrder, KeepsWide, ObeysWide}
use Rattle.tl_types.specs.declared.line.LineData.{LineData}
use Rattle.tl_types.specs.declared.permission.Perm.{Perm}
use Rattle.trace_recorder.specs.declared.logged.Direction.{Direction}
use Rattle.trace_recorder.specs.declared.logged.Direction.TheVariants.{Sent, Taken}
use Rattle.trace_recorder.specs.declared.logged.Logged.{Logged}
use Rattle.wide_logs.specs.Entries.{first_of, second_of}
use Rattle.wide_logs.specs.declared.entry.WideLogged.{WideLogged}

-- ---- beginnings of both kinds

module _ (profile : Profile) (log : List Logged) where
  messages_up_to : (n : ℕ) → AreLawfulMessages profile None log → AreLawfulMessages profile None (take n log)
  messages_up_to n all = (ordered_up_to log n profile all.0, coherent_up_to log n all.1)

  order_within : (n m : ℕ) → n ≤ m → IsLawfulBy profile (take m log) → IsLawfulBy profile (take n log)
  order_within n m few all = subst (IsLawfulBy profile) (take-take n m log few) (ordered_up_to (take m log) n profile all)

  copies_within : (n m : ℕ) → n ≤ m → coherence.IsCoherentLog None (take m log) → coherence.IsCoherentLog None (take n log)
  copies_within n m few all = subst (coherence.IsCoherentLog None) (take-take n m log few) (coherent_up_to (take m log) n all)

  -- before the first fault all is lawful
  lawful_until : (breach : MessageBreach) (index n : ℕ) → IsFirstFault profile None log breach index → n ≤ index → AreLawfulMessages profile None (take n log)
  lawful_until (Unlawful rule) index n fault few = (order_within n index few fault.0.lawful_before, copies_within n index few fault.1)
  lawful_until (Incoherent breach) index n fault few = (order_within n (index + 1) (omega (arith, few)) fault.1, copies_within n index few fault.0.coherent_before)
  lawful_until Unanswered index n fault few = absurd fault
  lawful_until (Unwritten address) index n fault few = absurd fault

-- ---- a breach at an entry, in both forms

-- what a verdict on a half says of its entry
record OrderedAt (profile : Profile) (f : WideLogged → Logged) (log : List WideLogged) (rule : LogRule) (index : ℕ) : Type 0 where
  entry : WideLogged
  stands : slice_get log index ≡ Some entry
  half : slice_get (map f log) index ≡ Some (f entry)
  lawful_before : IsLawfulBy profile (map f (take index log))
  broken : ¬ Obeys profile rule (map f (take index log)) (f entry)
  first : (r : LogRule) → lawful.rank r < lawful.rank rule → Obeys profile r (map f (take index log)) (f entry)

record CoherentAt (f : WideLogged → Logged) (log : List WideLogged) (breach : Breach) (index : ℕ) : Type 0 where
  entry : WideLogged
  stands : slice_get log index ≡ Some entry
  half : slice_get (map f log) index ≡ Some (f entry)
  coherent_before : coherence.IsCoherentLog None (map f (take index log))
  broken : ¬ coherent.Keeps (rule_of breach) None (map f (take index log)) (f entry)
  first : (r : CoherenceRule) → coherent.rank r < coherent.rank (rule_of breach) → coherent.Keeps r None (map f (take index log)) (f entry)
  cause : IsCause breach (f entry).hart (f entry).message.body (λ k. client_of k (f entry).message.line (map f (take index log))) (brought_of (f entry).message.line (map f (take index log)))

module _ (f : WideLogged → Logged) (log : List WideLogged) (index : ℕ) where
  ordered_breach : (profile : Profile) (rule : LogRule) → order.IsFirstBreach profile (map f log) rule index → OrderedAt profile f log rule index
  ordered_breach profile rule b =
      let found = half_at f log index b.entry b.stands in
      let same : b.entry ≡ f found.0 = sym found.2 in
      let before : take index (map f log) ≡ map f (take index log) = take-map f index log in
      record {
        entry = found.0;
        stands = found.1;
        half = subst (λ (x : Logged). slice_get (map f log) index ≡ Some x) same b.stands;
        lawful_before = subst (IsLawfulBy profile) before b.lawful_before;
        broken = subst (λ (l : List Logged). ¬ Obeys profile rule l (f found.0)) before (subst (λ (x : Logged). ¬ Obeys profile rule (take index (map f log)) x) same b.broken);
        first = λ r low. subst (λ (l : List Logged). Obeys profile r l (f found.0)) before (subst (λ (x : Logged). Obeys profile r (take index (map f log)) x) same (b.first r low));
      }

  coherent_breach : (breach : Breach) → coherence.IsFirstBreach None (map f log) breach index → CoherentAt f log breach index
  coherent_breach breach b =
      let found = half_at f log index b.entry b.stands in
      let same : b.entry ≡ f found.0 = sym found.2 in
      let before : take index (map f log) ≡ map f (take index log) = take-map f index log in
      record {
        entry = found.0;
        stands = found.1;
        half = subst (λ (x : Logged). slice_get (map f log) index ≡ Some x) same b.stands;
        coherent_before = subst (coherence.IsCoherentLog None) before b.coherent_before;
        broken = subst (λ (l : List Logged). ¬ coherent.Keeps (rule_of breach) None l (f found.0)) before (subst (λ (x : Logged). ¬ coherent.Keeps (rule_of breach) None (take index (map f log)) x) same b.broken);
        first = λ r low. subst (λ (l : List Logged). coherent.Keeps r None l (f found.0)) before (subst (λ (x : Logged). coherent.Keeps r None (take index (map f log)) x) same (b.first r low));
        cause = subst (λ (l : List Logged). IsCause breach (f found.0).hart (f found.0).message.body (λ k. client_of k (f found.0).message.line l) (brought_of (f found.0).message.line l)) before
            (subst (λ (x : Logged). IsCause breach x.hart x.message.body (λ k. client_of k x.message.line (take index (map f log))) (brought_of x.message.line (take index (map f log)))) same b.cause);
      }

  -- a half that is lawful further is lawful up to an entry, and at it
  halves_before : (profile : Profile) → AreLawfulMessages profile None (take index (map f log)) → AreLawfulMessages profile None (map f (take index log))
  halves_before profile all = subst (AreLawfulMessages profile None) (take-map f index log) all

  halves_order : (profile : Profile) (e : WideLogged) → slice_get (map f log) index ≡ Some (f e) → IsLawfulBy profile (take (index + 1) (map f log)) → (r : LogRule) → Obeys profile r (map f (take index log)) (f e)
  halves_order profile e stands all r = subst (λ (l : List Logged). Obeys profile r l (f e)) (take-map f index log) (ordered_at (map f log) index (f e) stands profile all r)

  halves_copies : (e : WideLogged) → slice_get (map f log) index ≡ Some (f e) → coherence.IsCoherentLog None (take (index + 1) (map f log)) → (r : CoherenceRule) → coherent.Keeps r None (map f (take index log)) (f e)
  halves_copies e stands all r = subst (λ (l : List Logged). coherent.Keeps r None l (f e)) (take-map f index log) (coherent_at (map f log) index (f e) stands all r)

-- ---- the first half's breach is that of the whole

-- a message that breaks another rule breaks none of order
lower_order : (profile : Profile) (e : WideLogged) (log : List WideLogged) (l : List Logged) (d : Direction) (rule : LogRule) → ¬ lawful.KeepsGoing profile d rule e.first.hart e.first.message l → lawful.rank InOrder < lawful.rank rule → ComesInOrder d e log
lower_order profile e log l Sent rule broken low = tt
lower_order profile e log l Taken InOrder broken low = absurd (omega (arith, low))
lower_order profile e log l Taken Question broken low = absurd (broken refl)
lower_order profile e log l Taken Permission broken low = absurd (broken refl)
lower_order profile e log l Taken Data broken low = absurd (broken refl)
lower_order profile e log l Taken AcquireOnce broken low = absurd (broken refl)
lower_order profile e log l Taken ProbeOnce broken low = absurd (broken refl)
lower_order profile e log l Taken GrantAlone broken low = absurd (broken refl)
lower_order profile e log l Taken ReleaseAlone broken low = absurd (broken refl)

other_order : (e : WideLogged) (log : List WideLogged) (l : List Logged) (d : Direction) (rule : CoherenceRule) → ¬ coherent.KeepsGoing d rule None e.first.hart e.first.message.line e.first.message.body l → ComesInOrder d e log
other_order e log l Sent rule broken = tt
other_order e log l Taken rule broken = absurd (broken tt)

-- data-kept is the last rule
rank_most : (rule : CoherenceRule) → coherent.rank rule ≤ coherent.rank DataKept
rank_most PermissionHeld = omega arith
rank_most ProbeObeyed = omega arith
rank_most OneWriter = omega arith
rank_most DataAsked = omega arith
rank_most DataKept = omega arith

module _ (profile : Profile) (log : List WideLogged) (e : WideLogged) where
  lower_wide : (r rule : LogRule) → ¬ Obeys profile rule (map first_of log) (first_of e) → lawful.rank r < lawful.rank rule → Obeys profile r (map first_of log) (first_of e) → ObeysWide profile r log e
  lower_wide InOrder rule broken low keeps = lower_order profile e log (map first_of log) e.first.direction rule broken low
  lower_wide Question rule broken low keeps = keeps
  lower_wide Permission rule broken low keeps = keeps
  lower_wide Data rule broken low keeps = keeps
  lower_wide AcquireOnce rule broken low keeps = keeps
  lower_wide ProbeOnce rule broken low keeps = keeps
  lower_wide GrantAlone rule broken low keeps = keeps
  lower_wide ReleaseAlone rule broken low keeps = keeps

  order_wide : (r : LogRule) (rule : CoherenceRule) → ¬ coherent.Keeps rule None (map first_of log) (first_of e) → Obeys profile r (map first_of log) (first_of e) → ObeysWide profile r log e
  order_wide InOrder rule broken keeps = other_order e log (map first_of log) e.first.direction rule broken
  order_wide Question rule broken keeps = keeps
  order_wide Permission rule broken keeps = keeps
  order_wide Data rule broken keeps = keeps
  order_wide AcquireOnce rule broken keeps = keeps
  order_wide ProbeOnce rule broken keeps = keeps
  order_wide GrantAlone rule broken keeps = keeps
  order_wide ReleaseAlone rule broken keeps = keeps

  lower_copies : (r rule : CoherenceRule) → coherent.rank r < coherent.rank rule → coherent.Keeps r None (map first_of log) (first_of e) → KeepsWide r log e
  lower_copies PermissionHeld rule low keeps = keeps
  lower_copies ProbeObeyed rule low keeps = keeps
  lower_copies OneWriter rule low keeps = keeps
  lower_copies DataAsked rule low keeps = keeps
  lower_copies DataKept rule low keeps = absurd (omega (arith, low, rank_most rule))

module _ (profile : Profile) (log : List WideLogged) (index : ℕ) where
  pub first_told : (breach : MessageBreach) → IsFirstFault profile None (map first_of log) breach index → AreLawfulMessages profile None (take index (map second_of log)) → IsFirstWideFault profile log breach index
  first_told (Unlawful rule) fault second =
      let b = ordered_breach first_of log index profile rule fault.0 in
      let copies : coherence.IsCoherentLog None (map first_of (take index log)) = subst (coherence.IsCoherentLog None) (take-map first_of index log) fault.1 in
      record {
        entry = b.entry;
        stands = b.stands;
        lawful_before = lawful_whole profile (take index log) (b.lawful_before, copies) (halves_before second_of log index profile second);
        broken = (λ keeps. b.broken (obeys_first profile (take index log) b.entry rule keeps), λ r low. lower_wide profile (take index log) b.entry r rule b.broken low (b.first r low));
      }
  first_told (Incoherent breach) fault second =
      let b = coherent_breach first_of log index breach fault.0 in
      let order : IsLawfulBy profile (map first_of (take index log)) = subst (IsLawfulBy profile) (take-map first_of index log) (order_within profile (map first_of log) index (index + 1) (omega arith) fault.1) in
      record {
        entry = b.entry;
        stands = b.stands;
        lawful_before = lawful_whole profile (take index log) (order, b.coherent_before) (halves_before second_of log index profile second);
        broken = (
          λ keeps. b.broken (keeps_first (take index log) b.entry (rule_of breach) keeps),
          λ r low. lower_copies profile (take index log) b.entry r (rule_of breach) low (b.first r low),
          λ r. order_wide profile (take index log) b.entry r (rule_of breach) b.broken (halves_order first_of log index profile b.entry b.half fault.1 r),
          b.cause,
        );
      }
  first_told Unanswered fault second = absurd fault
  first_told (Unwritten address) fault second = absurd fault

-- ---- so is the second half's, where the first half's message is lawful

module _ (e : WideLogged) (log : List WideLogged) where
  abbrev One : ℕ → ClientLog
  One k = client_of k e.first.message.line (map first_of log)

  abbrev Two : ℕ → ClientLog
  Two k = client_of k e.first.message.line (map second_of log)

  clients_same : Two ≡ One
  clients_same = λ i k. client_alike k e.first.message.line log i

  beside_same : (perm : Perm) → MayGoBeside (second_of e).message.body perm ≡ MayGoBeside e.first.message.body perm
  beside_same perm = blind (λ b. MayGoBeside b perm) (λ c a b. refl) (λ c a b. refl) (λ c a b. refl) e.first.message.body e.second

  holder_same : (clients : ℕ → ClientLog) (holder : ℕ) → IsHolder (second_of e).message.body e.first.hart clients holder → IsHolder e.first.message.body e.first.hart clients holder
  holder_same clients holder h = record {
    other = h.other;
    has_more = λ may. h.has_more (subst (λ (T : Type 0). T) (sym (beside_same (perm_in (clients holder).noted))) may);
    first = λ k low other. subst (λ (T : Type 0). T) (beside_same (perm_in (clients k).noted)) (h.first k low other);
  }

  index_same : (one two : Option Brought) (kept : Option (LineData × LineData)) → AreBoth one two kept → index_in two ≡ index_in one
  index_same None None None are = refl
  index_same (Some one) (Some two) (Some kept) are = ap (λ n. Some n) (sym are.2)
  index_same None None (Some kept) are = absurd are
  index_same None (Some two) kept are = absurd are
  index_same (Some one) None kept are = absurd are
  index_same (Some one) (Some two) None are = absurd are

  body_same : (breach : Breach) (clients : ℕ → ClientLog) → IsCause breach e.first.hart (second_of e).message.body clients (brought_of e.first.message.line (map second_of log)) → IsCause breach e.first.hart e.first.message.body clients (brought_of e.first.message.line (map first_of log))
  body_same (causes.PermissionHeld held) clients cause = cause
  body_same (causes.ProbeObeyed held probe) clients cause = cause
  body_same (causes.OneWriter holder held) clients cause = (holder_same clients holder cause.0, cause.1)
  body_same (causes.DataAsked held) clients cause = cause
  body_same (causes.DataKept index) clients cause = cause ∙ index_same (brought_of e.first.message.line (map first_of log)) (brought_of e.first.message.line (map second_of log)) _ (both_brought e.first.message.line log)

  cause_same : (breach : Breach) → IsCause breach e.first.hart (second_of e).message.body Two (brought_of e.first.message.line (map second_of log)) → IsCause breach e.first.hart e.first.message.body One (brought_of e.first.message.line (map first_of log))
  cause_same breach cause = body_same breach One (subst (λ (clients : ℕ → ClientLog). IsCause breach e.first.hart (second_of e).message.body clients (brought_of e.first.message.line (map second_of log))) clients_same cause)

module _ (profile : Profile) (log : List WideLogged) (index : ℕ) where
  -- the first half at the same entry
  half_first : (e : WideLogged) → slice_get log index ≡ Some e → slice_get (map first_of log) index ≡ Some (first_of e)
  half_first e stands = slice_get-map first_of log index ∙ ap (option_map first_of) stands

  before_first : AreLawfulMessages profile None (take (index + 1) (map first_of log)) → AreLawfulMessages profile None (map first_of (take index log))
  before_first all = halves_before first_of log index profile (order_within profile (map first_of log) index (index + 1) (omega arith) all.0, copies_within profile (map first_of log) index (index + 1) (omega arith) all.1)

  before_second : IsLawfulBy profile (take (index + 1) (map second_of log)) → IsLawfulBy profile (map second_of (take index log))
  before_second all = subst (IsLawfulBy profile) (take-map second_of index log) (order_within profile (map second_of log) index (index + 1) (omega arith) all)

  pub second_told : (breach : MessageBreach) → IsFirstFault profile None (map second_of log) breach index → AreLawfulMessages profile None (take (index + 1) (map first_of log)) → IsFirstWideFault profile log breach index
  second_told (Unlawful rule) fault first =
      let b = ordered_breach second_of log index profile rule fault.0 in
      let copies : coherence.IsCoherentLog None (map second_of (take index log)) = subst (coherence.IsCoherentLog None) (take-map second_of index log) fault.1 in
      record {
        entry = b.entry;
        stands = b.stands;
        lawful_before = lawful_whole profile (take index log) (before_first first) (b.lawful_before, copies);
        broken = (
          λ keeps. b.broken (obeys_second profile (take index log) b.entry rule keeps),
          λ r low. obeys_whole profile (take index log) b.entry r (halves_order first_of log index profile b.entry (half_first b.entry b.stands) first.0 r) (b.first r low),
        );
      }
  second_told (Incoherent breach) fault first =
      let b = coherent_breach second_of log index breach fault.0 in
      record {
        entry = b.entry;
        stands = b.stands;
        lawful_before = lawful_whole profile (take index log) (before_first first) (before_second fault.1, b.coherent_before);
        broken = (
          λ keeps. b.broken (keeps_second (take index log) b.entry (rule_of breach) keeps),
          λ r low. keeps_whole (take index log) b.entry r (halves_copies first_of log index b.entry (half_first b.entry b.stands) first.1 r) (b.first r low),
          λ r. obeys_whole profile (take index log) b.entry r (halves_order first_of log index profile b.entry (half_first b.entry b.stands) first.0 r) (halves_order second_of log index profile b.entry b.half fault.1 r),
          cause_same b.entry (take index log) breach b.cause,
        );
      }
  second_told Unanswered fault first = absurd fault
  second_told (Unwritten address) fault first = absurd fault

-- ---- the verdict

module _ (profile : Profile) (log : List WideLogged) where
  abbrev Whole : MessageVerdict → Type 0
  Whole v = IsWideVerdict profile log v

  whole_unlawful : (breach : MessageBreach) (index : ℕ) → (AreLawfulWide profile log → message.Unlawful breach index ≡ message.Lawful) → IsFirstWideFault profile log breach index → Whole (message.Unlawful breach index)
  whole_unlawful breach index never fault = record { lawful = (λ same. cc same, never); unlawful = fault }

  module _ (breach other : MessageBreach) (index at : ℕ) (one : IsMessageVerdict profile None (map first_of log) (message.Unlawful breach index)) (two : IsMessageVerdict profile None (map second_of log) (message.Unlawful other at)) where
    both_unlawful : (is : Bool) → nat_lt at index ≡ is → Whole (if is then message.Unlawful other at else message.Unlawful breach index)
    both_unlawful true is = whole_unlawful other at (λ all. two.lawful.1 (lawful_second profile log all))
        (second_told profile log at other two.unlawful (lawful_until profile (map first_of log) breach index (at + 1) one.unlawful (omega (arith, ltb-true at index is))))
    both_unlawful false is = whole_unlawful breach index (λ all. one.lawful.1 (lawful_first profile log all))
        (first_told profile log index breach one.unlawful (lawful_until profile (map second_of log) other at index two.unlawful (omega (arith, ltb-false at index is))))

  pub whole_verdict : (one two : MessageVerdict) → IsMessageVerdict profile None (map first_of log) one → IsMessageVerdict profile None (map second_of log) two → Whole (earlier one two)
  whole_verdict message.Lawful message.Lawful one two = record { lawful = (λ same. lawful_whole profile log (one.lawful.0 refl) (two.lawful.0 refl), λ all. refl); unlawful = tt }
  whole_verdict message.Lawful (message.Unlawful breach index) one two =
      whole_unlawful breach index (λ all. two.lawful.1 (lawful_second profile log all)) (second_told profile log index breach two.unlawful (messages_up_to profile (map first_of log) (index + 1) (one.lawful.0 refl)))
  whole_verdict (message.Unlawful breach index) message.Lawful one two =
      whole_unlawful breach index (λ all. one.lawful.1 (lawful_first profile log all)) (first_told profile log index breach one.unlawful (messages_up_to profile (map second_of log) index (two.lawful.0 refl)))
  whole_verdict (message.Unlawful breach index) (message.Unlawful other at) one two = both_unlawful breach other index at one two (nat_lt at index) refl
