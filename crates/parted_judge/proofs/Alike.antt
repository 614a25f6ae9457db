-- Both parts of a log tell the same of all but bytes.
use Rattle.std.proofs.Common.{ℕ, ◌+◌, Bool, true, false, List, [], ◌∷◌, ◌≡◌, ◌∙◌, Option, Some, None, ap, cond, length, map, refl, suc}
use Rattle.std.specs.Prelude.{◌&&◌, ◌||◌, filter, if◌then◌else◌, is_some, not, slice_get}
use Rattle.std.specs.List.{cons_option, filter_map, list_all}
use Rattle.std.specs.Option.{option_or}
use Rattle.coherent_log.specs.Told.{at_client, at_manager, client_of, held_since, latest_from, probed, probed_at, tells_held, tells_probe}
use Rattle.coherent_log.specs.Told as copies
use Rattle.lawful_log.specs.Rules.{fits_data, has_permission, has_question, has_right_data, is_acquired_once, is_asked, is_probed_once, leaves_grant_alone, leaves_release_alone, may_go_by, may_have_data}
use Rattle.lawful_log.specs.declared.profile.Profile.{Profile}
use Rattle.lawful_log.specs.declared.rule.LogRule.{LogRule}
use Rattle.lawful_log.specs.declared.rule.LogRule.TheVariants.{InOrder, Question, Permission, Data, AcquireOnce, ProbeOnce, GrantAlone, ReleaseAlone}
use Rattle.machine_model.specs.LawfulLog.{asked_by_next, concerns, goes_without_data, grow_in, grows_taken, is_acquire, is_BtoT, is_grant, is_grant_ack, is_loss, is_owed, is_probe, is_probe_ack, is_release, is_release_ack, is_sent, is_settled, is_settled_for_all, lost_after, lost_since_asking, no_acquire_open, no_grant_open, no_hart_probed, no_release_open, sent_count, taken_count}
use Rattle.tl_types.specs.declared.line.LineData.{LineData}
use Rattle.tl_types.specs.declared.message.Body.{Body}
use Rattle.tl_types.specs.declared.message.Body.TheVariants.{AcquireBlock, ProbeBlock, ProbeAck, ProbeAckData, Release, ReleaseData, Grant, GrantData, ReleaseAck, GrantAck}
use Rattle.tl_types.specs.declared.permission.Cap.{Cap}
use Rattle.tl_types.specs.declared.permission.Change.{Change}
use Rattle.tl_types.specs.declared.permission.Grow.{Grow}
use Rattle.tl_types.specs.declared.permission.Perm.{Perm}
use Rattle.trace_recorder.specs.declared.logged.Direction.{Direction}
use Rattle.trace_recorder.specs.declared.logged.Direction.TheVariants.{Sent, Taken}
use Rattle.trace_recorder.specs.declared.logged.Logged.{Logged}
use Rattle.wide_logs.specs.Entries.{first_of, second_of, with_bytes}
use Rattle.wide_logs.specs.declared.entry.WideLogged.{WideLogged}

-- what says the same whatever bytes a message carries says the same of both halves
pub blind {ℓ} : {X : Type ℓ} → (k : Body → X)
    → ((c : Change) (a b : LineData) → k (ProbeAckData c a) ≡ k (ProbeAckData c b)) → ((c : Change) (a b : LineData) → k (ReleaseData c a) ≡ k (ReleaseData c b)) → ((c : Cap) (a b : LineData) → k (GrantData c a) ≡ k (GrantData c b))
    → (body : Body) (bytes : Option LineData) → k (with_bytes body bytes) ≡ k body
blind k p r g body None = refl
blind k p r g (ProbeAckData c old) (Some new) = p c new old
blind k p r g (ReleaseData c old) (Some new) = r c new old
blind k p r g (GrantData c old) (Some new) = g c new old
blind k p r g (AcquireBlock grow) (Some new) = refl
blind k p r g (ProbeBlock cap) (Some new) = refl
blind k p r g (ProbeAck c) (Some new) = refl
blind k p r g (Release c) (Some new) = refl
blind k p r g (Grant c) (Some new) = refl
blind k p r g ReleaseAck (Some new) = refl
blind k p r g GrantAck (Some new) = refl

abbrev IsBlind : (Body → Bool) → Type 0
IsBlind k = (body : Body) (bytes : Option LineData) → k (with_bytes body bytes) ≡ k body

-- ---- lists

counted_alike : (p q : Logged → Bool) → ((e : WideLogged) → p (second_of e) ≡ q (first_of e)) → (log : List WideLogged) → length (filter p (map second_of log)) ≡ length (filter q (map first_of log))
counted_alike p q same [] = refl
counted_alike p q same (e ∷ log) = go (p (second_of e)) (q (first_of e)) (same e) (counted_alike p q same log)
  where
    go : (b c : Bool) → b ≡ c → length (filter p (map second_of log)) ≡ length (filter q (map first_of log))
        → length (cond b (second_of e ∷ filter p (map second_of log)) (filter p (map second_of log))) ≡ length (cond c (first_of e ∷ filter q (map first_of log)) (filter q (map first_of log)))
    go true true is all = ap suc all
    go false false is all = all
    go true false is all = cc is
    go false true is all = cc is

given_alike : {X : Type 0} → (f : Logged → Option X) → ((e : WideLogged) → f (second_of e) ≡ f (first_of e)) → (log : List WideLogged) → filter_map f (map second_of log) ≡ filter_map f (map first_of log)
given_alike f same [] = refl
given_alike f same (e ∷ log) = λ i. cons_option (same e i) (given_alike f same log i)

all_alike : (p q : Logged → Bool) → ((e : WideLogged) → p (second_of e) ≡ q (first_of e)) → (log : List WideLogged) → list_all p (map second_of log) ≡ list_all q (map first_of log)
all_alike p q same [] = refl
all_alike p q same (e ∷ log) = λ i. same e i && all_alike p q same log i

latest_alike : {T : Type 0} → (tells : ℕ → Logged → Option T) → ((i : ℕ) (e : WideLogged) → tells i (second_of e) ≡ tells i (first_of e)) → (i : ℕ) (log : List WideLogged) → latest_from i tells (map second_of log) ≡ latest_from i tells (map first_of log)
latest_alike tells same i [] = refl
latest_alike tells same i (e ∷ log) = λ j. option_or (latest_alike tells same (i + 1) log j) (same i e j)

-- ---- what is counted

is_blind : (k : Body → Bool) → ((c : Change) (a b : LineData) → k (ProbeAckData c a) ≡ k (ProbeAckData c b)) → ((c : Change) (a b : LineData) → k (ReleaseData c a) ≡ k (ReleaseData c b)) → ((c : Cap) (a b : LineData) → k (GrantData c a) ≡ k (GrantData c b)) → IsBlind k
is_blind k p r g body bytes = blind k p r g body bytes

is_acquire_blind : IsBlind is_acquire
is_acquire_blind = is_blind is_acquire (λ c a b. refl) (λ c a b. refl) (λ c a b. refl)

is_probe_blind : IsBlind is_probe
is_probe_blind = is_blind is_probe (λ c a b. refl) (λ c a b. refl) (λ c a b. refl)

is_probe_ack_blind : IsBlind is_probe_ack
is_probe_ack_blind = is_blind is_probe_ack (λ c a b. refl) (λ c a b. refl) (λ c a b. refl)

is_release_blind : IsBlind is_release
is_release_blind = is_blind is_release (λ c a b. refl) (λ c a b. refl) (λ c a b. refl)

is_release_ack_blind : IsBlind is_release_ack
is_release_ack_blind = is_blind is_release_ack (λ c a b. refl) (λ c a b. refl) (λ c a b. refl)

is_grant_blind : IsBlind is_grant
is_grant_blind = is_blind is_grant (λ c a b. refl) (λ c a b. refl) (λ c a b. refl)

is_grant_ack_blind : IsBlind is_grant_ack
is_grant_ack_blind = is_blind is_grant_ack (λ c a b. refl) (λ c a b. refl) (λ c a b. refl)

is_loss_blind : IsBlind is_loss
is_loss_blind = is_blind is_loss (λ c a b. refl) (λ c a b. refl) (λ c a b. refl)

module _ (log : List WideLogged) where
  abbrev One : List Logged
  One = map first_of log

  abbrev Two : List Logged
  Two = map second_of log

  -- of a client and a line, or of a line
  module _ (who : Logged → Bool) (same : (e : WideLogged) → who (second_of e) ≡ who (first_of e)) where
    sent_alike : (kind : Body → Bool) → IsBlind kind → sent_count kind who Two ≡ sent_count kind who One
    sent_alike kind is = counted_alike (λ e. is_sent e.direction && who e && kind e.message.body) (λ e. is_sent e.direction && who e && kind e.message.body)
        (λ e i. is_sent e.first.direction && same e i && is e.first.message.body e.second i) log

    taken_alike : (kind : Body → Bool) → IsBlind kind → taken_count kind who Two ≡ taken_count kind who One
    taken_alike kind is = counted_alike (λ e. not (is_sent e.direction) && who e && kind e.message.body) (λ e. not (is_sent e.direction) && who e && kind e.message.body)
        (λ e i. not (is_sent e.first.direction) && same e i && is e.first.message.body e.second i) log

    settled_alike : (question answer : Body → Bool) → IsBlind question → IsBlind answer → is_settled question answer who Two ≡ is_settled question answer who One
    settled_alike question answer asks answers = rw (sent_alike question asks, taken_alike answer answers) refl

    owed_alike : (question answer : Body → Bool) → IsBlind question → IsBlind answer → is_owed question answer who Two ≡ is_owed question answer who One
    owed_alike question answer asks answers = rw (sent_alike answer answers, taken_alike question asks) refl

  for_all_alike : (question answer : Body → Bool) → IsBlind question → IsBlind answer → (line : ℕ) → is_settled_for_all question answer line Two ≡ is_settled_for_all question answer line One
  for_all_alike question answer asks answers line =
      all_alike (λ e. is_settled question answer (concerns e.hart line) Two) (λ e. is_settled question answer (concerns e.hart line) One)
      (λ e. settled_alike (concerns e.first.hart line) (λ x. refl) question answer asks answers) log

  grow_alike : (w : Bool) (body : Body) (bytes : Option LineData) → (if w then grow_in (with_bytes body bytes) else None) ≡ (if w then grow_in body else None)
  grow_alike w body bytes = ap (λ o. if w then o else None) (blind grow_in (λ c a b. refl) (λ c a b. refl) (λ c a b. refl) body bytes)

  module _ (h line : ℕ) where
    grows_alike : grows_taken h line Two ≡ grows_taken h line One
    grows_alike = given_alike (λ e. if not (is_sent e.direction) && concerns h line e then grow_in e.message.body else None)
        (λ e. grow_alike (not (is_sent e.first.direction) && concerns h line e.first) e.first.message.body e.second) log

    asked_alike : asked_by_next h line Two ≡ asked_by_next h line One
    asked_alike = λ i. slice_get (grows_alike i) (sent_alike (concerns h line) (λ x. refl) is_grant is_grant_blind i)

lost_after_alike : (h line : ℕ) (lost : Bool) (e : WideLogged) → lost_after h line lost (second_of e) ≡ lost_after h line lost (first_of e)
lost_after_alike h line lost e = λ i. if concerns h line e.first then (if is_sent e.first.direction then (not (is_acquire_blind e.first.message.body e.second i) && lost) else (is_loss_blind e.first.message.body e.second i || lost)) else lost

lost_alike : (h line : ℕ) (lost : Bool) (log : List WideLogged) → lost_since_asking h line lost (map second_of log) ≡ lost_since_asking h line lost (map first_of log)
lost_alike h line lost [] = refl
lost_alike h line lost (e ∷ log) = ap (λ b. lost_since_asking h line b (map second_of log)) (lost_after_alike h line lost e) ∙ lost_alike h line (lost_after h line lost e.first) log

-- ---- rules

module _ (profile : Profile) (h line : ℕ) (log : List WideLogged) where
  without_alike : (grow : Grow) → goes_without_data h line (Two log) grow ≡ goes_without_data h line (One log) grow
  without_alike grow = ap (λ b. is_BtoT grow && not b) (lost_alike h line false log)

  question_alike : (body : Body) → has_question body h line (Two log) ≡ has_question body h line (One log)
  question_alike (AcquireBlock grow) = refl
  question_alike (ProbeBlock cap) = refl
  question_alike (ProbeAck change) = owed_alike log (concerns h line) (λ x. refl) is_probe is_probe_ack is_probe_blind is_probe_ack_blind
  question_alike (ProbeAckData change bytes) = owed_alike log (concerns h line) (λ x. refl) is_probe is_probe_ack is_probe_blind is_probe_ack_blind
  question_alike (Release change) = refl
  question_alike (ReleaseData change bytes) = refl
  question_alike (Grant cap) = ap is_some (asked_alike log h line)
  question_alike (GrantData cap bytes) = ap is_some (asked_alike log h line)
  question_alike ReleaseAck = owed_alike log (concerns h line) (λ x. refl) is_release is_release_ack is_release_blind is_release_ack_blind
  question_alike GrantAck = owed_alike log (concerns h line) (λ x. refl) is_grant is_grant_ack is_grant_blind is_grant_ack_blind

  permission_alike : (body : Body) → has_permission profile body h line (Two log) ≡ has_permission profile body h line (One log)
  permission_alike (AcquireBlock grow) = refl
  permission_alike (ProbeBlock cap) = refl
  permission_alike (ProbeAck change) = refl
  permission_alike (ProbeAckData change bytes) = refl
  permission_alike (Release change) = refl
  permission_alike (ReleaseData change bytes) = refl
  permission_alike (Grant cap) = ap (λ o. is_asked profile o cap) (asked_alike log h line)
  permission_alike (GrantData cap bytes) = ap (λ o. is_asked profile o cap) (asked_alike log h line)
  permission_alike ReleaseAck = refl
  permission_alike GrantAck = refl

  fits_alike : (asked : Option Grow) (with_data : Bool) → fits_data profile asked with_data h line (Two log) ≡ fits_data profile asked with_data h line (One log)
  fits_alike None with_data = refl
  fits_alike (Some grow) true = ap (may_have_data profile) (without_alike grow)
  fits_alike (Some grow) false = without_alike grow

  fitting_alike : (with_data : Bool) → fits_data profile (asked_by_next h line (Two log)) with_data h line (Two log) ≡ fits_data profile (asked_by_next h line (One log)) with_data h line (One log)
  fitting_alike with_data = ap (λ o. fits_data profile o with_data h line (Two log)) (asked_alike log h line) ∙ fits_alike (asked_by_next h line (One log)) with_data

  data_alike : (body : Body) → has_right_data profile body h line (Two log) ≡ has_right_data profile body h line (One log)
  data_alike (AcquireBlock grow) = refl
  data_alike (ProbeBlock cap) = refl
  data_alike (ProbeAck change) = refl
  data_alike (ProbeAckData change bytes) = refl
  data_alike (Release change) = refl
  data_alike (ReleaseData change bytes) = refl
  data_alike (Grant cap) = fitting_alike false
  data_alike (GrantData cap bytes) = fitting_alike true
  data_alike ReleaseAck = refl
  data_alike GrantAck = refl

  acquire_alike : no_acquire_open h line (Two log) ≡ no_acquire_open h line (One log)
  acquire_alike = settled_alike log (concerns h line) (λ x. refl) is_acquire is_grant is_acquire_blind is_grant_blind

  release_alike : no_release_open h line (Two log) ≡ no_release_open h line (One log)
  release_alike = settled_alike log (concerns h line) (λ x. refl) is_release is_release_ack is_release_blind is_release_ack_blind

  granted_alike : no_grant_open line (Two log) ≡ no_grant_open line (One log)
  granted_alike = for_all_alike log is_grant is_grant_ack is_grant_blind is_grant_ack_blind line

  probed_alike : no_hart_probed line (Two log) ≡ no_hart_probed line (One log)
  probed_alike = for_all_alike log is_probe is_probe_ack is_probe_blind is_probe_ack_blind line

  acquired_alike : (body : Body) → is_acquired_once body h line (Two log) ≡ is_acquired_once body h line (One log)
  acquired_alike (AcquireBlock grow) = acquire_alike
  acquired_alike (ProbeBlock cap) = refl
  acquired_alike (ProbeAck change) = refl
  acquired_alike (ProbeAckData change bytes) = refl
  acquired_alike (Release change) = refl
  acquired_alike (ReleaseData change bytes) = refl
  acquired_alike (Grant cap) = refl
  acquired_alike (GrantData cap bytes) = refl
  acquired_alike ReleaseAck = refl
  acquired_alike GrantAck = refl

  once_alike : (body : Body) → is_probed_once body h line (Two log) ≡ is_probed_once body h line (One log)
  once_alike (AcquireBlock grow) = refl
  once_alike (ProbeBlock cap) = settled_alike log (concerns h line) (λ x. refl) is_probe is_probe_ack is_probe_blind is_probe_ack_blind
  once_alike (ProbeAck change) = refl
  once_alike (ProbeAckData change bytes) = refl
  once_alike (Release change) = refl
  once_alike (ReleaseData change bytes) = refl
  once_alike (Grant cap) = refl
  once_alike (GrantData cap bytes) = refl
  once_alike ReleaseAck = refl
  once_alike GrantAck = refl

  alone_alike : (body : Body) → leaves_grant_alone body h line (Two log) ≡ leaves_grant_alone body h line (One log)
  alone_alike (AcquireBlock grow) = refl
  alone_alike (ProbeBlock cap) = granted_alike
  alone_alike (ProbeAck change) = refl
  alone_alike (ProbeAckData change bytes) = refl
  alone_alike (Release change) = refl
  alone_alike (ReleaseData change bytes) = refl
  alone_alike (Grant cap) = λ i. probed_alike i && granted_alike i
  alone_alike (GrantData cap bytes) = λ i. probed_alike i && granted_alike i
  alone_alike ReleaseAck = refl
  alone_alike GrantAck = refl

  beside_alike : (body : Body) → leaves_release_alone body h line (Two log) ≡ leaves_release_alone body h line (One log)
  beside_alike (AcquireBlock grow) = release_alike
  beside_alike (ProbeBlock cap) = refl
  beside_alike (ProbeAck change) = release_alike
  beside_alike (ProbeAckData change bytes) = release_alike
  beside_alike (Release change) = λ i. release_alike i && acquire_alike i
  beside_alike (ReleaseData change bytes) = λ i. release_alike i && acquire_alike i
  beside_alike (Grant cap) = refl
  beside_alike (GrantData cap bytes) = refl
  beside_alike ReleaseAck = refl
  beside_alike GrantAck = refl

  goes_alike : (rule : LogRule) (body : Body) → may_go_by profile rule body h line (Two log) ≡ may_go_by profile rule body h line (One log)
  goes_alike InOrder body = refl
  goes_alike Question body = question_alike body
  goes_alike Permission body = permission_alike body
  goes_alike Data body = data_alike body
  goes_alike AcquireOnce body = acquired_alike body
  goes_alike ProbeOnce body = once_alike body
  goes_alike GrantAlone body = alone_alike body
  goes_alike ReleaseAlone body = beside_alike body

  goes_blind : (rule : LogRule) (body : Body) (bytes : Option LineData) → may_go_by profile rule (with_bytes body bytes) h line (Two log) ≡ may_go_by profile rule body h line (Two log)
  goes_blind InOrder body bytes = blind (λ b. may_go_by profile InOrder b h line (Two log)) (λ c a b. refl) (λ c a b. refl) (λ c a b. refl) body bytes
  goes_blind Question body bytes = blind (λ b. may_go_by profile Question b h line (Two log)) (λ c a b. refl) (λ c a b. refl) (λ c a b. refl) body bytes
  goes_blind Permission body bytes = blind (λ b. may_go_by profile Permission b h line (Two log)) (λ c a b. refl) (λ c a b. refl) (λ c a b. refl) body bytes
  goes_blind Data body bytes = blind (λ b. may_go_by profile Data b h line (Two log)) (λ c a b. refl) (λ c a b. refl) (λ c a b. refl) body bytes
  goes_blind AcquireOnce body bytes = blind (λ b. may_go_by profile AcquireOnce b h line (Two log)) (λ c a b. refl) (λ c a b. refl) (λ c a b. refl) body bytes
  goes_blind ProbeOnce body bytes = blind (λ b. may_go_by profile ProbeOnce b h line (Two log)) (λ c a b. refl) (λ c a b. refl) (λ c a b. refl) body bytes
  goes_blind GrantAlone body bytes = blind (λ b. may_go_by profile GrantAlone b h line (Two log)) (λ c a b. refl) (λ c a b. refl) (λ c a b. refl) body bytes
  goes_blind ReleaseAlone body bytes = blind (λ b. may_go_by profile ReleaseAlone b h line (Two log)) (λ c a b. refl) (λ c a b. refl) (λ c a b. refl) body bytes

  -- a message that is sent keeps a rule of the lawful log in both
  pub going_alike : (rule : LogRule) (body : Body) (bytes : Option LineData) → may_go_by profile rule (with_bytes body bytes) h line (Two log) ≡ may_go_by profile rule body h line (One log)
  going_alike rule body bytes = goes_blind rule body bytes ∙ goes_alike rule body

-- ---- what clients hold

module _ (h line : ℕ) (log : List WideLogged) where
  held_alike : (tells : Direction → Body → Option Perm) → ((d : Direction) (body : Body) (bytes : Option LineData) → tells d (with_bytes body bytes) ≡ tells d body)
      → latest_from 0 (tells_held tells h line) (map second_of log) ≡ latest_from 0 (tells_held tells h line) (map first_of log)
  held_alike tells same = latest_alike (tells_held tells h line) (λ i e j. if copies.concerns h line e.first then held_since i (same e.first.direction e.first.message.body e.second j) else None) 0 log

  client_blind : (d : Direction) (body : Body) (bytes : Option LineData) → at_client d (with_bytes body bytes) ≡ at_client d body
  client_blind Sent body bytes = blind (at_client Sent) (λ c a b. refl) (λ c a b. refl) (λ c a b. refl) body bytes
  client_blind Taken body bytes = blind (at_client Taken) (λ c a b. refl) (λ c a b. refl) (λ c a b. refl) body bytes

  manager_blind : (d : Direction) (body : Body) (bytes : Option LineData) → at_manager d (with_bytes body bytes) ≡ at_manager d body
  manager_blind Sent body bytes = blind (at_manager Sent) (λ c a b. refl) (λ c a b. refl) (λ c a b. refl) body bytes
  manager_blind Taken body bytes = blind (at_manager Taken) (λ c a b. refl) (λ c a b. refl) (λ c a b. refl) body bytes

  probe_blind : (d : Direction) (body : Body) (bytes : Option LineData) → probed d (with_bytes body bytes) ≡ probed d body
  probe_blind Sent body bytes = blind (probed Sent) (λ c a b. refl) (λ c a b. refl) (λ c a b. refl) body bytes
  probe_blind Taken body bytes = blind (probed Taken) (λ c a b. refl) (λ c a b. refl) (λ c a b. refl) body bytes

  pub client_alike : client_of h line (map second_of log) ≡ client_of h line (map first_of log)
  client_alike = λ k. record {
    held = held_alike at_client client_blind k;
    noted = held_alike at_manager manager_blind k;
    probe = latest_alike (tells_probe h line) (λ i e j. if copies.concerns h line e.first then probed_at i (probe_blind e.first.direction e.first.message.body e.second j) else None) 0 log k;
  }
