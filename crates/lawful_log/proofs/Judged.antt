-- The rules by facts are the rules by the log, where the log is lawful so far by the same profile.
use Rattle.std.proofs.Common.{ℕ, Bool, true, false, List, ◌≡◌, ◌∙◌, Some, None, ap, refl, sym, subst}
use Rattle.std.specs.Prelude.{◌↔◌, ◌&&◌, IsTrue, Option, not, unwrap_or}
use Rattle.machine_model.specs.LawfulLog.{asked_by_next, is_grant, is_grant_ack, is_of_line, is_probe, is_probe_ack, is_settled, lost_since_asking, no_grant_open, no_hart_probed}
use Rattle.machine_model.specs.LogLaws.{AgreeInSum}
use Rattle.lawful_log.specs.Facts as by_facts
use Rattle.lawful_log.specs.Facts.{GoesBy, KeepsBy, front_for, known_of, without_data}
use Rattle.lawful_log.proofs.Sums.{sums_agree}
use Rattle.lawful_log.specs.Rules.{IsLawfulBy, Obeys, KeepsGoing, fits_data, may_go_by, may_have_data}
use Rattle.lawful_log.specs.declared.profile.Profile.{Profile}
use Rattle.lawful_log.specs.declared.profile.Profile.TheVariants.{Machine, TileLink}
use Rattle.lawful_log.specs.declared.rule.LogRule.{LogRule}
use Rattle.lawful_log.specs.declared.rule.LogRule.TheVariants.{InOrder, Question, Permission, Data, AcquireOnce, ProbeOnce, GrantAlone, ReleaseAlone}
use Rattle.tl_types.specs.declared.message.Body.{Body}
use Rattle.tl_types.specs.declared.message.Body.TheVariants.{AcquireBlock, ProbeBlock, ProbeAck, ProbeAckData, Release, ReleaseData, Grant, GrantData, ReleaseAck, GrantAck}
use Rattle.tl_types.specs.declared.message.Msg.{Msg}
use Rattle.tl_types.specs.declared.permission.Grow.{Grow}
use Rattle.trace_recorder.specs.declared.logged.Direction.{Direction}
use Rattle.trace_recorder.specs.declared.logged.Direction.TheVariants.{Sent, Taken}
use Rattle.trace_recorder.specs.declared.logged.Logged.{Logged}

module _ (profile : Profile) (h line : ℕ) (log : List Logged) (agree : AgreeInSum line log) where
  without_same : (o : Option Grow) → fits_data profile o false h line log ≡ unwrap_or (without_data o (lost_since_asking h line false log)) true
  without_same None = refl
  without_same (Some g) = refl

  with_same : (o : Option Grow) → fits_data profile o true h line log ≡ may_have_data profile (unwrap_or (without_data o (lost_since_asking h line false log)) false)
  with_same None = asked_nothing profile
    where
      asked_nothing : (p : Profile) → true ≡ may_have_data p false
      asked_nothing Machine = refl
      asked_nothing TileLink = refl
  with_same (Some g) = refl

  -- the facts have the numbers of all harts together
  alone : (no_hart_probed line log && no_grant_open line log) ≡ (is_settled is_probe is_probe_ack (is_of_line line) log && is_settled is_grant is_grant_ack (is_of_line line) log)
  alone = sym (ap (λ (b : Bool). b && is_settled is_grant is_grant_ack (is_of_line line) log) agree.probes ∙ ap (λ (b : Bool). no_hart_probed line log && b) agree.grants)

  same : (rule : LogRule) (body : Body) → may_go_by profile rule body h line log ≡ by_facts.may_go_by profile rule body (known_of h line log)
  same InOrder body = refl
  same Question (AcquireBlock g) = refl
  same Question (ProbeBlock c) = refl
  same Question (ProbeAck c) = refl
  same Question (ProbeAckData c b) = refl
  same Question (Release c) = refl
  same Question (ReleaseData c b) = refl
  same Question (Grant c) = refl
  same Question (GrantData c b) = refl
  same Question ReleaseAck = refl
  same Question GrantAck = refl
  same Permission (AcquireBlock g) = refl
  same Permission (ProbeBlock c) = refl
  same Permission (ProbeAck c) = refl
  same Permission (ProbeAckData c b) = refl
  same Permission (Release c) = refl
  same Permission (ReleaseData c b) = refl
  same Permission (Grant c) = refl
  same Permission (GrantData c b) = refl
  same Permission ReleaseAck = refl
  same Permission GrantAck = refl
  same Data (AcquireBlock g) = refl
  same Data (ProbeBlock c) = refl
  same Data (ProbeAck c) = refl
  same Data (ProbeAckData c b) = refl
  same Data (Release c) = refl
  same Data (ReleaseData c b) = refl
  same Data (Grant c) = without_same (asked_by_next h line log)
  same Data (GrantData c b) = with_same (asked_by_next h line log)
  same Data ReleaseAck = refl
  same Data GrantAck = refl
  same AcquireOnce (AcquireBlock g) = refl
  same AcquireOnce (ProbeBlock c) = refl
  same AcquireOnce (ProbeAck c) = refl
  same AcquireOnce (ProbeAckData c b) = refl
  same AcquireOnce (Release c) = refl
  same AcquireOnce (ReleaseData c b) = refl
  same AcquireOnce (Grant c) = refl
  same AcquireOnce (GrantData c b) = refl
  same AcquireOnce ReleaseAck = refl
  same AcquireOnce GrantAck = refl
  same ProbeOnce (AcquireBlock g) = refl
  same ProbeOnce (ProbeBlock c) = refl
  same ProbeOnce (ProbeAck c) = refl
  same ProbeOnce (ProbeAckData c b) = refl
  same ProbeOnce (Release c) = refl
  same ProbeOnce (ReleaseData c b) = refl
  same ProbeOnce (Grant c) = refl
  same ProbeOnce (GrantData c b) = refl
  same ProbeOnce ReleaseAck = refl
  same ProbeOnce GrantAck = refl
  same GrantAlone (AcquireBlock g) = refl
  same GrantAlone (ProbeBlock c) = sym agree.grants
  same GrantAlone (ProbeAck c) = refl
  same GrantAlone (ProbeAckData c b) = refl
  same GrantAlone (Release c) = refl
  same GrantAlone (ReleaseData c b) = refl
  same GrantAlone (Grant c) = alone
  same GrantAlone (GrantData c b) = alone
  same GrantAlone ReleaseAck = refl
  same GrantAlone GrantAck = refl
  same ReleaseAlone (AcquireBlock g) = refl
  same ReleaseAlone (ProbeBlock c) = refl
  same ReleaseAlone (ProbeAck c) = refl
  same ReleaseAlone (ProbeAckData c b) = refl
  same ReleaseAlone (Release c) = refl
  same ReleaseAlone (ReleaseData c b) = refl
  same ReleaseAlone (Grant c) = refl
  same ReleaseAlone (GrantData c b) = refl
  same ReleaseAlone ReleaseAck = refl
  same ReleaseAlone GrantAck = refl

going : (profile : Profile) (d : Direction) (rule : LogRule) (h : ℕ) (m : Msg) (log : List Logged) → AgreeInSum m.line log → GoesBy profile d rule m (front_for h m log) (known_of h m.line log) ↔ KeepsGoing profile d rule h m log
going profile Sent rule h m log agree = (λ t. subst IsTrue (sym (same profile h m.line log agree rule m.body)) t, λ t. subst IsTrue (same profile h m.line log agree rule m.body) t)
going profile Taken InOrder h m log agree = (λ t. t, λ t. t)
going profile Taken Question h m log agree = (λ t. t, λ t. t)
going profile Taken Permission h m log agree = (λ t. t, λ t. t)
going profile Taken Data h m log agree = (λ t. t, λ t. t)
going profile Taken AcquireOnce h m log agree = (λ t. t, λ t. t)
going profile Taken ProbeOnce h m log agree = (λ t. t, λ t. t)
going profile Taken GrantAlone h m log agree = (λ t. t, λ t. t)
going profile Taken ReleaseAlone h m log agree = (λ t. t, λ t. t)

pub keeps_by_facts : (profile : Profile) (rule : LogRule) (e : Logged) (log : List Logged) → IsLawfulBy profile log → KeepsBy profile rule (front_for e.hart e.message log) (known_of e.hart e.message.line log) e ↔ Obeys profile rule log e
keeps_by_facts profile rule e log lawful = going profile e.direction rule e.hart e.message log (sums_agree profile e.message.line log lawful)
