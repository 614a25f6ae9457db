-- Where a message may be sent by this machine's rules, rule by rule.
use Rattle.std.proofs.Common.{ℕ, Bool, true, false, List, ◌≡◌, Some, None, refl}
use Rattle.std.specs.Prelude.{◌&&◌, not, IsTrue, Option, is_some}
use Rattle.std.proofs.lemmas.Bool.{and_from, and_parts}
use Rattle.machine_model.specs.LawfulLog.{answers_acquire, asked_by_next, goes_without_data, is_for, may_send, no_grant_open, no_hart_probed}
use Rattle.lawful_log.specs.Rules.{fits_data, is_asked, may_go_by}
use Rattle.lawful_log.specs.declared.profile.Profile.TheVariants.{Machine}
use Rattle.lawful_log.specs.declared.rule.LogRule.{LogRule}
use Rattle.lawful_log.specs.declared.rule.LogRule.TheVariants.{InOrder, Question, Permission, Data, AcquireOnce, ProbeOnce, GrantAlone, ReleaseAlone}
use Rattle.tl_types.specs.declared.message.Body.{Body}
use Rattle.tl_types.specs.declared.message.Body.TheVariants.{AcquireBlock, ProbeBlock, ProbeAck, ProbeAckData, Release, ReleaseData, Grant, GrantData, ReleaseAck, GrantAck}
use Rattle.tl_types.specs.declared.permission.Cap.{Cap}
use Rattle.tl_types.specs.declared.permission.Grow.{Grow}
use Rattle.trace_recorder.specs.declared.logged.Logged.{Logged}

left : (a b : Bool) → IsTrue (a && b) → IsTrue a
left a b t = (and_parts a b t).0

right : (a b : Bool) → IsTrue (a && b) → IsTrue b
right a b t = (and_parts a b t).1

both : (a b : Bool) → IsTrue a → IsTrue b → IsTrue (a && b)
both a b s t = and_from a b s t

module _ (h line : ℕ) (log : List Logged) where
  -- ---- the Acquire that a Grant answers

  answered : (o : Option Grow) (d : Bool) (p : Cap) → IsTrue (answers_acquire o d p h line log) → IsTrue (is_some o)
  answered None d p t = t
  answered (Some g) d p t = refl

  permitted : (o : Option Grow) (d : Bool) (p : Cap) → IsTrue (answers_acquire o d p h line log) → IsTrue (is_asked Machine o p)
  permitted None d p t = refl
  permitted (Some g) true p t = left (is_for g p) (not (goes_without_data h line log g)) t
  permitted (Some g) false p t = left (is_for g p) (goes_without_data h line log g) t

  fitted : (o : Option Grow) (d : Bool) (p : Cap) → IsTrue (answers_acquire o d p h line log) → IsTrue (fits_data Machine o d h line log)
  fitted None d p t = refl
  fitted (Some g) true p t = right (is_for g p) (not (goes_without_data h line log g)) t
  fitted (Some g) false p t = right (is_for g p) (goes_without_data h line log g) t

  answers : (o : Option Grow) (d : Bool) (p : Cap) → IsTrue (is_some o) → IsTrue (is_asked Machine o p) → IsTrue (fits_data Machine o d h line log) → IsTrue (answers_acquire o d p h line log)
  answers None d p a i f = a
  answers (Some g) true p a i f = both (is_for g p) (not (goes_without_data h line log g)) i f
  answers (Some g) false p a i f = both (is_for g p) (goes_without_data h line log g) i f

  -- ---- a Grant

  abbrev granted : (d : Bool) (p : Cap) → Bool
  granted d p = answers_acquire (asked_by_next h line log) d p h line log

  beside : (d : Bool) (p : Cap) → IsTrue (granted d p && no_hart_probed line log && no_grant_open line log) → IsTrue (no_hart_probed line log && no_grant_open line log)
  beside d p t =
      let most : (granted d p && no_hart_probed line log) ≡ true = (and_parts (granted d p && no_hart_probed line log) (no_grant_open line log) t).0 in
      both (no_hart_probed line log) (no_grant_open line log) (and_parts (granted d p) (no_hart_probed line log) most).1 (and_parts (granted d p && no_hart_probed line log) (no_grant_open line log) t).1

  -- ---- from the whole to each rule

  pub goes_by : (body : Body) → IsTrue (may_send body h line log) → (rule : LogRule) → IsTrue (may_go_by Machine rule body h line log)
  goes_by body t InOrder = refl
  goes_by body t Question = question body t
    where
      question : (body : Body) → IsTrue (may_send body h line log) → IsTrue (may_go_by Machine Question body h line log)
      question (AcquireBlock g) t = refl
      question (ProbeBlock c) t = refl
      question (ProbeAck c) t = (and_parts _ _ t).0
      question (ProbeAckData c b) t = (and_parts _ _ t).0
      question (Release c) t = refl
      question (ReleaseData c b) t = refl
      question (Grant c) t = answered (asked_by_next h line log) false c (and_parts _ _ (and_parts _ _ t).0).0
      question (GrantData c b) t = answered (asked_by_next h line log) true c (and_parts _ _ (and_parts _ _ t).0).0
      question ReleaseAck t = t
      question GrantAck t = t
  goes_by body t Permission = permission body t
    where
      permission : (body : Body) → IsTrue (may_send body h line log) → IsTrue (may_go_by Machine Permission body h line log)
      permission (AcquireBlock g) t = refl
      permission (ProbeBlock c) t = refl
      permission (ProbeAck c) t = refl
      permission (ProbeAckData c b) t = refl
      permission (Release c) t = refl
      permission (ReleaseData c b) t = refl
      permission (Grant c) t = permitted (asked_by_next h line log) false c (and_parts _ _ (and_parts _ _ t).0).0
      permission (GrantData c b) t = permitted (asked_by_next h line log) true c (and_parts _ _ (and_parts _ _ t).0).0
      permission ReleaseAck t = refl
      permission GrantAck t = refl
  goes_by body t Data = fits body t
    where
      fits : (body : Body) → IsTrue (may_send body h line log) → IsTrue (may_go_by Machine Data body h line log)
      fits (AcquireBlock g) t = refl
      fits (ProbeBlock c) t = refl
      fits (ProbeAck c) t = refl
      fits (ProbeAckData c b) t = refl
      fits (Release c) t = refl
      fits (ReleaseData c b) t = refl
      fits (Grant c) t = fitted (asked_by_next h line log) false c (and_parts _ _ (and_parts _ _ t).0).0
      fits (GrantData c b) t = fitted (asked_by_next h line log) true c (and_parts _ _ (and_parts _ _ t).0).0
      fits ReleaseAck t = refl
      fits GrantAck t = refl
  goes_by body t AcquireOnce = once body t
    where
      once : (body : Body) → IsTrue (may_send body h line log) → IsTrue (may_go_by Machine AcquireOnce body h line log)
      once (AcquireBlock g) t = (and_parts _ _ t).0
      once (ProbeBlock c) t = refl
      once (ProbeAck c) t = refl
      once (ProbeAckData c b) t = refl
      once (Release c) t = refl
      once (ReleaseData c b) t = refl
      once (Grant c) t = refl
      once (GrantData c b) t = refl
      once ReleaseAck t = refl
      once GrantAck t = refl
  goes_by body t ProbeOnce = once body t
    where
      once : (body : Body) → IsTrue (may_send body h line log) → IsTrue (may_go_by Machine ProbeOnce body h line log)
      once (AcquireBlock g) t = refl
      once (ProbeBlock c) t = (and_parts _ _ t).0
      once (ProbeAck c) t = refl
      once (ProbeAckData c b) t = refl
      once (Release c) t = refl
      once (ReleaseData c b) t = refl
      once (Grant c) t = refl
      once (GrantData c b) t = refl
      once ReleaseAck t = refl
      once GrantAck t = refl
  goes_by body t GrantAlone = alone body t
    where
      alone : (body : Body) → IsTrue (may_send body h line log) → IsTrue (may_go_by Machine GrantAlone body h line log)
      alone (AcquireBlock g) t = refl
      alone (ProbeBlock c) t = (and_parts _ _ t).1
      alone (ProbeAck c) t = refl
      alone (ProbeAckData c b) t = refl
      alone (Release c) t = refl
      alone (ReleaseData c b) t = refl
      alone (Grant c) t = beside false c t
      alone (GrantData c b) t = beside true c t
      alone ReleaseAck t = refl
      alone GrantAck t = refl
  goes_by body t ReleaseAlone = alone body t
    where
      alone : (body : Body) → IsTrue (may_send body h line log) → IsTrue (may_go_by Machine ReleaseAlone body h line log)
      alone (AcquireBlock g) t = (and_parts _ _ t).1
      alone (ProbeBlock c) t = refl
      alone (ProbeAck c) t = (and_parts _ _ t).1
      alone (ProbeAckData c b) t = (and_parts _ _ t).1
      alone (Release c) t = t
      alone (ReleaseData c b) t = t
      alone (Grant c) t = refl
      alone (GrantData c b) t = refl
      alone ReleaseAck t = refl
      alone GrantAck t = refl

  -- ---- and back

  with_grant : (d : Bool) (p : Cap) → IsTrue (granted d p) → IsTrue (no_hart_probed line log && no_grant_open line log) → IsTrue (granted d p && no_hart_probed line log && no_grant_open line log)
  with_grant d p a t = both _ _ (both _ _ a (and_parts _ _ t).0) (and_parts _ _ t).1

  pub goes : (body : Body) → ((rule : LogRule) → IsTrue (may_go_by Machine rule body h line log)) → IsTrue (may_send body h line log)
  goes (AcquireBlock g) each = both _ _ (each AcquireOnce) (each ReleaseAlone)
  goes (ProbeBlock c) each = both _ _ (each ProbeOnce) (each GrantAlone)
  goes (ProbeAck c) each = both _ _ (each Question) (each ReleaseAlone)
  goes (ProbeAckData c b) each = both _ _ (each Question) (each ReleaseAlone)
  goes (Release c) each = each ReleaseAlone
  goes (ReleaseData c b) each = each ReleaseAlone
  goes (Grant c) each = with_grant false c (answers (asked_by_next h line log) false c (each Question) (each Permission) (each Data)) (each GrantAlone)
  goes (GrantData c b) each = with_grant true c (answers (asked_by_next h line log) true c (each Question) (each Permission) (each Data)) (each GrantAlone)
  goes ReleaseAck each = each Question
  goes GrantAck each = each Question
