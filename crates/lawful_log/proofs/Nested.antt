-- What keeps this machine's rules keeps TileLink's.
use Rattle.std.proofs.Common.{ℕ, Bool, true, false, List, ◌≡◌, Some, None, refl}
use Rattle.std.specs.Prelude.{◌↔◌, IsTrue, Option}
use Rattle.machine_model.specs.LawfulLog.{IsLawfulLog, asked_by_next, goes_without_data}
use Rattle.lawful_log.proofs.Entries.{entries_decide_lem}
use Rattle.lawful_log.specs.Laws.{IsOwnRule, ProfilesNest}
use Rattle.lawful_log.specs.Rules.{IsLawfulBy, KeepsGoing, MayComeBy, asks_more, fits_data, is_asked, is_trunk, may_go_by, may_give, may_have_data}
use Rattle.lawful_log.specs.declared.profile.Profile.{Profile}
use Rattle.lawful_log.specs.declared.profile.Profile.TheVariants.{Machine, TileLink}
use Rattle.lawful_log.specs.declared.rule.LogRule.{LogRule}
use Rattle.lawful_log.specs.declared.rule.LogRule.TheVariants.{InOrder, Question, Permission, Data, AcquireOnce, ProbeOnce, GrantAlone, ReleaseAlone}
use Rattle.tl_types.specs.declared.message.Body.{Body}
use Rattle.tl_types.specs.declared.message.Body.TheVariants.{AcquireBlock, ProbeBlock, ProbeAck, ProbeAckData, Release, ReleaseData, Grant, GrantData, ReleaseAck, GrantAck}
use Rattle.tl_types.specs.declared.message.Msg.{Msg}
use Rattle.tl_types.specs.declared.permission.Cap.{Cap}
use Rattle.tl_types.specs.declared.permission.Cap.TheVariants.{ToT, ToB, ToN}
use Rattle.tl_types.specs.declared.permission.Grow.{Grow}
use Rattle.tl_types.specs.declared.permission.Grow.TheVariants.{NtoB, NtoT, BtoT}
use Rattle.trace_recorder.specs.declared.logged.Direction.{Direction}
use Rattle.trace_recorder.specs.declared.logged.Direction.TheVariants.{Sent, Taken}
use Rattle.trace_recorder.specs.declared.logged.Logged.{Logged}

gives_more : (grow : Grow) (cap : Cap) → IsTrue (may_give Machine grow cap) → IsTrue (may_give TileLink grow cap)
gives_more NtoB ToB t = refl
gives_more NtoB ToT t = refl
gives_more NtoB ToN t = cc t
gives_more NtoT ToB t = cc t
gives_more NtoT ToT t = refl
gives_more NtoT ToN t = cc t
gives_more BtoT ToB t = cc t
gives_more BtoT ToT t = refl
gives_more BtoT ToN t = cc t

asked_more : (o : Option Grow) (cap : Cap) → IsTrue (is_asked Machine o cap) → IsTrue (is_asked TileLink o cap)
asked_more None cap t = refl
asked_more (Some grow) cap t = gives_more grow cap t

module _ (h line : ℕ) (log : List Logged) where
  fits_more : (o : Option Grow) (with_data : Bool) → IsTrue (fits_data Machine o with_data h line log) → IsTrue (fits_data TileLink o with_data h line log)
  fits_more None with_data t = refl
  fits_more (Some grow) true t = refl
  fits_more (Some grow) false t = t

  goes_more : (rule : LogRule) (body : Body) → IsTrue (may_go_by Machine rule body h line log) → IsTrue (may_go_by TileLink rule body h line log)
  goes_more Permission (Grant cap) t = asked_more (asked_by_next h line log) cap t
  goes_more Permission (GrantData cap bytes) t = asked_more (asked_by_next h line log) cap t
  goes_more Permission (AcquireBlock grow) t = t
  goes_more Permission (ProbeBlock cap) t = t
  goes_more Permission (ProbeAck change) t = t
  goes_more Permission (ProbeAckData change bytes) t = t
  goes_more Permission (Release change) t = t
  goes_more Permission (ReleaseData change bytes) t = t
  goes_more Permission ReleaseAck t = t
  goes_more Permission GrantAck t = t
  goes_more Data (Grant cap) t = fits_more (asked_by_next h line log) false t
  goes_more Data (GrantData cap bytes) t = fits_more (asked_by_next h line log) true t
  goes_more Data (AcquireBlock grow) t = t
  goes_more Data (ProbeBlock cap) t = t
  goes_more Data (ProbeAck change) t = t
  goes_more Data (ProbeAckData change bytes) t = t
  goes_more Data (Release change) t = t
  goes_more Data (ReleaseData change bytes) t = t
  goes_more Data ReleaseAck t = t
  goes_more Data GrantAck t = t
  goes_more InOrder body t = t
  goes_more Question body t = t
  goes_more AcquireOnce body t = t
  goes_more ProbeOnce body t = t
  goes_more GrantAlone body t = t
  goes_more ReleaseAlone body t = t

going_more : (d : Direction) (rule : LogRule) (h : ℕ) (m : Msg) (log : List Logged) → KeepsGoing Machine d rule h m log → KeepsGoing TileLink d rule h m log
going_more Sent rule h m log t = goes_more h m.line log rule m.body t
going_more Taken rule h m log t = t

pub profiles_nest_lem : ProfilesNest
profiles_nest_lem = record {
  entries = λ rule log e keeps. going_more e.direction rule e.hart e.message log keeps;
  logs = λ log all rule before rest e is. going_more e.direction rule e.hart e.message before (all rule before rest e is);
}

-- a lawful log is lawful by both profiles
pub lawful_by : (profile : Profile) (log : List Logged) → IsLawfulLog log → IsLawfulBy profile log
lawful_by Machine log lawful = (entries_decide_lem log).0 lawful
lawful_by TileLink log lawful = profiles_nest_lem.logs log ((entries_decide_lem log).0 lawful)

-- ---- whose rule is broken

own_cap : (grow : Grow) (cap : Cap) → ¬ IsTrue (may_give Machine grow cap) → IsTrue (is_trunk cap) ↔ IsTrue (may_give TileLink grow cap)
own_cap NtoB ToB breaks = absurd (breaks refl)
own_cap NtoB ToT breaks = (λ t. refl, λ t. refl)
own_cap NtoB ToN breaks = (λ t. cc t, λ t. cc t)
own_cap NtoT ToB breaks = (λ t. cc t, λ t. cc t)
own_cap NtoT ToT breaks = absurd (breaks refl)
own_cap NtoT ToN breaks = (λ t. cc t, λ t. cc t)
own_cap BtoT ToB breaks = (λ t. cc t, λ t. cc t)
own_cap BtoT ToT breaks = absurd (breaks refl)
own_cap BtoT ToN breaks = (λ t. cc t, λ t. cc t)

own_asked : (o : Option Grow) (cap : Cap) → ¬ IsTrue (is_asked Machine o cap) → IsTrue (is_trunk cap) ↔ IsTrue (is_asked TileLink o cap)
own_asked None cap breaks = absurd (breaks refl)
own_asked (Some grow) cap breaks = own_cap grow cap breaks

-- both profiles ask the same
pub same_rule : {A : Type 0} → ¬ A → IsTrue false ↔ A
same_rule breaks = (λ t. cc t, λ a. absurd (breaks a))

module _ (h line : ℕ) (log : List Logged) where
  own_data : (o : Option Grow) → ¬ IsTrue (fits_data Machine o true h line log) → IsTrue true ↔ IsTrue (fits_data TileLink o true h line log)
  own_data None breaks = absurd (breaks refl)
  own_data (Some grow) breaks = (λ t. refl, λ t. refl)

  own_without : (o : Option Grow) → ¬ IsTrue (fits_data Machine o false h line log) → IsTrue false ↔ IsTrue (fits_data TileLink o false h line log)
  own_without None breaks = absurd (breaks refl)
  own_without (Some grow) breaks = same_rule breaks

  own_sent : (rule : LogRule) (body : Body) → ¬ IsTrue (may_go_by Machine rule body h line log) → IsTrue (asks_more rule body) ↔ IsTrue (may_go_by TileLink rule body h line log)
  own_sent Permission (Grant cap) breaks = own_asked (asked_by_next h line log) cap breaks
  own_sent Permission (GrantData cap bytes) breaks = own_asked (asked_by_next h line log) cap breaks
  own_sent Permission (AcquireBlock grow) breaks = same_rule breaks
  own_sent Permission (ProbeBlock cap) breaks = same_rule breaks
  own_sent Permission (ProbeAck change) breaks = same_rule breaks
  own_sent Permission (ProbeAckData change bytes) breaks = same_rule breaks
  own_sent Permission (Release change) breaks = same_rule breaks
  own_sent Permission (ReleaseData change bytes) breaks = same_rule breaks
  own_sent Permission ReleaseAck breaks = same_rule breaks
  own_sent Permission GrantAck breaks = same_rule breaks
  own_sent Data (Grant cap) breaks = own_without (asked_by_next h line log) breaks
  own_sent Data (GrantData cap bytes) breaks = own_data (asked_by_next h line log) breaks
  own_sent Data (AcquireBlock grow) breaks = same_rule breaks
  own_sent Data (ProbeBlock cap) breaks = same_rule breaks
  own_sent Data (ProbeAck change) breaks = same_rule breaks
  own_sent Data (ProbeAckData change bytes) breaks = same_rule breaks
  own_sent Data (Release change) breaks = same_rule breaks
  own_sent Data (ReleaseData change bytes) breaks = same_rule breaks
  own_sent Data ReleaseAck breaks = same_rule breaks
  own_sent Data GrantAck breaks = same_rule breaks
  own_sent InOrder body breaks = same_rule breaks
  own_sent Question body breaks = same_rule breaks
  own_sent AcquireOnce body breaks = same_rule breaks
  own_sent ProbeOnce body breaks = same_rule breaks
  own_sent GrantAlone body breaks = same_rule breaks
  own_sent ReleaseAlone body breaks = same_rule breaks

own_taken : (rule : LogRule) (body : Body) (h : ℕ) (m : Msg) (log : List Logged) → ¬ MayComeBy rule h m log → IsTrue (asks_more rule body) ↔ MayComeBy rule h m log
own_taken InOrder body h m log breaks = same_rule breaks
own_taken Question body h m log breaks = absurd (breaks refl)
own_taken Permission body h m log breaks = absurd (breaks refl)
own_taken Data body h m log breaks = absurd (breaks refl)
own_taken AcquireOnce body h m log breaks = absurd (breaks refl)
own_taken ProbeOnce body h m log breaks = absurd (breaks refl)
own_taken GrantAlone body h m log breaks = absurd (breaks refl)
own_taken ReleaseAlone body h m log breaks = absurd (breaks refl)

own_going : (d : Direction) (rule : LogRule) (h : ℕ) (m : Msg) (log : List Logged) → ¬ KeepsGoing Machine d rule h m log → IsTrue (asks_more rule m.body) ↔ KeepsGoing TileLink d rule h m log
own_going Sent rule h m log breaks = own_sent h m.line log rule m.body breaks
own_going Taken rule h m log breaks = own_taken rule m.body h m log breaks

pub own_rule : (rule : LogRule) (e : Logged) → IsOwnRule rule e (asks_more rule e.message.body)
own_rule rule e log breaks = own_going e.direction rule e.hart e.message log breaks
