-- The rules of the lawful log entry by entry: what each asks of an entry, behind the entries before it. Two of them ask less where TileLink alone is asked (TileLink 1.8.1, "Permissions transitions": a Grant may give more than its Acquire asked for; "TL-C": GrantData may answer any AcquireBlock).
use Rattle.std.specs.Prelude.{ℕ, ◌≡◌, Bool, true, false, ◌&&◌, not, List, ◌∷◌, ◌++◌, Option, Some, None, IsTrue, codes, is_some, length, slice_get}
use Rattle.machine_model.specs.LawfulLog.{asked_by_next, concerns, goes_without_data, is_for, is_grant, is_grant_ack, is_owed, is_probe, is_probe_ack, is_release, is_release_ack, no_acquire_open, no_grant_open, no_hart_probed, no_probe_open, no_release_open, sent_on, taken_on}
use Rattle.lawful_log.specs.declared.profile.Profile.{Profile}
use Rattle.lawful_log.specs.declared.profile.Profile.TheVariants.{Machine, TileLink}
use Rattle.lawful_log.specs.declared.rule.LogRule.{LogRule}
use Rattle.lawful_log.specs.declared.rule.LogRule.TheVariants.{InOrder, Question, Permission, Data, AcquireOnce, ProbeOnce, GrantAlone, ReleaseAlone}
use Rattle.tl_types.specs.Message.{channel_of}
use Rattle.tl_types.specs.declared.message.Body.{Body}
use Rattle.tl_types.specs.declared.message.Body.TheVariants.{AcquireBlock, ProbeBlock, ProbeAck, ProbeAckData, Release, ReleaseData, Grant, GrantData, ReleaseAck, GrantAck}
use Rattle.tl_types.specs.declared.message.Msg.{Msg}
use Rattle.tl_types.specs.declared.permission.Cap.{Cap}
use Rattle.tl_types.specs.declared.permission.Cap.TheVariants.{ToT, ToB}
use Rattle.tl_types.specs.declared.permission.Grow.{Grow}
use Rattle.tl_types.specs.declared.permission.Grow.TheVariants.{NtoB, NtoT, BtoT}
use Rattle.trace_recorder.specs.declared.logged.Direction.{Direction}
use Rattle.trace_recorder.specs.declared.logged.Direction.TheVariants.{Sent, Taken}
use Rattle.trace_recorder.specs.declared.logged.Logged.{Logged}

-- ---- what a message that is sent owes, behind a log

-- an answer has a question of its kind that has arrived and wasn't answered yet; a Grant answers the next Acquire
abbrev pub has_question : Body → ℕ → ℕ → List Logged → Bool
has_question (AcquireBlock grow) h line log = true
has_question (ProbeBlock cap) h line log = true
has_question (ProbeAck change) h line log = is_owed is_probe is_probe_ack (concerns h line) log
has_question (ProbeAckData change bytes) h line log = is_owed is_probe is_probe_ack (concerns h line) log
has_question (Release change) h line log = true
has_question (ReleaseData change bytes) h line log = true
has_question (Grant cap) h line log = is_some (asked_by_next h line log)
has_question (GrantData cap bytes) h line log = is_some (asked_by_next h line log)
has_question ReleaseAck h line log = is_owed is_release is_release_ack (concerns h line) log
has_question GrantAck h line log = is_owed is_grant is_grant_ack (concerns h line) log

-- what an Acquire may be granted: by this machine's rules what it asks for, by TileLink's no less
abbrev pub may_give : Profile → Grow → Cap → Bool
may_give Machine grow cap = is_for grow cap
may_give TileLink NtoB ToB = true
may_give TileLink grow ToT = true
may_give TileLink _ _ = false

-- a Grant gives what its Acquire may be granted; where nothing was asked that is `question`'s matter
abbrev pub is_asked : Profile → Option Grow → Cap → Bool
is_asked profile None cap = true
is_asked profile (Some grow) cap = may_give profile grow cap

abbrev pub has_permission : Profile → Body → ℕ → ℕ → List Logged → Bool
has_permission profile (Grant cap) h line log = is_asked profile (asked_by_next h line log) cap
has_permission profile (GrantData cap bytes) h line log = is_asked profile (asked_by_next h line log) cap
has_permission profile _ h line log = true

-- whether a Grant that can go without data may have some: by TileLink's rules it may
abbrev pub may_have_data : Profile → (can_go_without : Bool) → Bool
may_have_data Machine without = not without
may_have_data TileLink without = true

-- a Grant has data unless it goes without
abbrev pub fits_data : Profile → Option Grow → (with_data : Bool) → ℕ → ℕ → List Logged → Bool
fits_data profile None with_data h line log = true
fits_data profile (Some grow) true h line log = may_have_data profile (goes_without_data h line log grow)
fits_data profile (Some grow) false h line log = goes_without_data h line log grow

abbrev pub has_right_data : Profile → Body → ℕ → ℕ → List Logged → Bool
has_right_data profile (Grant cap) h line log = fits_data profile (asked_by_next h line log) false h line log
has_right_data profile (GrantData cap bytes) h line log = fits_data profile (asked_by_next h line log) true h line log
has_right_data profile _ h line log = true

abbrev pub is_acquired_once : Body → ℕ → ℕ → List Logged → Bool
is_acquired_once (AcquireBlock grow) h line log = no_acquire_open h line log
is_acquired_once _ h line log = true

abbrev pub is_probed_once : Body → ℕ → ℕ → List Logged → Bool
is_probed_once (ProbeBlock cap) h line log = no_probe_open h line log
is_probed_once _ h line log = true

-- no Probe and no Grant beside a Grant, and no Grant beside a Probe
abbrev pub leaves_grant_alone : Body → ℕ → ℕ → List Logged → Bool
leaves_grant_alone (ProbeBlock cap) h line log = no_grant_open line log
leaves_grant_alone (Grant cap) h line log = no_hart_probed line log && no_grant_open line log
leaves_grant_alone (GrantData cap bytes) h line log = no_hart_probed line log && no_grant_open line log
leaves_grant_alone _ h line log = true

-- no Acquire, ProbeAck or Release beside a Release, and no Release beside an Acquire
abbrev pub leaves_release_alone : Body → ℕ → ℕ → List Logged → Bool
leaves_release_alone (AcquireBlock grow) h line log = no_release_open h line log
leaves_release_alone (ProbeAck change) h line log = no_release_open h line log
leaves_release_alone (ProbeAckData change bytes) h line log = no_release_open h line log
leaves_release_alone (Release change) h line log = no_release_open h line log && no_acquire_open h line log
leaves_release_alone (ReleaseData change bytes) h line log = no_release_open h line log && no_acquire_open h line log
leaves_release_alone _ h line log = true

abbrev pub may_go_by : Profile → LogRule → Body → ℕ → ℕ → List Logged → Bool
may_go_by profile InOrder body h line log = true
may_go_by profile Question body h line log = has_question body h line log
may_go_by profile Permission body h line log = has_permission profile body h line log
may_go_by profile Data body h line log = has_right_data profile body h line log
may_go_by profile AcquireOnce body h line log = is_acquired_once body h line log
may_go_by profile ProbeOnce body h line log = is_probed_once body h line log
may_go_by profile GrantAlone body h line log = leaves_grant_alone body h line log
may_go_by profile ReleaseAlone body h line log = leaves_release_alone body h line log

-- ---- what a message that is taken owes

-- of what went into its queue, it is the first that hasn't come out
abbrev pub IsFront : ℕ → Msg → List Logged → Type 0
IsFront h m log = slice_get (sent_on (channel_of m) h log) (length (taken_on (channel_of m) h log)) ≡ Some m

abbrev pub MayComeBy : LogRule → ℕ → Msg → List Logged → Type 0
MayComeBy InOrder h m log = IsFront h m log
MayComeBy _ h m log = IsTrue true

-- ---- an entry keeps a rule, behind a log

abbrev pub KeepsGoing : Profile → Direction → LogRule → ℕ → Msg → List Logged → Type 0
KeepsGoing profile Sent rule h m log = IsTrue (may_go_by profile rule m.body h m.line log)
KeepsGoing profile Taken rule h m log = MayComeBy rule h m log

abbrev pub Obeys : Profile → LogRule → List Logged → Logged → Type 0
Obeys profile rule log e = KeepsGoing profile e.direction rule e.hart e.message log

-- each entry keeps each rule, behind those before it
abbrev pub IsLawfulBy : Profile → List Logged → Type 0
IsLawfulBy profile log = (rule : LogRule) (before rest : List Logged) (e : Logged) → before ++ e ∷ rest ≡ log → Obeys profile rule before e

-- this machine's rule may refuse a message to which TileLink's has nothing to object: a Grant of Trunk or of data
abbrev pub is_trunk : Cap → Bool
is_trunk ToT = true
is_trunk _ = false

abbrev pub gives_trunk : Body → Bool
gives_trunk (Grant cap) = is_trunk cap
gives_trunk (GrantData cap bytes) = is_trunk cap
gives_trunk _ = false

abbrev pub gives_data : Body → Bool
gives_data (GrantData cap bytes) = true
gives_data _ = false

abbrev pub asks_more : LogRule → Body → Bool
asks_more Permission body = gives_trunk body
asks_more Data body = gives_data body
asks_more _ body = false

-- the rules' order
abbrev pub rank : LogRule → ℕ
rank InOrder = 0
rank Question = 1
rank Permission = 2
rank Data = 3
rank AcquireOnce = 4
rank ProbeOnce = 5
rank GrantAlone = 6
rank ReleaseAlone = 7

-- their names
abbrev pub rule_name : LogRule → List ℕ
rule_name InOrder = codes "in-order"
rule_name Question = codes "question"
rule_name Permission = codes "permission"
rule_name Data = codes "data"
rule_name AcquireOnce = codes "acquire-once"
rule_name ProbeOnce = codes "probe-once"
rule_name GrantAlone = codes "grant-alone"
rule_name ReleaseAlone = codes "release-alone"
