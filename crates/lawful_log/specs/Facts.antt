-- What is counted of a log, and the rules in terms of it.
use Rattle.std.specs.Prelude.{ℕ, ◌≡◌, ◌<◌, ◌+◌, ◌^◌, Bool, true, false, ◌&&◌, not, ◌==◌, nat_lt, List, Option, Some, None, IsTrue, is_some, unwrap_or, length, slice_get}
use Rattle.machine_model.specs.LawfulLog.{asked_by_next, concerns, is_acquire, is_BtoT, is_grant, is_grant_ack, is_of_line, is_probe, is_probe_ack, is_release, is_release_ack, lost_since_asking, sent_count, sent_on, taken_count, taken_on}
use Rattle.lawful_log.specs.Rules.{is_asked, may_have_data, rank}
use Rattle.lawful_log.specs.declared.profile.Profile.{Profile}
use Rattle.lawful_log.specs.declared.facts.Facts.{Facts}
use Rattle.lawful_log.specs.declared.rule.LogRule.{LogRule}
use Rattle.lawful_log.specs.declared.rule.LogRule.TheVariants.{InOrder, Question, Permission, Data, AcquireOnce, ProbeOnce, GrantAlone, ReleaseAlone}
use Rattle.lawful_log.specs.declared.tallies.Tallies.{Tallies}
use Rattle.lawful_log.specs.declared.tallies.Tally.{Tally}
use Rattle.tl_types.specs.Message.{channel_of}
use Rattle.tl_types.specs.declared.message.Body.{Body}
use Rattle.tl_types.specs.declared.message.Body.TheVariants.{AcquireBlock, ProbeBlock, ProbeAck, ProbeAckData, Release, ReleaseData, Grant, GrantData, ReleaseAck, GrantAck}
use Rattle.tl_types.specs.declared.message.Msg.{Msg}
use Rattle.tl_types.specs.declared.permission.Grow.{Grow}
use Rattle.trace_recorder.specs.declared.logged.Direction.{Direction}
use Rattle.trace_recorder.specs.declared.logged.Direction.TheVariants.{Sent, Taken}
use Rattle.trace_recorder.specs.declared.logged.Logged.{Logged}

-- ---- tallies

abbrev pub no_tally : Tally
no_tally = record { sent = 0; taken = 0 }

abbrev pub no_tallies : Tallies
no_tallies = record { acquires = no_tally; probes = no_tally; probe_acks = no_tally; releases = no_tally; release_acks = no_tally; grants = no_tally; grant_acks = no_tally }

abbrev pub goes_up : Direction → Tally → Tally
goes_up Sent t = record { sent = t.sent + 1; taken = t.taken }
goes_up Taken t = record { sent = t.sent; taken = t.taken + 1 }

abbrev pub counted_as : Body → Direction → Tallies → Tallies
counted_as (AcquireBlock grow) d t = record t { acquires = goes_up d t.acquires }
counted_as (ProbeBlock cap) d t = record t { probes = goes_up d t.probes }
counted_as (ProbeAck change) d t = record t { probe_acks = goes_up d t.probe_acks }
counted_as (ProbeAckData change bytes) d t = record t { probe_acks = goes_up d t.probe_acks }
counted_as (Release change) d t = record t { releases = goes_up d t.releases }
counted_as (ReleaseData change bytes) d t = record t { releases = goes_up d t.releases }
counted_as (Grant cap) d t = record t { grants = goes_up d t.grants }
counted_as (GrantData cap bytes) d t = record t { grants = goes_up d t.grants }
counted_as ReleaseAck d t = record t { release_acks = goes_up d t.release_acks }
counted_as GrantAck d t = record t { grant_acks = goes_up d t.grant_acks }

abbrev pub counted : Logged → Tallies → Tallies
counted e t = counted_as e.message.body e.direction t

-- a further message can be counted
pub record CanCount (t : Tally) : Type 0 where
  pub for_sent : t.sent + 1 < 2 ^ 64
  pub for_taken : t.taken + 1 < 2 ^ 64

pub record HaveRoom (t : Tallies) : Type 0 where
  pub acquires : CanCount t.acquires
  pub probes : CanCount t.probes
  pub probe_acks : CanCount t.probe_acks
  pub releases : CanCount t.releases
  pub release_acks : CanCount t.release_acks
  pub grants : CanCount t.grants
  pub grant_acks : CanCount t.grant_acks

-- the tallies of a log
abbrev pub tally_of : (Body → Bool) → (Logged → Bool) → List Logged → Tally
tally_of kind who log = record { sent = sent_count kind who log; taken = taken_count kind who log }

abbrev pub tallies_of : (Logged → Bool) → List Logged → Tallies
tallies_of who log = record {
  acquires = tally_of is_acquire who log;
  probes = tally_of is_probe who log;
  probe_acks = tally_of is_probe_ack who log;
  releases = tally_of is_release who log;
  release_acks = tally_of is_release_ack who log;
  grants = tally_of is_grant who log;
  grant_acks = tally_of is_grant_ack who log;
}

-- ---- what an entry is judged by

-- of what went into the message's queue, the first that hasn't come out
abbrev pub front_for : ℕ → Msg → List Logged → Option Msg
front_for h m log = slice_get (sent_on (channel_of m) h log) (length (taken_on (channel_of m) h log))

-- the messages of its line in its hart's queues and in all, what the Acquire asked for that the next Grant answers, and whether the Branch copy was lost since
pub record Known : Type 0 where
  pub hart : Tallies
  pub line : Tallies
  pub asked : Option Grow
  pub lost : Bool

abbrev pub known_of : ℕ → ℕ → List Logged → Known
known_of h line log = record {
  hart = tallies_of (concerns h line) log;
  line = tallies_of (is_of_line line) log;
  asked = asked_by_next h line log;
  lost = lost_since_asking h line false log;
}

abbrev pub told : Facts → Known
told f = record { hart = f.hart.now; line = f.line.now; asked = f.asked; lost = f.lost }

-- ---- the rules

abbrev pub has_question : Body → Known → Bool
has_question (AcquireBlock grow) f = true
has_question (ProbeBlock cap) f = true
has_question (ProbeAck change) f = nat_lt f.hart.probe_acks.sent f.hart.probes.taken
has_question (ProbeAckData change bytes) f = nat_lt f.hart.probe_acks.sent f.hart.probes.taken
has_question (Release change) f = true
has_question (ReleaseData change bytes) f = true
has_question (Grant cap) f = is_some f.asked
has_question (GrantData cap bytes) f = is_some f.asked
has_question ReleaseAck f = nat_lt f.hart.release_acks.sent f.hart.releases.taken
has_question GrantAck f = nat_lt f.hart.grant_acks.sent f.hart.grants.taken

abbrev pub has_permission : Profile → Body → Known → Bool
has_permission profile (Grant cap) f = is_asked profile f.asked cap
has_permission profile (GrantData cap bytes) f = is_asked profile f.asked cap
has_permission profile _ f = true

abbrev pub without_data : Option Grow → (lost : Bool) → Option Bool
without_data None lost = None
without_data (Some grow) lost = Some (is_BtoT grow && not lost)

abbrev pub goes_without_data : Known → Option Bool
goes_without_data f = without_data f.asked f.lost

abbrev pub has_right_data : Profile → Body → Known → Bool
has_right_data profile (Grant cap) f = unwrap_or (goes_without_data f) true
has_right_data profile (GrantData cap bytes) f = may_have_data profile (unwrap_or (goes_without_data f) false)
has_right_data profile _ f = true

abbrev pub is_no_acquire_open : Known → Bool
is_no_acquire_open f = f.hart.acquires.sent == f.hart.grants.taken

abbrev pub is_acquired_once : Body → Known → Bool
is_acquired_once (AcquireBlock grow) f = is_no_acquire_open f
is_acquired_once _ f = true

abbrev pub is_probed_once : Body → Known → Bool
is_probed_once (ProbeBlock cap) f = f.hart.probes.sent == f.hart.probe_acks.taken
is_probed_once _ f = true

abbrev pub is_no_grant_open : Known → Bool
is_no_grant_open f = f.line.grants.sent == f.line.grant_acks.taken

abbrev pub leaves_grant_alone : Body → Known → Bool
leaves_grant_alone (ProbeBlock cap) f = is_no_grant_open f
leaves_grant_alone (Grant cap) f = f.line.probes.sent == f.line.probe_acks.taken && is_no_grant_open f
leaves_grant_alone (GrantData cap bytes) f = f.line.probes.sent == f.line.probe_acks.taken && is_no_grant_open f
leaves_grant_alone _ f = true

abbrev pub is_no_release_open : Known → Bool
is_no_release_open f = f.hart.releases.sent == f.hart.release_acks.taken

abbrev pub leaves_release_alone : Body → Known → Bool
leaves_release_alone (AcquireBlock grow) f = is_no_release_open f
leaves_release_alone (ProbeAck change) f = is_no_release_open f
leaves_release_alone (ProbeAckData change bytes) f = is_no_release_open f
leaves_release_alone (Release change) f = is_no_release_open f && is_no_acquire_open f
leaves_release_alone (ReleaseData change bytes) f = is_no_release_open f && is_no_acquire_open f
leaves_release_alone _ f = true

abbrev pub may_go_by : Profile → LogRule → Body → Known → Bool
may_go_by profile InOrder body f = true
may_go_by profile Question body f = has_question body f
may_go_by profile Permission body f = has_permission profile body f
may_go_by profile Data body f = has_right_data profile body f
may_go_by profile AcquireOnce body f = is_acquired_once body f
may_go_by profile ProbeOnce body f = is_probed_once body f
may_go_by profile GrantAlone body f = leaves_grant_alone body f
may_go_by profile ReleaseAlone body f = leaves_release_alone body f

-- each rule lets a message of this body go out, or this is the first that doesn't
abbrev pub FindsBroken : Profile → Known → Body → Option LogRule → Type 0
FindsBroken profile f body None = (r : LogRule) → may_go_by profile r body f ≡ true
FindsBroken profile f body (Some rule) = (may_go_by profile rule body f ≡ false) × ((r : LogRule) → rank r < rank rule → may_go_by profile r body f ≡ true)

abbrev pub MayComeBy : LogRule → Msg → (front : Option Msg) → Type 0
MayComeBy InOrder m front = front ≡ Some m
MayComeBy _ m front = IsTrue true

abbrev pub GoesBy : Profile → Direction → LogRule → Msg → (front : Option Msg) → Known → Type 0
GoesBy profile Sent rule m front f = IsTrue (may_go_by profile rule m.body f)
GoesBy profile Taken rule m front f = MayComeBy rule m front

abbrev pub KeepsBy : Profile → LogRule → (front : Option Msg) → Known → Logged → Type 0
KeepsBy profile rule front f e = GoesBy profile e.direction rule e.message front f

-- all rules are kept, or this is the first that is broken
abbrev pub FindsBreach : Profile → (front : Option Msg) → Known → Logged → Option LogRule → Type 0
FindsBreach profile front f e None = (r : LogRule) → KeepsBy profile r front f e
FindsBreach profile front f e (Some rule) = (¬ KeepsBy profile rule front f e) × ((r : LogRule) → rank r < rank rule → KeepsBy profile r front f e)
