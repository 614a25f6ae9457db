-- The lawful log: which message may be sent or taken after which (TileLink 1.8.1, "TL-C", the transfers of Acquire, Probe and Release). The four serialization rules and the rule on Grants without data are this machine's own.
use Rattle.std.specs.Prelude.{ℕ, ◌≡◌, Bool, true, false, ◌&&◌, ◌||◌, not, ◌==◌, if◌then◌else◌, List, [], ◌∷◌, ◌++◌, Option, Some, None, IsTrue, filter, length, nat_lt, slice_get}
use Rattle.std.specs.List.{filter_map, list_all}
use Rattle.tl_types.specs.Message.{channel_of}
use Rattle.tl_types.specs.declared.message.Body.{Body}
use Rattle.tl_types.specs.declared.message.Body.TheVariants.{AcquireBlock, ProbeBlock, ProbeAck, ProbeAckData, Release, ReleaseData, Grant, GrantData, ReleaseAck, GrantAck}
use Rattle.tl_types.specs.declared.message.Channel.{Channel}
use Rattle.tl_types.specs.declared.message.Channel.TheVariants.{A, B, C, D, E}
use Rattle.tl_types.specs.declared.message.Msg.{Msg}
use Rattle.tl_types.specs.declared.permission.Cap.{Cap}
use Rattle.tl_types.specs.declared.permission.Cap.TheVariants.{ToT, ToB}
use Rattle.tl_types.specs.declared.permission.Change.{Change}
use Rattle.tl_types.specs.declared.permission.Change.TheVariants.{BtoN}
use Rattle.tl_types.specs.declared.permission.Grow.{Grow}
use Rattle.tl_types.specs.declared.permission.Grow.TheVariants.{NtoB, NtoT, BtoT}
use Rattle.trace_recorder.specs.declared.logged.Direction.{Direction}
use Rattle.trace_recorder.specs.declared.logged.Direction.TheVariants.{Sent, Taken}
use Rattle.trace_recorder.specs.declared.logged.Logged.{Logged}

-- ---- kinds of message: one with data is of the same kind as one without

abbrev pub is_acquire : Body → Bool
is_acquire (AcquireBlock grow) = true
is_acquire _ = false

abbrev pub is_probe : Body → Bool
is_probe (ProbeBlock cap) = true
is_probe _ = false

abbrev pub is_probe_ack : Body → Bool
is_probe_ack (ProbeAck change) = true
is_probe_ack (ProbeAckData change bytes) = true
is_probe_ack _ = false

abbrev pub is_release : Body → Bool
is_release (Release change) = true
is_release (ReleaseData change bytes) = true
is_release _ = false

abbrev pub is_grant : Body → Bool
is_grant (Grant cap) = true
is_grant (GrantData cap bytes) = true
is_grant _ = false

abbrev pub is_release_ack : Body → Bool
is_release_ack ReleaseAck = true
is_release_ack _ = false

abbrev pub is_grant_ack : Body → Bool
is_grant_ack GrantAck = true
is_grant_ack _ = false

-- ---- how many stand in a log

abbrev pub is_sent : Direction → Bool
is_sent Sent = true
is_sent Taken = false

-- the entry is of this line
abbrev pub is_of_line : ℕ → Logged → Bool
is_of_line line e = e.message.line == line

-- the entry is of this line, and of this hart's queue
abbrev pub concerns : ℕ → ℕ → Logged → Bool
concerns h line e = e.hart == h && is_of_line line e

abbrev pub sent_count : (Body → Bool) → (Logged → Bool) → List Logged → ℕ
sent_count kind who log = length (filter (λ (e : Logged). is_sent e.direction && who e && kind e.message.body) log)

abbrev pub taken_count : (Body → Bool) → (Logged → Bool) → List Logged → ℕ
taken_count kind who log = length (filter (λ (e : Logged). not (is_sent e.direction) && who e && kind e.message.body) log)

-- each question of this kind was answered, and the answer has arrived
abbrev pub is_settled : (question answer : Body → Bool) → (Logged → Bool) → List Logged → Bool
is_settled question answer who log = sent_count question who log == taken_count answer who log

-- the same of a line for every hart: each that an entry names, since nothing was sent to another, or taken
abbrev pub is_settled_for_all : (question answer : Body → Bool) → ℕ → List Logged → Bool
is_settled_for_all question answer line log = list_all (λ (e : Logged). is_settled question answer (concerns e.hart line) log) log

-- a question of this kind has arrived that wasn't answered yet
abbrev pub is_owed : (question answer : Body → Bool) → (Logged → Bool) → List Logged → Bool
is_owed question answer who log = nat_lt (sent_count answer who log) (taken_count question who log)

-- ---- the serialization rules, where a message is about to be sent behind this log

-- acquire-once: no second Acquire before the first one's Grant is taken
abbrev pub no_acquire_open : ℕ → ℕ → List Logged → Bool
no_acquire_open h line log = is_settled is_acquire is_grant (concerns h line) log

-- probe-once: no second Probe to a hart before its ProbeAck is taken
abbrev pub no_probe_open : ℕ → ℕ → List Logged → Bool
no_probe_open h line log = is_settled is_probe is_probe_ack (concerns h line) log

-- grant-alone: no Probe and no other Grant of the line, to any hart, from a Grant's sending until its GrantAck is taken
abbrev pub no_grant_open : ℕ → List Logged → Bool
no_grant_open line log = is_settled_for_all is_grant is_grant_ack line log

-- and no Grant while a ProbeAck of the line is outstanding
abbrev pub no_hart_probed : ℕ → List Logged → Bool
no_hart_probed line log = is_settled_for_all is_probe is_probe_ack line log

-- release-alone: no ProbeAck, Acquire or Release from a Release until its ReleaseAck is taken, and no Release while the hart's Acquire is unanswered
abbrev pub no_release_open : ℕ → ℕ → List Logged → Bool
no_release_open h line log = is_settled is_release is_release_ack (concerns h line) log

-- ---- the Acquire that a Grant answers

abbrev pub grow_in : Body → Option Grow
grow_in (AcquireBlock grow) = Some grow
grow_in _ = None

-- what the Acquires of the line that were taken from the hart asked for
abbrev pub grows_taken : ℕ → ℕ → List Logged → List Grow
grows_taken h line log = filter_map (λ (e : Logged). if not (is_sent e.direction) && concerns h line e then grow_in e.message.body else None) log

-- the k-th Grant answers the k-th Acquire
abbrev pub asked_by_next : ℕ → ℕ → List Logged → Option Grow
asked_by_next h line log = slice_get (grows_taken h line log) (sent_count is_grant (concerns h line) log)

abbrev pub is_BtoN : Change → Bool
is_BtoN BtoN = true
is_BtoN _ = false

-- a ProbeAck by which the hart lost its Branch copy
abbrev pub is_loss : Body → Bool
is_loss (ProbeAck change) = is_BtoN change
is_loss (ProbeAckData change bytes) = is_BtoN change
is_loss _ = false

-- one more entry: since its last Acquire of the line was sent, a ProbeAck with BtoN of the hart was taken
abbrev pub lost_after : ℕ → ℕ → Bool → Logged → Bool
lost_after h line lost e =
    if concerns h line e
    then (if is_sent e.direction then (not (is_acquire e.message.body) && lost) else (is_loss e.message.body || lost))
    else lost

abbrev pub lost_since_asking : ℕ → ℕ → Bool → List Logged → Bool
lost_since_asking h line lost [] = lost
lost_since_asking h line lost (e ∷ log) = lost_since_asking h line (lost_after h line lost e) log

abbrev pub is_BtoT : Grow → Bool
is_BtoT BtoT = true
is_BtoT _ = false

-- a Grant is without data exactly where the Acquire was BtoT and the Branch copy wasn't lost meanwhile
abbrev pub goes_without_data : ℕ → ℕ → List Logged → Grow → Bool
goes_without_data h line log grow = is_BtoT grow && not (lost_since_asking h line false log)

-- the permission that an Acquire asks for: toB for NtoB, toT for the others; said again here, since the log is judged by itself
abbrev pub is_for : Grow → Cap → Bool
is_for NtoB ToB = true
is_for NtoT ToT = true
is_for BtoT ToT = true
is_for _ _ = false

-- a Grant answers an Acquire that has arrived, gives what it asked for, and has data where it needs it
abbrev pub answers_acquire : Option Grow → (with_data : Bool) → Cap → ℕ → ℕ → List Logged → Bool
answers_acquire None with_data cap h line log = false
answers_acquire (Some grow) true cap h line log = is_for grow cap && not (goes_without_data h line log grow)
answers_acquire (Some grow) false cap h line log = is_for grow cap && goes_without_data h line log grow

abbrev pub may_grant : (with_data : Bool) → Cap → ℕ → ℕ → List Logged → Bool
may_grant with_data cap h line log = answers_acquire (asked_by_next h line log) with_data cap h line log && no_hart_probed line log && no_grant_open line log

abbrev pub may_answer_probe : ℕ → ℕ → List Logged → Bool
may_answer_probe h line log = is_owed is_probe is_probe_ack (concerns h line) log && no_release_open h line log

abbrev pub may_release : ℕ → ℕ → List Logged → Bool
may_release h line log = no_release_open h line log && no_acquire_open h line log

-- ---- what may be sent behind this log

abbrev pub may_send : Body → ℕ → ℕ → List Logged → Bool
may_send (AcquireBlock grow) h line log = no_acquire_open h line log && no_release_open h line log
may_send (ProbeBlock cap) h line log = no_probe_open h line log && no_grant_open line log
may_send (ProbeAck change) h line log = may_answer_probe h line log
may_send (ProbeAckData change bytes) h line log = may_answer_probe h line log
may_send (Release change) h line log = may_release h line log
may_send (ReleaseData change bytes) h line log = may_release h line log
may_send (Grant cap) h line log = may_grant false cap h line log
may_send (GrantData cap bytes) h line log = may_grant true cap h line log
may_send ReleaseAck h line log = is_owed is_release is_release_ack (concerns h line) log
may_send GrantAck h line log = is_owed is_grant is_grant_ack (concerns h line) log

-- ---- queues

abbrev pub is_on : Channel → Channel → Bool
is_on A A = true
is_on B B = true
is_on C C = true
is_on D D = true
is_on E E = true
is_on _ _ = false

-- the messages that went into a hart's queue of a channel, and those that came out
abbrev pub sent_on : Channel → ℕ → List Logged → List Msg
sent_on c h log = filter_map (λ (e : Logged). if is_sent e.direction && e.hart == h && is_on c (channel_of e.message) then Some e.message else None) log

abbrev pub taken_on : Channel → ℕ → List Logged → List Msg
taken_on c h log = filter_map (λ (e : Logged). if not (is_sent e.direction) && e.hart == h && is_on c (channel_of e.message) then Some e.message else None) log

abbrev pub IsBeginningOf : {X : Type 0} → List X → List X → Type 0
IsBeginningOf {X} xs ys = (rest : List X) × (xs ++ rest ≡ ys)

-- ---- the log

-- at each moment, what came out of a queue is a beginning of what went into it
abbrev pub IsLogInOrder : List Logged → Type 0
IsLogInOrder log = (c : Channel) (h : ℕ) (before rest : List Logged) → before ++ rest ≡ log → IsBeginningOf (taken_on c h before) (sent_on c h before)

pub record IsLawfulLog (log : List Logged) : Type 0 where
  pub in_order : IsLogInOrder log
  -- each message was sent where it may be
  pub each_sent : (h : ℕ) (m : Msg) (before rest : List Logged) → before ++ (record { direction = Sent; hart = h; message = m }) ∷ rest ≡ log → IsTrue (may_send m.body h m.line before)
