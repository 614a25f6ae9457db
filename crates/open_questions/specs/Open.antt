-- Which questions of a log no answer follows (TileLink 1.8.1, "TL-C": each Acquire is answered by a Grant, each Probe by a ProbeAck, each Release by a ReleaseAck, each Grant by a GrantAck).
use Rattle.std.specs.Prelude.{ℕ, ◌≡◌, ◌+◌, Bool, true, ◌&&◌, not, if◌then◌else◌, List, [], ◌∷◌, Option, Some, None, length}
use Rattle.std.specs.List.{list_any}
use Rattle.machine_model.specs.LawfulLog.{concerns, is_grant, is_grant_ack, is_probe_ack, is_release_ack, is_sent}
use Rattle.open_questions.specs.declared.opening.Open.{Open}
use Rattle.tl_types.specs.declared.message.Body.{Body}
use Rattle.tl_types.specs.declared.message.Body.TheVariants.{AcquireBlock, ProbeBlock, Release, ReleaseData, Grant, GrantData}
use Rattle.trace_recorder.specs.declared.logged.Logged.{Logged}

-- a message of this kind, of the client and the line, is taken
abbrev pub is_taken_in : (kind : Body → Bool) → (h line : ℕ) → List Logged → Bool
is_taken_in kind h line log = list_any (λ (e : Logged). not (is_sent e.direction) && concerns h line e && kind e.message.body) log

-- the answer that the message asks for is taken; other messages ask for none
abbrev pub is_answered : Body → (h line : ℕ) → List Logged → Bool
is_answered (AcquireBlock grow) h line log = is_taken_in is_grant h line log
is_answered (ProbeBlock cap) h line log = is_taken_in is_probe_ack h line log
is_answered (Release change) h line log = is_taken_in is_release_ack h line log
is_answered (ReleaseData change bytes) h line log = is_taken_in is_release_ack h line log
is_answered (Grant cap) h line log = is_taken_in is_grant_ack h line log
is_answered (GrantData cap bytes) h line log = is_taken_in is_grant_ack h line log
is_answered _ h line log = true

-- an entry is a question that is sent, and its answer isn't among the entries behind it
abbrev pub is_open : Logged → (behind : List Logged) → Bool
is_open e behind = is_sent e.direction && not (is_answered e.message.body e.hart e.message.line behind)

-- the numbers of those questions, where entries are counted from i
abbrev pub open_from : ℕ → List Logged → List ℕ
open_from i [] = []
open_from i (e ∷ log) = if is_open e log then i ∷ open_from (i + 1) log else open_from (i + 1) log

-- the first of them and how many they are, or none
abbrev pub LeavesOpen : List ℕ → Option Open → Type 0
LeavesOpen numbers None = numbers ≡ []
LeavesOpen numbers (Some o) = (rest : List ℕ) × (numbers ≡ o.first ∷ rest) × (o.count ≡ length numbers)
