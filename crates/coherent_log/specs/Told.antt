-- What a log says last: of a client's copy of a line, at both ends of the messages, and of the line's bytes at the manager (TileLink 1.8.1, "Permissions transitions" and "TL-C", data in ProbeAckData and ReleaseData).
use Rattle.std.specs.Prelude.{ℕ, ◌+◌, ◌&&◌, ◌==◌, Bool, if◌then◌else◌, List, [], ◌∷◌, Option, Some, None}
use Rattle.std.specs.Option.{option_or}
use Rattle.coherent_log.specs.declared.clients.ClientLog.{ClientLog}
use Rattle.coherent_log.specs.declared.clients.Held.{Held}
use Rattle.coherent_log.specs.declared.clients.Probed.{Probed}
use Rattle.coherent_log.specs.declared.lines.Brought.{Brought}
use Rattle.tl_types.specs.Permission.{left_by, named_by}
use Rattle.tl_types.specs.declared.line.LineData.{LineData}
use Rattle.tl_types.specs.declared.message.Body.{Body}
use Rattle.tl_types.specs.declared.message.Body.TheVariants.{ProbeBlock, ProbeAck, ProbeAckData, Release, ReleaseData, Grant, GrantData}
use Rattle.tl_types.specs.declared.permission.Cap.{Cap}
use Rattle.tl_types.specs.declared.permission.Perm.{Perm}
use Rattle.trace_recorder.specs.declared.logged.Direction.{Direction}
use Rattle.trace_recorder.specs.declared.logged.Direction.TheVariants.{Sent, Taken}
use Rattle.trace_recorder.specs.declared.logged.Logged.{Logged}

-- ---- what a message tells

-- the permission that its client has then: by a Grant once the client takes it, by an answer or a Release once it sends it
abbrev pub at_client : Direction → Body → Option Perm
at_client Taken (Grant cap) = Some (named_by cap)
at_client Taken (GrantData cap bytes) = Some (named_by cap)
at_client Sent (ProbeAck change) = Some (left_by change)
at_client Sent (ProbeAckData change bytes) = Some (left_by change)
at_client Sent (Release change) = Some (left_by change)
at_client Sent (ReleaseData change bytes) = Some (left_by change)
at_client _ _ = None

-- and that the manager knows it to have: by a Grant once the manager sends it, by an answer or a Release once it takes it
abbrev pub at_manager : Direction → Body → Option Perm
at_manager Sent (Grant cap) = Some (named_by cap)
at_manager Sent (GrantData cap bytes) = Some (named_by cap)
at_manager Taken (ProbeAck change) = Some (left_by change)
at_manager Taken (ProbeAckData change bytes) = Some (left_by change)
at_manager Taken (Release change) = Some (left_by change)
at_manager Taken (ReleaseData change bytes) = Some (left_by change)
at_manager _ _ = None

-- what a Probe that has arrived leaves at most
abbrev pub probed : Direction → Body → Option Cap
probed Taken (ProbeBlock cap) = Some cap
probed _ _ = None

-- the bytes that the manager has then: those that have arrived, or that it grants
abbrev pub brought : Direction → Body → Option LineData
brought Sent (GrantData cap bytes) = Some bytes
brought Taken (ProbeAckData change bytes) = Some bytes
brought Taken (ReleaseData change bytes) = Some bytes
brought _ _ = None

-- ---- with the message's number

abbrev pub held_since : ℕ → Option Perm → Option Held
held_since i None = None
held_since i (Some perm) = Some (record { perm = perm; since = i })

abbrev pub probed_at : ℕ → Option Cap → Option Probed
probed_at i None = None
probed_at i (Some cap) = Some (record { cap = cap; index = i })

abbrev pub brought_at : ℕ → Option LineData → Option Brought
brought_at i None = None
brought_at i (Some bytes) = Some (record { bytes = bytes; index = i })

-- ---- entries of a line, and of a client

abbrev pub is_of_line : ℕ → Logged → Bool
is_of_line line e = e.message.line == line

abbrev pub concerns : ℕ → ℕ → Logged → Bool
concerns h line e = e.hart == h && is_of_line line e

-- ---- the last message that tells something, where entries are counted from i

abbrev pub latest_from : {T : Type 0} → ℕ → (ℕ → Logged → Option T) → List Logged → Option T
latest_from i tells [] = None
latest_from i tells (e ∷ log) = option_or (latest_from (i + 1) tells log) (tells i e)

abbrev pub tells_held : (Direction → Body → Option Perm) → ℕ → ℕ → ℕ → Logged → Option Held
tells_held tells h line i e = if concerns h line e then held_since i (tells e.direction e.message.body) else None

abbrev pub tells_probe : ℕ → ℕ → ℕ → Logged → Option Probed
tells_probe h line i e = if concerns h line e then probed_at i (probed e.direction e.message.body) else None

abbrev pub tells_bytes : ℕ → ℕ → Logged → Option Brought
tells_bytes line i e = if is_of_line line e then brought_at i (brought e.direction e.message.body) else None

-- the client's permission, the same by the manager, and the Probe that it took last
abbrev pub client_of : ℕ → ℕ → List Logged → ClientLog
client_of h line log = record {
  held = latest_from 0 (tells_held at_client h line) log;
  noted = latest_from 0 (tells_held at_manager h line) log;
  probe = latest_from 0 (tells_probe h line) log;
}

-- the line's bytes at the manager, where some were brought or granted
abbrev pub brought_of : ℕ → List Logged → Option Brought
brought_of line log = latest_from 0 (tells_bytes line) log
