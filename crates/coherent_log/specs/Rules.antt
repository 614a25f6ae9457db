-- The rules of the coherent log: what each asks of a message that is sent, by what the log says before it (TileLink 1.8.1, "Permissions transitions" and "TL-C"; data-asked and data-kept in this repository's own words).
use Rattle.std.specs.Prelude.{ℕ, ◌≡◌, ◌≢◌, ◌-◌, List, Option, Some, None, codes, drop, length, take}
use Rattle.coherent_log.specs.Told.{brought_of, client_of}
use Rattle.coherent_log.specs.declared.clients.ClientLog.{ClientLog}
use Rattle.coherent_log.specs.declared.clients.Held.{Held}
use Rattle.coherent_log.specs.declared.clients.Probed.{Probed}
use Rattle.coherent_log.specs.declared.lines.Brought.{Brought}
use Rattle.coherent_log.specs.declared.rule.CoherenceRule.{CoherenceRule}
use Rattle.coherent_log.specs.declared.rule.CoherenceRule.TheVariants.{PermissionHeld, ProbeObeyed, OneWriter, DataAsked, DataKept}
use Rattle.elf_loader.specs.Image.{Initial}
use Rattle.elf_loader.specs.Size.{base}
use Rattle.tl_types.specs.Line.{bytes_of}
use Rattle.tl_types.specs.Permission.{held_before}
use Rattle.tl_types.specs.Shrink.{shrunk_by}
use Rattle.tl_types.specs.declared.message.Body.{Body}
use Rattle.tl_types.specs.declared.message.Body.TheVariants.{AcquireBlock, ProbeAck, ProbeAckData, Release, ReleaseData, Grant, GrantData}
use Rattle.tl_types.specs.declared.permission.Cap.{Cap}
use Rattle.tl_types.specs.declared.permission.Cap.TheVariants.{ToT, ToB, ToN}
use Rattle.tl_types.specs.declared.permission.Grow.{Grow}
use Rattle.tl_types.specs.declared.permission.Grow.TheVariants.{NtoB, NtoT, BtoT}
use Rattle.tl_types.specs.declared.permission.Perm.{Perm}
use Rattle.tl_types.specs.declared.permission.Perm.TheVariants.{Nothing, Branch, Trunk}
use Rattle.trace_recorder.specs.declared.logged.Direction.{Direction}
use Rattle.trace_recorder.specs.declared.logged.Direction.TheVariants.{Sent, Taken}
use Rattle.trace_recorder.specs.declared.logged.Logged.{Logged}

-- Nothing, where no message left another permission
abbrev pub perm_in : Option Held → Perm
perm_in None = Nothing
perm_in (Some held) = held.perm

-- what an Acquire begins with
abbrev pub asked_from : Grow → Perm
asked_from NtoB = Nothing
asked_from NtoT = Nothing
asked_from BtoT = Branch

-- permission-held: an Acquire and a Release begin with what their client has
abbrev pub IsPermissionHeld : Body → (has : Perm) → Type 0
IsPermissionHeld (AcquireBlock grow) has = asked_from grow ≡ has
IsPermissionHeld (Release change) has = held_before change ≡ has
IsPermissionHeld (ReleaseData change bytes) has = held_before change ≡ has
IsPermissionHeld _ has = Unit {0}

-- probe-obeyed: a ProbeAck tells what the Probe that its client took last leaves of what the client has
abbrev pub IsProbeObeyed : Body → (has : Perm) → (probe : Option Probed) → Type 0
IsProbeObeyed (ProbeAck change) has (Some probe) = change ≡ (shrunk_by has probe.cap).1
IsProbeObeyed (ProbeAckData change bytes) has (Some probe) = change ≡ (shrunk_by has probe.cap).1
IsProbeObeyed _ has probe = Unit {0}

-- beside another client's permission
abbrev pub MayBeGrantedBeside : Cap → Perm → Type 0
MayBeGrantedBeside ToT other = other ≡ Nothing
MayBeGrantedBeside ToB other = other ≢ Trunk
MayBeGrantedBeside ToN other = Unit {0}

abbrev pub MayGoBeside : Body → Perm → Type 0
MayGoBeside (Grant cap) other = MayBeGrantedBeside cap other
MayGoBeside (GrantData cap bytes) other = MayBeGrantedBeside cap other
MayGoBeside _ other = Unit {0}

-- one-writer: a Grant gives Trunk where no other client has a permission, and Branch where none has Trunk
abbrev pub IsOneWriter : Body → (h : ℕ) → (has : ℕ → Perm) → Type 0
IsOneWriter body h has = (other : ℕ) → other ≢ h → MayGoBeside body (has other)

-- data-asked: data comes from a client that has Trunk
abbrev pub IsDataAsked : Body → (has : Perm) → Type 0
IsDataAsked (ProbeAckData change bytes) has = has ≡ Trunk
IsDataAsked (ReleaseData change bytes) has = has ≡ Trunk
IsDataAsked _ has = Unit {0}

-- the image's bytes from the line on
abbrev pub IsOfImage : Initial → (line : ℕ) → List ℕ → Type 0
IsOfImage image line bytes = bytes ≡ take (length bytes) (drop (line - base) image.bytes)

-- data-kept: a Grant carries the bytes that were taken or granted last, and where none were those of the image, if it is known
abbrev pub IsDataKept : Body → Option Initial → (line : ℕ) → Option Brought → Type 0
IsDataKept (GrantData cap bytes) image line (Some brought) = bytes ≡ brought.bytes
IsDataKept (GrantData cap bytes) (Some image) line None = IsOfImage image line (bytes_of bytes)
IsDataKept (GrantData cap bytes) None line None = Unit {0}
IsDataKept _ image line brought = Unit {0}

-- what a rule asks of a message of the line and the client, by what is told of each client, and of the line's bytes
abbrev pub MayGoBy : CoherenceRule → Option Initial → (h line : ℕ) → Body → (ℕ → ClientLog) → Option Brought → Type 0
MayGoBy PermissionHeld image h line body clients brought = IsPermissionHeld body (perm_in (clients h).held)
MayGoBy ProbeObeyed image h line body clients brought = IsProbeObeyed body (perm_in (clients h).held) (clients h).probe
MayGoBy OneWriter image h line body clients brought = IsOneWriter body h (λ k. perm_in (clients k).noted)
MayGoBy DataAsked image h line body clients brought = IsDataAsked body (perm_in (clients h).held)
MayGoBy DataKept image h line body clients brought = IsDataKept body image line brought

-- an entry keeps a rule, behind a log; one that is taken keeps each
abbrev pub KeepsGoing : Direction → CoherenceRule → Option Initial → (h line : ℕ) → Body → List Logged → Type 0
KeepsGoing Sent rule image h line body log = MayGoBy rule image h line body (λ k. client_of k line log) (brought_of line log)
KeepsGoing Taken rule image h line body log = Unit {0}

abbrev pub Keeps : CoherenceRule → Option Initial → List Logged → Logged → Type 0
Keeps rule image log e = KeepsGoing e.direction rule image e.hart e.message.line e.message.body log

-- the rules' order
abbrev pub rank : CoherenceRule → ℕ
rank PermissionHeld = 0
rank ProbeObeyed = 1
rank OneWriter = 2
rank DataAsked = 3
rank DataKept = 4

-- their names
abbrev pub rule_name : CoherenceRule → List ℕ
rule_name PermissionHeld = codes "permission-held"
rule_name ProbeObeyed = codes "probe-obeyed"
rule_name OneWriter = codes "one-writer"
rule_name DataAsked = codes "data-asked"
rule_name DataKept = codes "data-kept"
