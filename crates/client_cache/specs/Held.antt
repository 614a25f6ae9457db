-- One copy of a line, and what becomes of it (TileLink 1.8.1, "Permissions transitions" and the messages of TL-C).
use Rattle.std.specs.Prelude.{true, false, Option, Some, None}
use Rattle.tl_types.specs.declared.line.LineData.{LineData}
use Rattle.tl_types.specs.declared.permission.Perm.{Perm}
use Rattle.tl_types.specs.declared.permission.Perm.TheVariants.{Nothing, Branch as BranchPerm, Trunk as TrunkPerm}
use Rattle.tl_types.specs.declared.permission.Cap.{Cap}
use Rattle.tl_types.specs.declared.permission.Cap.TheVariants.{ToN}
use Rattle.tl_types.specs.Permission.{named_by}
use Rattle.tl_types.specs.Shrink.{shrunk_by}
use Rattle.client_cache.specs.declared.answers.Evict.{Evict}
use Rattle.client_cache.specs.declared.answers.Evict.TheVariants.{Evicted}
use Rattle.client_cache.specs.declared.answers.Probed.{Probed}
use Rattle.client_cache.specs.declared.answers.Probed.TheVariants.{Answered}
use Rattle.client_cache.specs.declared.held.Held.{Held}
use Rattle.client_cache.specs.declared.held.Held.TheVariants.{Branch, Trunk}

-- the permission that a cache has: Nothing where it has no copy
abbrev pub perm_of : Option Held → Perm
perm_of None = Nothing
perm_of (Some (Branch bytes)) = BranchPerm
perm_of (Some (Trunk dirty bytes)) = TrunkPerm

abbrev pub bytes_in : Held → LineData
bytes_in (Branch bytes) = bytes
bytes_in (Trunk dirty bytes) = bytes

-- the bytes that memory lacks, which a copy hands back when it shrinks or leaves
abbrev pub dirty_in : Held → Option LineData
dirty_in (Branch bytes) = None
dirty_in (Trunk false bytes) = None
dirty_in (Trunk true bytes) = Some bytes

-- what giving a copy up comes to: a Release of TtoN or BtoN, with the dirty bytes
abbrev pub eviction_of : Held → Evict
eviction_of h = Evicted (shrunk_by (perm_of (Some h)) ToN).1 (dirty_in h)

-- what a Probe of a copy comes to: a ProbeAck of the change, with the dirty bytes
abbrev pub answer_of : Cap → Held → Probed
answer_of cap h = Answered (shrunk_by (perm_of (Some h)) cap).1 (dirty_in h)

-- a copy with this permission that isn't dirty
abbrev pub clean_copy : Perm → LineData → Option Held
clean_copy Nothing bytes = None
clean_copy BranchPerm bytes = Some (Branch bytes)
clean_copy TrunkPerm bytes = Some (Trunk false bytes)

-- what a Probe leaves: the permission that it allows, clean
abbrev pub shrunk_copy : Cap → Held → Option Held
shrunk_copy cap h = clean_copy (shrunk_by (perm_of (Some h)) cap).0 (bytes_in h)

abbrev pub shrunk_at : Cap → Option Held → Option Held
shrunk_at cap None = None
shrunk_at cap (Some h) = shrunk_copy cap h

-- what a Grant leaves: the permission that it gives, clean, with its bytes or, without any, the copy's own
abbrev pub granted_copy : Cap → Option LineData → Option Held → Option Held
granted_copy cap (Some bytes) before = clean_copy (named_by cap) bytes
granted_copy cap None (Some h) = clean_copy (named_by cap) (bytes_in h)
granted_copy cap None None = None
