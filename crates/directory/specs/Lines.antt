-- What the manager notes of one line, and what each message makes of it (TileLink 1.8.1, "TL-C": Acquire, Probe and
-- Grant, Release). It knows no masks.
use Rattle.std.specs.Prelude.{ℕ, Bool, true, false, not, ◌&&◌, List, [], ◌∷◌, Option, Some, None, if◌then◌else◌, nat_eq, length, map, slice_set, slice_index_or}
use Rattle.std.specs.List.{range_with_len, list_any}
use Rattle.tl_types.specs.declared.permission.Perm.{Perm}
use Rattle.tl_types.specs.declared.permission.Perm.TheVariants.{Nothing, Branch, Trunk}
use Rattle.tl_types.specs.declared.permission.Grow.{Grow}
use Rattle.tl_types.specs.declared.permission.Grow.TheVariants.{NtoB, NtoT, BtoT}
use Rattle.tl_types.specs.declared.permission.Cap.{Cap}
use Rattle.tl_types.specs.declared.permission.Cap.TheVariants.{ToB, ToN}
use Rattle.tl_types.specs.declared.permission.Change.{Change}
use Rattle.tl_types.specs.Permission.{named_by, granted_for, left_by}
use Rattle.directory.specs.declared.answer.Known.{Known}
use Rattle.directory.specs.declared.answer.Transaction.{Transaction}
use Rattle.directory.specs.declared.answer.Transaction.TheVariants.{Idle, Probing, Granted}
use Rattle.directory.specs.declared.answer.Grant.{Grant}
use Rattle.directory.specs.declared.answer.Acquired.{Acquired}
use Rattle.directory.specs.declared.answer.Acquired.TheVariants.{Handled, Busy}
use Rattle.directory.specs.declared.answer.Sent.TheVariants.{Probes, Granting}
use Rattle.directory.specs.Harts.{harts_below}

-- what is noted of each hart, hart 0 first, and where the line's transaction stands
pub record Line : Type 0 where
  pub known : List Known
  pub transaction : Transaction

abbrev pub unknown : Known
unknown = record { perm = Nothing; awaited = false }

abbrev pub known_at : Line → ℕ → Known
known_at l hart = slice_index_or l.known hart unknown

-- the record of a hart becomes this permission
abbrev pub noted : Line → ℕ → Perm → Line
noted l hart perm = record l { known = slice_set l.known hart (record (known_at l hart) { perm = perm }) }

-- which permissions of another hart stand in the way of an Acquire: for reading a Trunk, for writing each copy
abbrev pub conflicts : Grow → Perm → Bool
conflicts NtoB Trunk = true
conflicts NtoB Branch = false
conflicts NtoB Nothing = false
conflicts NtoT Trunk = true
conflicts NtoT Branch = true
conflicts NtoT Nothing = false
conflicts BtoT Trunk = true
conflicts BtoT Branch = true
conflicts BtoT Nothing = false

-- to what those harts are probed
abbrev pub probe_cap : Grow → Cap
probe_cap NtoB = ToB
probe_cap NtoT = ToN
probe_cap BtoT = ToN

-- whether a hart is probed for this requester's Acquire
abbrev pub is_probed : Line → ℕ → Grow → ℕ → Bool
is_probed l requester grow hart = not (nat_eq hart requester) && conflicts grow (known_at l hart).perm

-- the harts that are probed, rising
abbrev pub probed : Line → ℕ → Grow → List ℕ
probed l requester grow = harts_below (length l.known) (is_probed l requester grow)

-- the Probes are sent: each probed hart's ProbeAck is awaited
abbrev pub probing : Line → ℕ → Grow → Line
probing l requester grow = record {
  known = map (λ hart. record (known_at l hart) { awaited = is_probed l requester grow hart }) (range_with_len 0 (length l.known));
  transaction = Probing requester grow;
}

-- a Grant is without data where the requester asks to write what it reads, and its record still is Branch
abbrev pub needs_data : Grow → Perm → Bool
needs_data BtoT Branch = false
needs_data BtoT Trunk = true
needs_data BtoT Nothing = true
needs_data NtoB perm = true
needs_data NtoT perm = true

-- the Grant is sent, by the record at that moment
abbrev pub grant_for : Line → ℕ → Grow → Grant
grant_for l requester grow = record { hart = requester; cap = granted_for grow; with_data = needs_data grow (known_at l requester).perm }

-- and the record takes what it grants
abbrev pub granting : Line → ℕ → Grow → Line
granting l requester grow = record (noted l requester (named_by (granted_for grow))) { transaction = Granted requester }

-- an Acquire: the Probes, or the Grant where there is nobody to probe
abbrev pub acquired_by : Line → ℕ → Grow → List ℕ → Acquired × Line
acquired_by l requester grow [] = (Handled (Granting (grant_for l requester grow)), granting l requester grow)
acquired_by l requester grow (hart ∷ harts) = (Handled (Probes (probe_cap grow) (hart ∷ harts)), probing l requester grow)

-- Busy while the line has a transaction
abbrev pub acquired_in : Transaction → Line → ℕ → Grow → Acquired × Line
acquired_in Idle l requester grow = acquired_by l requester grow (probed l requester grow)
acquired_in (Probing other wanted) l requester grow = (Busy, l)
acquired_in (Granted other) l requester grow = (Busy, l)

abbrev pub acquired : Line → ℕ → Grow → Acquired × Line
acquired l requester grow = acquired_in l.transaction l requester grow

-- a ProbeAck: the record becomes what the change ends in, and the hart is no longer awaited
abbrev pub acknowledged : Line → ℕ → Change → Line
acknowledged l hart change = record l { known = slice_set l.known hart (record { perm = left_by change; awaited = false }) }

abbrev pub is_any_awaited : Line → Bool
is_any_awaited l = list_any (λ (k : Known). k.awaited) l.known

-- the last ProbeAck of a transaction sends its Grant
abbrev pub answered_in : Transaction → Line → Option Grant × Line
answered_in Idle l = (None, l)
answered_in (Probing requester grow) l = if is_any_awaited l then (None, l) else (Some (grant_for l requester grow), granting l requester grow)
answered_in (Granted hart) l = (None, l)

abbrev pub probe_acked : Line → ℕ → Change → Option Grant × Line
probe_acked l hart change = answered_in l.transaction (acknowledged l hart change)

-- a Release, in every state of the transaction: nothing is left, and awaited harts stay awaited
abbrev pub released : Line → ℕ → Line
released l hart = noted l hart Nothing

-- a GrantAck ends the transaction
abbrev pub grant_acked : Line → Line
grant_acked l = record l { transaction = Idle }
