-- How an entry of masks shows what is noted of a line with this many harts.
use Rattle.std.specs.Prelude.{◌≡◌, ◌≢◌, ℕ, ◌<◌, ◌≤◌, Bool, true, false, ◌||◌, List, Option, Some, None, if◌then◌else◌, nat_eq, map, All, IsTrue}
use Rattle.std.specs.List.{range_with_len}
use Rattle.tl_types.specs.declared.permission.Perm.{Perm}
use Rattle.tl_types.specs.declared.permission.Perm.TheVariants.{Nothing, Branch, Trunk}
use Rattle.directory.specs.declared.answer.Known.{Known}
use Rattle.directory.specs.declared.answer.Transaction.{Transaction}
use Rattle.directory.specs.declared.answer.Transaction.TheVariants.{Idle, Probing, Granted}
use Rattle.directory.specs.declared.entry.Entry.{Entry}
use Rattle.directory.specs.declared.entry.Slot.{Slot}
use Rattle.directory.specs.Harts.{has}
use Rattle.directory.specs.Lines.{Line}

abbrev pub is_owner : Option ℕ → ℕ → Bool
is_owner None hart = false
is_owner (Some owner) hart = nat_eq owner hart

abbrev pub perm_of : Entry → ℕ → Perm
perm_of e hart = if is_owner e.owner hart then Trunk else if has e.sharers hart then Branch else Nothing

abbrev pub known_of : Entry → ℕ → Known
known_of e hart = record { perm = perm_of e hart; awaited = has e.awaited hart }

unfoldable pub notes_of_entry : ℕ → Entry → Line
notes_of_entry harts e = record { known = map (known_of e) (range_with_len 0 harts); transaction = e.transaction }

abbrev pub lines_of : ℕ → List Slot → List Line
lines_of harts slots = map (λ (s : Slot). notes_of_entry harts s.entry) slots

-- an owner other than this hart
abbrev pub other_than : Option ℕ → ℕ → Option ℕ
other_than None hart = None
other_than (Some owner) hart = if nat_eq owner hart then None else Some owner

abbrev pub owner_after : Option ℕ → ℕ → Perm → Option ℕ
owner_after owner hart Nothing = other_than owner hart
owner_after owner hart Branch = other_than owner hart
owner_after owner hart Trunk = Some hart

-- the entry after the record of one hart became this permission
pub record IsNoted (old new : Entry) (hart : ℕ) (perm : Perm) : Type 0 where
  pub perms : (h : ℕ) → h < 8 → perm_of new h ≡ (if nat_eq h hart then perm else perm_of old h)
  pub sharers : (h : ℕ) → h ≢ hart → has old.sharers h ≡ false → has new.sharers h ≡ false
  pub owner : new.owner ≡ owner_after old.owner hart perm
  pub awaited : new.awaited ≡ old.awaited
  pub transaction : new.transaction ≡ old.transaction

-- an owner is one of the harts
abbrev pub OwnerBelow : ℕ → Option ℕ → Type 0
OwnerBelow harts None = Unit {0}
OwnerBelow harts (Some owner) = owner < harts

-- while ProbeAcks are awaited, an owner other than the requester is one of those awaited
abbrev pub is_asked_back : Option ℕ → List ℕ → ℕ → Bool
is_asked_back None awaited requester = true
is_asked_back (Some owner) awaited requester = nat_eq owner requester || has awaited owner

abbrev pub TransactionFits : ℕ → Transaction → Option ℕ → List ℕ → Type 0
TransactionFits harts Idle owner awaited = Unit {0}
TransactionFits harts (Probing requester grow) owner awaited = (requester < harts) × IsTrue (is_asked_back owner awaited requester)
TransactionFits harts (Granted hart) owner awaited = Unit {0}

-- an entry names none but the harts that are there, and no other owner is left when a Grant is due
pub record IsSoundEntry (harts : ℕ) (e : Entry) : Type 0 where
  pub sharers : (h : ℕ) → harts ≤ h → has e.sharers h ≡ false
  pub awaited : (h : ℕ) → harts ≤ h → has e.awaited h ≡ false
  pub owner : OwnerBelow harts e.owner
  pub transaction : TransactionFits harts e.transaction e.owner e.awaited

pub record AreSound (harts : ℕ) (slots : List Slot) : Type 0 where
  pub few : harts ≤ 8
  pub each : All (λ (s : Slot). IsSoundEntry harts s.entry) slots
