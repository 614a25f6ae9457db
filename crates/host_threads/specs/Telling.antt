-- What a worker tells the board of its hart, by what it saw of the hart as it held the lock.
use Rattle.std.specs.Prelude.{◌≡◌, ◌⊎◌, ℕ, ◌+◌, ◌==◌, ◌||◌, Bool, false, not, max, nat_le, Option, Some, None, if◌then◌else◌}
use Rattle.hart.specs.Run.{is_running}
use Rattle.hart.specs.declared.status.Status.{Status}
use Rattle.locked_fabric.specs.FabricState.{FabricState}
use Rattle.locked_fabric.specs.Port.{IsLast, seen_in}
use Rattle.machine_types.specs.declared.event.Event.{Event}
use Rattle.machine_types.specs.declared.limits.TheConstants.{MAX_ENTRIES}
use Rattle.progress_board.specs.declared.view.View.{View}

-- the greatest length published, once that of the hart's list was, as it was seen
abbrev pub longest_with : Option (ℕ × Status) → ℕ → ℕ
longest_with None longest = longest
longest_with (Some seen) longest = max longest seen.0

-- a list of so many entries is as long as a list may be
abbrev pub is_full : ℕ → Bool
is_full length = nat_le MAX_ENTRIES length

-- the hart was seen, and retires no more: it wasn't running, or its list was full
abbrev pub is_done : Option (ℕ × Status) → Bool
is_done None = false
is_done (Some seen) = not (is_running seen.1) || is_full seen.0

-- the length is published where the machine changed and else none, and the bit is set where the hart retires no more
pub record Tells (changed : Bool) (seen : Option (ℕ × Status)) (old new : View) : Type 0 where
  pub length : new.longest ≡ (if changed then longest_with seen old.longest else old.longest)
  pub bit : new.halted ≡ (is_done seen || old.halted)

-- a share counts no event more; or it counts one, which changed the machine, and stands last in the journal of the fabric that was left
abbrev pub CountsTo : (count counted : ℕ) → FabricState → Type 0
CountsTo count counted left = (counted ≡ count) ⊎ ((counted ≡ count + 1) × ((event : Event) × IsLast event left))

-- behind a turn that left this fabric the board is told of the hart as it stands there, and of its length exactly where the turn's event counts
pub record Reports (hart count counted : ℕ) (old new : View) (left : FabricState) : Type 0 where
  pub counts : CountsTo count counted left
  pub tells : Tells (not (counted == count)) (seen_in left.machine.trace hart) old new
