-- How the outcomes of events are spelled: by their names, with the code or the line's address behind it.
use Rattle.std.specs.Prelude.{ℕ, List, [], ◌∷◌, ◌++◌, codes, decimal}
use Rattle.text_fields.specs.Fields.{word}
use Rattle.machine_types.specs.declared.outcome.Outcome.{Outcome}
use Rattle.machine_types.specs.declared.outcome.Outcome.TheVariants.{Retired, Stopped, Exited, Drained, Delivered, Evicted, Missed, Halted, WaitRelease, WaitGrant, NoTracker, SetFull, BufferFull, MustDrain, NoEntry, NotOldest, Empty, Busy, Releasing, AckFull, NotHeld, AcquirePending, ReleaseFull, NotLocal}

-- its name
abbrev pub name : Outcome → List ℕ
name Retired = codes "Retired"
name (Stopped code) = codes "Stopped"
name (Exited code) = codes "Exited"
name Drained = codes "Drained"
name Delivered = codes "Delivered"
name Evicted = codes "Evicted"
name (Missed line) = codes "Missed"
name Halted = codes "Halted"
name WaitRelease = codes "WaitRelease"
name WaitGrant = codes "WaitGrant"
name NoTracker = codes "NoTracker"
name SetFull = codes "SetFull"
name BufferFull = codes "BufferFull"
name MustDrain = codes "MustDrain"
name NoEntry = codes "NoEntry"
name NotOldest = codes "NotOldest"
name Empty = codes "Empty"
name Busy = codes "Busy"
name Releasing = codes "Releasing"
name AckFull = codes "AckFull"
name NotHeld = codes "NotHeld"
name AcquirePending = codes "AcquirePending"
name ReleaseFull = codes "ReleaseFull"
name NotLocal = codes "NotLocal"

-- the code or the address that it has, behind a space
abbrev pub detail : Outcome → List ℕ
detail Retired = []
detail (Stopped code) = 32 ∷ decimal code
detail (Exited code) = 32 ∷ decimal code
detail Drained = []
detail Delivered = []
detail Evicted = []
detail (Missed line) = 32 ∷ word line
detail Halted = []
detail WaitRelease = []
detail WaitGrant = []
detail NoTracker = []
detail SetFull = []
detail BufferFull = []
detail MustDrain = []
detail NoEntry = []
detail NotOldest = []
detail Empty = []
detail Busy = []
detail Releasing = []
detail AckFull = []
detail NotHeld = []
detail AcquirePending = []
detail ReleaseFull = []
detail NotLocal = []

abbrev pub outcome : Outcome → List ℕ
outcome o = name o ++ detail o
