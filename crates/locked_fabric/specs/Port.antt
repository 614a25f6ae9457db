-- What a port has, what it tells of the fabric behind its lock, and how it lends its seat.
use Rattle.std.specs.Borrow.{Lends, MutBor, Fml}
use Rattle.std.specs.Prelude.{◌≡◌, ◌≢◌, ◌+◌, ◌↔◌, ℕ, Err, IfOk, OnErr, OnOk, List, [], ◌∷◌, ◌++◌, length, Option, Some, None, nat_lt, slice_index_or, if◌then◌else◌}
use Rattle.std.specs.declared.result.Result.{Result}
use Rattle.std.specs.declared.sync.ledger.Ledger as ledger
use denote.RattleType.{RattleType}
use mir.Syntax.{named}
use Rattle.coherent_machine.specs.Adopting.{IsCurrent, local_of}
use Rattle.coherent_machine.specs.declared.errors.AdoptError.{AdoptError}
use Rattle.coherent_machine.specs.declared.errors.AdoptError.TheVariants.{Stale, Empty, Limit, NoMemory}
use Rattle.hart.specs.Local.{PrivateRow}
use Rattle.hart.specs.declared.state.Hart.{Hart}
use Rattle.hart.specs.declared.status.Status.{Status}
use Rattle.hart.specs.declared.status.Status.TheVariants.{Running}
use Rattle.machine_types.specs.declared.event.Event.{Event}
use Rattle.machine_types.specs.declared.outcome.Outcome.{Outcome}
use Rattle.machine_types.specs.declared.outcome.Outcome.TheVariants.{Retired}
use Rattle.machine_model.specs.Events.{verdict}
use Rattle.machine_model.specs.Events.Verdict.{IsLimited, Moves}
use Rattle.machine_model.specs.Views.{State, node_at}
use Rattle.coherent_machine.specs.ApplyError.{ApplyError}
use Rattle.progress_board.specs.contracts.seat.Seat as seat
use Rattle.progress_board.specs.declared.seat.Seat.{Seat}
use Rattle.trace_recorder.specs.History.{History, entries_of}
use Rattle.locked_fabric.specs.contracts.port.Port.{the_row}
use Rattle.locked_fabric.specs.declared.port.Port.{Port}
use Rattle.locked_fabric.specs.FabricState.{FabricState, Answered, IsKept, journalled}

-- ---- what a port has

abbrev pub seat_of : {L : Type 0} → Port L → Seat
seat_of port = port.seat

-- how many events its share counts
abbrev pub share_of : {L : Type 0} → Port L → ℕ
share_of port = port.share

-- ---- what it tells of the fabric

-- the call gave the lock back with a fabric that keeps what each fabric keeps, and this holds of it: which fabric it is, a caller can't know
abbrev pub Left : (FabricState → Type 0) → Type 0
Left P = (held : FabricState) × IsKept held × P held

-- this fabric was left by one, which kept the same, that answered so to the event, and the book grew as the share did
pub record Applied (event : Event) (result : Result Outcome ApplyError) (before after : ℕ) (new : FabricState) : Type 0 where
  pub old : FabricState
  pub kept : IsKept old
  pub answered : Answered old event result new
  pub counted : after + old.book ≡ before + new.book

-- this fabric was left by one, which kept the same, that took the row so, and the book grew as the share did: Stale where the row isn't current, else Empty, else Limit, else the event that the row is
pub record Committed (row : PrivateRow) (result : Result Outcome AdoptError) (before after : ℕ) (new : FabricState) : Type 0 where
  pub old : FabricState
  pub kept : IsKept old
  pub stale : result ≢ Err NoMemory → (result ≡ Err Stale) ↔ (IsCurrent row.first.id row old.machine → ⊥)
  pub empty : result ≢ Err NoMemory → (result ≡ Err Empty) ↔ (IsCurrent row.first.id row old.machine × (row.entries ≡ []))
  pub limit : result ≢ Err NoMemory →
      (result ≡ Err Limit)
      ↔ (IsCurrent row.first.id row old.machine × (row.entries ≢ []) × (verdict old.machine (local_of row.first.id row) ≡ IsLimited))
  pub ok : OnOk result (new ≡ journalled old (local_of row.first.id row) new.machine)
  pub err : OnErr result (new ≡ old)
  pub retired : IfOk result (λ outcome. verdict old.machine (local_of row.first.id row) ≡ Moves outcome new.machine × (outcome ≡ Retired))
  pub counted : after + old.book ≡ before + new.book

-- the event stands last in the journal
abbrev pub IsLast : Event → FabricState → Type 0
IsLast event held = (earlier : List Event) × (held.journal ≡ earlier ++ event ∷ [])

-- the length of a hart's list and its status, where there is such a hart
abbrev pub seen_in : History → ℕ → Option (ℕ × Status)
seen_in t h = if nat_lt h (length t.statuses) then Some (length (entries_of t h), slice_index_or t.statuses h Running) else None

-- the hart as it stands, where there is such a hart
abbrev pub hart_at : State → ℕ → Option Hart
hart_at s h = if nat_lt h (length s.views.nodes) then Some (node_at s h).hart else None

-- ---- how it lends its seat

-- the port with another seat
abbrev pub with_seat : (L : RattleType) → Port L.Denot → Seat → Port L.Denot
with_seat L p s = record p { seat = s }

-- the port ends with the seat that is left behind r
abbrev pub LendsSeat : (L : RattleType) (g : ledger.Ghosts L.Denot) → MutBor (Port L.Denot) → MutBor Seat → Fml
LendsSeat L g p r = Lends (the_row (record { mir = named 1; lft = [] }) L g) seat.the_row p r (with_seat L p.now)
