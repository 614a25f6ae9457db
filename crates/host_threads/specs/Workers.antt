-- What contracts see of a worker, and what its thread hands back.
use Rattle.std.specs.Prelude.{◌≡◌, ℕ, true, Option}
use Rattle.host_threads.specs.Endings.{IsReason}
use Rattle.host_threads.specs.Pace.{IsPaced}
use Rattle.host_threads.specs.declared.common.Common.{Common}
use Rattle.host_threads.specs.declared.worker.Done.{Done}
use Rattle.host_threads.specs.declared.worker.Worker.{Worker}
use Rattle.hart.specs.declared.status.Status.{Status}
use Rattle.locked_fabric.specs.declared.turn.Turn as turn
use Rattle.locked_fabric.specs.Port.{seat_of, share_of}
use Rattle.progress_board.specs.Seat.{IsSeatOf, view}
use Rattle.progress_board.specs.declared.view.View.{View}

-- what it shares with the run's other workers
abbrev pub common_of : {L T : Type 0} {g : turn.Ghosts T} → Worker L T g → Common
common_of worker = worker.common.now

-- what it told the board and drew there
abbrev pub told_by : {L T : Type 0} {g : turn.Ghosts T} → Worker L T g → View
told_by worker = view (seat_of worker.port)

-- how many events count for it
abbrev pub counted_by : {L T : Type 0} {g : turn.Ghosts T} → Worker L T g → ℕ
counted_by worker = share_of worker.port

-- what picks its hart's events
abbrev pub turn_of : {L T : Type 0} {g : turn.Ghosts T} → Worker L T g → T
turn_of worker = worker.turn.turn

-- the length of its hart's list and the hart's status, as it saw them last
abbrev pub seen_by : {L T : Type 0} {g : turn.Ghosts T} → Worker L T g → Option (ℕ × Status)
seen_by worker = worker.turn.seen

-- its seat, whose hart has halted, a share that counts no more events than the seat drew numbers below the limit, and why it ended
pub record HandsBack {L : Type 0} (common : Common) (done : Done L) : Type 0 where
  pub seat : IsSeatOf common.board done.seat
  pub halted : (view done.seat).halted ≡ true
  pub paced : IsPaced common.limit (view done.seat) done.share
  pub reason : IsReason common (view done.seat) done.ending
