use Rattle.std.proofs.Common.{◌≡◌, false, None}
use Rattle.progress_board.specs.Seat.{harts_of}
use Rattle.host_threads.specs.Telling.{Tells}
use Rattle.host_threads.specs.Workers.{told_by}
use Rattle.host_threads.proofs.worker.Worker.pass.Given as goal

abbrev pub invariant-loop-hart : goal.invariant-loop-hart
invariant-loop-hart g l = (l.self.common ≡ l.fn.self.common) × (l.harts ≡ harts_of l.self.common.now.board) × Tells false None (told_by l.fn.self) (told_by l.self)
