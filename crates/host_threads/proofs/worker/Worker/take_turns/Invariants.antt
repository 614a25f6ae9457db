use Rattle.std.proofs.Common.{◌≡◌}
use Rattle.host_threads.proofs.worker.Worker.take_turns.Given as goal

abbrev pub invariant-loop-turn : goal.invariant-loop-turn
invariant-loop-turn g l = l.self.common ≡ l.fn.self.common
