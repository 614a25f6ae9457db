use Rattle.std.proofs.Common.{◌≡◌, ◌+◌, ◌<◌, ℕ, None}
use Rattle.host_threads.specs.Asked.{Asks, place_at}
use Rattle.machine_model.specs.Views.{node_at}
use Rattle.host_threads.proofs.rounds.Rounds.next_event.Given as goal

abbrev pub invariant-loop-steps : goal.invariant-loop-steps
invariant-loop-steps l = record {
  same : l.next ≡ l.self.place;
  skipped : (k : ℕ) → k < l.steps → Asks l.self (node_at l.views l.self.hart) (place_at (l.self.place + k)) None;
}
