use Rattle.std.proofs.Common.{◌≡◌, ◌<◌, ◌≤◌, ℕ, All, length}
use Rattle.machine_model.specs.Deliveries.{sent_probes}
use Rattle.machine_parts.proofs.perform.manager.send_probes.Given as goal

abbrev pub invariant-loop-hart : goal.invariant-loop-hart
invariant-loop-hart l = record {
  so_far : sent_probes l.hart-iterator l.line l.fn.cap l.parts.state ≡ sent_probes l.fn.harts l.line l.fn.cap l.fn.parts.state;
  harts : All (λ (hart : ℕ). hart < length l.parts.state.views.nodes) l.hart-iterator;
  log : length l.hart-iterator ≤ l.parts.room.log;
}
