use Rattle.machine_model.proofs.order.Whole.{performed_once_always}
use Rattle.machine_model.proofs.room.Queues.{queues_fit_always}
use Rattle.machine_model.proofs.coherence.WorldSlots.{grants_have_slots_always, reserved_is_trunk_always}
use Rattle.machine_model.proofs.room_laws.room_always.Goals as goal

pub returns : goal.returns
returns c = λ image config events is. record {
  queues = queues_fit_always image config events is;
  grants = grants_have_slots_always image config events is;
  performed = performed_once_always image config events is;
  reserved = reserved_is_trunk_always image config events is;
}
