use Rattle.std.proofs.Common.{◌≡◌, ◌≤◌, length}
use Rattle.machine_model.specs.Changing.{performs}
use Rattle.machine_parts.specs.Parts.{standing_of}
use Rattle.machine_parts.proofs.perform.drain.perform_all.Given as goal

abbrev pub invariant-loop-rest : goal.invariant-loop-rest
invariant-loop-rest l = record { rest : performs l.hart l.rest (standing_of l.parts-inside).state ≡ performs l.hart l.places l.fn.parts.state; room : length l.rest ≤ l.parts-inside.trace.room.performed }

abbrev pub decreases-loop-rest : goal.decreases-loop-rest
decreases-loop-rest l = length l.rest
