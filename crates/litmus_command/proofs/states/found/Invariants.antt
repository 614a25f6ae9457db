use Rattle.std.proofs.Common.{◌≡◌, [], length}
use Rattle.litmus_command.specs.States.{IsStopIn, found, plain}
use Rattle.litmus_command.specs.declared.fault.Halt.{Halt}
use Rattle.litmus_command.proofs.states.found.Given as goal

abbrev pub invariant-loop-rest : goal.invariant-loop-rest
invariant-loop-rest l = record {
  found : found l.layout l.filter l.of (plain l.rows.items) l.rest ≡ found l.layout l.filter l.of [] l.outcomes;
  stop : (why : Halt) → IsStopIn l.rest why → IsStopIn l.outcomes why;
}

abbrev pub decreases-loop-rest : goal.decreases-loop-rest
decreases-loop-rest l = length l.rest
