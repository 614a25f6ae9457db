-- A hart that stops at one of many outcomes.
use Rattle.std.proofs.Common.{suc, List, ◌∷◌, arith, refl}
use Rattle.architecture_outcomes.specs.declared.outcome.Outcome.{Outcome}
use Rattle.litmus_command.specs.States.{IsStopIn, IsStopOf}
use Rattle.litmus_command.specs.declared.fault.Halt.{Halt}
use Rattle.litmus_command.specs.declared.fault.Halt.TheVariants as halt

-- those at the end of a list are of it
pub of_rest : (o : Outcome) (os : List Outcome) (why : Halt) → IsStopIn os why → IsStopIn (o ∷ os) why
of_rest o os (halt.Stops hart cause) (stopped, (k, below, at), is) = (stopped, (suc k, omega (arith, below), at), is)
of_rest o os halt.Unfit stop = stop
of_rest o os halt.NoMemory stop = tt

pub of_first : (o : Outcome) (os : List Outcome) (why : Halt) → IsStopOf o why → IsStopIn (o ∷ os) why
of_first o os (halt.Stops hart cause) stop = (o, (0, omega arith, refl), stop)
of_first o os halt.Unfit stop = stop
of_first o os halt.NoMemory stop = tt
