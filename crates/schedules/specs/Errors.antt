-- Which errors an event that isn't taken comes to.
use Rattle.std.specs.Prelude.{ℕ, ◌<◌}
use Rattle.schedules.specs.declared.errors.Fault.{Fault}
use Rattle.schedules.specs.declared.errors.Fault.TheVariants as fault
use Rattle.schedules.specs.declared.errors.RealiseError.{RealiseError}
use Rattle.schedules.specs.declared.errors.RealiseError.TheVariants.{NoMemory, Limit, Unrealised}

abbrev pub of_fault : Fault → RealiseError
of_fault fault.NoMemory = NoMemory
of_fault fault.Limit = Limit

-- an event that wasn't realised is one of so many
abbrev pub IsOneOf : (count : ℕ) → RealiseError → Type 0
IsOneOf count (Unrealised index) = index < count
IsOneOf count _ = Unit {0}
