-- What stands in the way of a line's bytes, and of a message.
use Rattle.std.specs.Prelude.{Result, Ok, Err, Option, Some, None}
use Rattle.machine_model.specs.declared.act.Plan.{Plan}
use Rattle.machine_model.specs.declared.act.Plan.TheVariants.{Stays}
use Rattle.machine_types.specs.declared.outcome.Outcome.{Outcome}
use Rattle.tl_types.specs.declared.line.LineData.{LineData}

-- what is done with the bytes, where there are any
abbrev pub with_line : (LineData → Plan) → Result LineData Plan → Plan
with_line go (Ok line) = go line
with_line go (Err plan) = plan

-- what is to be done, unless an outcome says why not
abbrev pub unless_stalled : Option Outcome → Plan → Plan
unless_stalled None go = go
unless_stalled (Some outcome) go = Stays outcome
