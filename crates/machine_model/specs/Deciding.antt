-- What every kind of event shares when it is decided: which copy an access needs, and the miss where it isn't held.
use Rattle.std.specs.Prelude.{ℕ, Option, Some, None}
use Rattle.client_cache.specs.Cache.{Cache, copy_at, wanted}
use Rattle.client_cache.specs.Held.{bytes_in}
use Rattle.client_cache.specs.declared.answers.Want.{Want}
use Rattle.client_cache.specs.declared.answers.Want.TheVariants as want
use Rattle.client_cache.specs.declared.held.Held.{Held}
use Rattle.client_cache.specs.declared.held.Held.TheVariants.{Branch, Trunk}
use Rattle.machine_model.specs.declared.act.Act.TheVariants as act
use Rattle.machine_model.specs.declared.act.Plan.{Plan}
use Rattle.machine_model.specs.declared.act.Plan.TheVariants.{Stays, Changes}
use Rattle.machine_types.specs.declared.outcome.Outcome.TheVariants as outcome
use Rattle.tl_types.specs.declared.line.LineData.{LineData}
use Rattle.tl_types.specs.declared.permission.Grow.{Grow}
use Rattle.tl_types.specs.declared.permission.Grow.TheVariants.{NtoB, NtoT, BtoT}

abbrev pub miss_by : ℕ → Want → Plan
miss_by line want.WaitRelease = Stays outcome.WaitRelease
miss_by line want.WaitGrant = Stays outcome.WaitGrant
miss_by line want.NoTracker = Stays outcome.NoTracker
miss_by line want.SetFull = Stays outcome.SetFull
miss_by line (want.Missed grow) = Changes (act.Miss line grow)

-- a miss on a line, by the cache's rule
abbrev pub plan_miss : Cache → ℕ → Grow → Plan
plan_miss c line grow = miss_by line (wanted c line grow).0

-- what is done with a line's bytes that may be read, and a miss where there is no copy
abbrev pub reading_by : Option Held → (LineData → Plan) → Cache → ℕ → Plan
reading_by None go c line = plan_miss c line NtoB
reading_by (Some held) go c line = go (bytes_in held)

abbrev pub reading : (LineData → Plan) → Cache → ℕ → Plan
reading go c line = reading_by (copy_at c line) go c line

-- what is done with a line's bytes that may be written, and a miss without Trunk
abbrev pub writing_by : Option Held → (LineData → Plan) → Cache → ℕ → Plan
writing_by None go c line = plan_miss c line NtoT
writing_by (Some (Branch bytes)) go c line = plan_miss c line BtoT
writing_by (Some (Trunk dirty bytes)) go c line = go bytes

abbrev pub writing : (LineData → Plan) → Cache → ℕ → Plan
writing go c line = writing_by (copy_at c line) go c line
