-- The bars of a chart: what each cache holds of the lines of memory in play.
use Rattle.std.specs.Prelude.{ℕ, ◌==◌, List, [], ◌∷◌, ◌++◌, if◌then◌else◌}
use Rattle.run_chart.specs.Shapes as shape
use Rattle.run_chart.specs.declared.plan.Plan.{Plan}
use Rattle.run_chart.specs.declared.shapes.Hold.{Hold}
use Rattle.run_chart.specs.declared.shapes.Hold.TheVariants.{Nothing, Branch, Trunk, Dirty}
use Rattle.run_chart.specs.declared.bars.Place.{Place}
use Rattle.run_chart.specs.declared.rows.Copied.{Copied}
use Rattle.run_chart.specs.declared.rows.Row.{Row}

abbrev pub rank_of : Hold → ℕ
rank_of Nothing = 0
rank_of Branch = 1
rank_of Trunk = 2
rank_of Dirty = 3

-- the first copy that tells it, or else what was before
abbrev pub held : ℕ → List Copied → Hold → Hold
held line [] before = before
held line (c ∷ cs) before = if c.line == line then c.hold else held line cs before

-- a row tells what the cache of its hart holds
abbrev pub held_behind : Row → ℕ → ℕ → Hold → Hold
held_behind r hart line before = if r.hart == hart then held line r.copies.items before else before

-- where the last row ends
abbrev pub bottom : ℕ → List Row → ℕ
bottom line [] = line
bottom line (r ∷ rs) = bottom r.end rs

-- a bar from where this began to be held to the row behind which something else is, and so on to the bottom
abbrev pub bars : Plan → Place → ℕ → ℕ → Hold → List Row → List ℕ
bars plan p end from hold [] = shape.bar plan p.hart p.column (from, end) hold
bars plan p end from hold (r ∷ rs) =
    if rank_of (held_behind r p.hart p.line hold) == rank_of hold then bars plan p end from hold rs
    else shape.bar plan p.hart p.column (from, r.line) hold ++ bars plan p end r.line (held_behind r p.hart p.line hold) rs
