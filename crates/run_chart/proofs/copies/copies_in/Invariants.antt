use Rattle.std.proofs.Common.{◌≡◌, take}
use Rattle.std.specs.Prelude.{map}
use Rattle.run_chart.specs.Copies.{copied}
use Rattle.run_chart.proofs.copies.copies_in.Given as goal

abbrev pub invariant-loop-line : goal.invariant-loop-line
invariant-loop-line l = l.copies.items ≡ map (copied l.machine l.hart) (take l.line-index l.lines)
