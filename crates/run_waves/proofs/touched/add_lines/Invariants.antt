use Rattle.std.proofs.Common.{◌≡◌, ◌++◌, [], length}
use Rattle.run_waves.specs.Touched.{of_lines_in}
use Rattle.run_waves.proofs.touched.add_lines.Given as goal

abbrev pub invariant-loop-rest : goal.invariant-loop-rest
invariant-loop-rest l = l.list.items ++ of_lines_in l.harts l.met.keys l.rest ≡ l.initial.list.items ++ of_lines_in l.harts [] l.log

abbrev pub decreases-loop-rest : goal.decreases-loop-rest
decreases-loop-rest l = length l.rest
