use Rattle.std.proofs.Common.{◌<◌, ◌≤◌, length}
use Rattle.gate_comparisons.proofs.kept_files.examples.last_lines.Given as goal

abbrev pub invariant-loop-start : goal.invariant-loop-start
invariant-loop-start l = (l.start ≤ length l.text) × (l.lines < 2)

abbrev pub decreases-loop-start : goal.decreases-loop-start
decreases-loop-start l = l.start
