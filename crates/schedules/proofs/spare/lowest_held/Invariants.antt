use Rattle.std.proofs.Common.{◌+◌, ◌-◌, ◌≤◌}
use Rattle.elf_loader.specs.Size.{base}
use Rattle.schedules.proofs.spare.lowest_held.Given as goal

abbrev pub invariant-loop-line : goal.invariant-loop-line
invariant-loop-line l = l.line ≤ base + 1048576 + 4096

abbrev pub decreases-loop-line : goal.decreases-loop-line
decreases-loop-line l = base + l.size - l.line
