use Rattle.std.proofs.Common.{◌≡◌, ◌++◌, map, take}
use Rattle.run_waves.specs.Telling.{seen_in}
use Rattle.run_waves.proofs.watching.keep.Given as goal

abbrev pub invariant-loop-group : goal.invariant-loop-group
invariant-loop-group l = l.seen.items ≡ l.initial.seen.items ++ map (seen_in l.machine) (take l.group-index l.groups)
