use Rattle.std.proofs.Common.{◌≡◌, ◌++◌}
use Rattle.std.specs.List.{flat_map, range_with_len}
use Rattle.run_waves.specs.Touched.{copy_of}
use Rattle.run_waves.proofs.touched.add_copies.Given as goal

abbrev pub invariant-loop-hart : goal.invariant-loop-hart
invariant-loop-hart l = l.list.items ≡ l.initial.list.items ++ flat_map (copy_of l.line) (range_with_len 0 l.hart)
