use Rattle.std.proofs.Common.{◌≡◌, ◌++◌}
use Rattle.std.specs.List.{flat_map, range_with_len}
use Rattle.run_waves.specs.Touched.{of_hart}
use Rattle.run_waves.proofs.touched.add_harts.Given as goal

abbrev pub invariant-loop-hart : goal.invariant-loop-hart
invariant-loop-hart l = l.list.items ≡ l.initial.list.items ++ flat_map (of_hart) (range_with_len 0 l.hart)
