use Rattle.std.proofs.Common.{◌≡◌, ◌++◌, ℕ, map}
use Rattle.std.specs.List.{range_with_len}
use Rattle.run_waves.specs.Telling.{seen_in}
use Rattle.run_waves.specs.declared.groups.Group.TheVariants as part
use Rattle.run_waves.proofs.watching.keep_records.Given as goal

abbrev pub invariant-loop-hart : goal.invariant-loop-hart
invariant-loop-hart l = l.seen.items ≡ l.initial.seen.items ++ map (seen_in l.machine) (map (λ (h : ℕ). part.Record h l.line) (range_with_len 0 l.hart))
