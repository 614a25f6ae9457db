use Rattle.std.proofs.Common.{◌≡◌, ◌++◌, length}
use Rattle.explorer.specs.Sampled.{with_times}
use Rattle.explorer.proofs.samples.tally.Tally.into_sampled.Given as goal

abbrev pub invariant-loop-end : goal.invariant-loop-end
invariant-loop-end l = record {
  left : with_times l.ends.items l.times.items ++ l.end-iterator ≡ l.fn.self.ends.entries;
  as_many : length l.times.items ≡ length l.ends.items;
}
