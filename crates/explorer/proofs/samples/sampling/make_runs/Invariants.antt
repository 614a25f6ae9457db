use Rattle.std.proofs.Common.{◌-◌, ◌≤◌}
use Rattle.explorer.specs.Sampled.{IsTally}
use Rattle.explorer.proofs.samples.sampling.make_runs.Given as goal

abbrev pub invariant-loop-tally : goal.invariant-loop-tally
invariant-loop-tally g l = record {
  tally : IsTally l.program.image.now l.program.config l.tally;
  within : l.tally.runs ≤ l.sampling.runs;
}

abbrev pub decreases-loop-tally : goal.decreases-loop-tally
decreases-loop-tally g l = l.sampling.runs - l.tally.runs
