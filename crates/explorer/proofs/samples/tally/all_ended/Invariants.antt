use Rattle.std.proofs.Common.{◌≡◌, length}
use Rattle.flat_model.specs.Shown.{told}
use Rattle.explorer.specs.Sampled.{all_ended}
use Rattle.explorer.proofs.samples.tally.all_ended.Given as goal

abbrev pub invariant-loop-rest : goal.invariant-loop-rest
invariant-loop-rest l = all_ended (told l.rest) ≡ all_ended (told l.harts)

abbrev pub decreases-loop-rest : goal.decreases-loop-rest
decreases-loop-rest l = length l.rest
