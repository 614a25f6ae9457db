use Rattle.std.proofs.Common.{◌≡◌, ◌++◌, length}
use Rattle.witnesses.specs.Outcomes.{output_from}
use Rattle.witnesses.proofs.output.output_of.Given as goal

abbrev pub invariant-loop-rest : goal.invariant-loop-rest
invariant-loop-rest l = l.output.items ++ output_from l.hart l.rest ≡ output_from l.reset l.entries

abbrev pub decreases-loop-rest : goal.decreases-loop-rest
decreases-loop-rest l = length l.rest
