use Rattle.std.proofs.Common.{◌≡◌, length}
use Rattle.image_orderings.specs.Programs.{word_in}
use Rattle.image_orderings.proofs.programs.word_in.Given as goal

abbrev pub invariant-loop-rest : goal.invariant-loop-rest
invariant-loop-rest l = word_in l.rest l.address ≡ word_in l.patches l.address

abbrev pub decreases-loop-rest : goal.decreases-loop-rest
decreases-loop-rest l = length l.rest
