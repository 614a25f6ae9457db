use Rattle.std.proofs.Common.{◌≡◌, length}
use Rattle.coherent_machine.specs.Adopting.{have_words}
use Rattle.coherent_machine.proofs.adopting.have_words.Given as goal

abbrev pub invariant-loop-rest : goal.invariant-loop-rest
invariant-loop-rest l = have_words l.fn.image l.rest ≡ have_words l.fn.image l.fn.entries

abbrev pub decreases-loop-rest : goal.decreases-loop-rest
decreases-loop-rest l = length l.rest
