use Rattle.std.proofs.Common.{◌≡◌, length}
use Rattle.std.specs.Prelude.{slice_get}
use Rattle.machine_model.specs.LawfulLog.{sent_on, taken_on}
use Rattle.log_text.proofs.waiting.front_of.Given as goal

abbrev pub invariant-loop-rest : goal.invariant-loop-rest
invariant-loop-rest l = slice_get (sent_on l.channel l.hart l.rest) l.left ≡ slice_get (sent_on l.channel l.hart l.log) (length (taken_on l.channel l.hart l.log))

abbrev pub decreases-loop-rest : goal.decreases-loop-rest
decreases-loop-rest l = length l.rest
