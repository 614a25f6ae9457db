use Rattle.std.proofs.Common.{◌≡◌, length}
use Rattle.trace_text.specs.Causes.{wrong_in}
use Rattle.trace_text.proofs.script_causes.wrong_in.Given as goal

abbrev pub invariant-loop-left : goal.invariant-loop-left
invariant-loop-left l = wrong_in l.left l.rest ≡ wrong_in l.fields l.bytes

abbrev pub decreases-loop-left : goal.decreases-loop-left
decreases-loop-left l = length l.left
