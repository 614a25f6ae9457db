use Rattle.std.proofs.Common.{◌≡◌, ◌++◌, length}
use Rattle.litmus_command.specs.Listing.{texts_of}
use Rattle.litmus_command.specs.Requests.{texts}
use Rattle.litmus_command.proofs.line.pending_of.Given as goal

abbrev pub invariant-loop-rest : goal.invariant-loop-rest
invariant-loop-rest l = texts_of l.pending.items ++ texts l.rest ≡ texts l.names

abbrev pub decreases-loop-rest : goal.decreases-loop-rest
decreases-loop-rest l = length l.rest
