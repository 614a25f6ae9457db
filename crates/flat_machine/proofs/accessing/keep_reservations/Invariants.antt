use Rattle.std.proofs.Common.{◌≡◌}
use Rattle.flat_machine.proofs.Reservations.{partly}
use Rattle.flat_machine.proofs.accessing.keep_reservations.Given as goal

abbrev pub invariant-loop-place : goal.invariant-loop-place
invariant-loop-place l = l.nodes.items ≡ partly l.config l.hart l.address 0 l.place l.fn.nodes.items
