use Rattle.std.proofs.Common.{ℕ, ◌≡◌, ◌+◌, ◌-◌, length}
use Rattle.coherent_log.specs.Followed.{client_at}
use Rattle.coherent_log.proofs.lines.reach.Given as goal

abbrev pub invariant-loop-clients : goal.invariant-loop-clients
invariant-loop-clients l = (h : ℕ) → client_at l.clients.items h ≡ client_at l.fn.clients.items h

abbrev pub decreases-loop-clients : goal.decreases-loop-clients
decreases-loop-clients l = l.client + 1 - length l.clients.items
