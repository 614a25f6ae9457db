use Rattle.std.proofs.Common.{ℕ, ◌≡◌, ◌+◌, ◌-◌, length}
use Rattle.open_questions.specs.Answers.{answered_at}
use Rattle.open_questions.proofs.answers.reach.Given as goal

abbrev pub invariant-loop-clients : goal.invariant-loop-clients
invariant-loop-clients l = (h : ℕ) → answered_at l.clients.items h ≡ answered_at l.fn.clients.items h

abbrev pub decreases-loop-clients : goal.decreases-loop-clients
decreases-loop-clients l = l.client + 1 - length l.clients.items
