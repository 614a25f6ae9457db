use Rattle.std.proofs.Common.{ℕ, ◌<◌, ◌≡◌}
use Rattle.coherent_log.specs.Followed.{client_at}
use Rattle.coherent_log.specs.Rules.{MayGoBeside, perm_in}
use Rattle.coherent_log.proofs.lines.LineTold.holder_beside.Given as goal

-- the message may go beside each other client so far
abbrev pub invariant-loop-other : goal.invariant-loop-other
invariant-loop-other l = (k : ℕ) → k < l.other → (k ≡ l.hart → ⊥) → MayGoBeside l.body (perm_in (client_at l.self.clients.now k).noted)
