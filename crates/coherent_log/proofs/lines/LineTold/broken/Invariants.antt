use Rattle.std.proofs.Common.{ℕ, ◌<◌}
use Rattle.std.specs.Option.{option_copied}
use Rattle.coherent_log.proofs.Ranks.{rule_at}
use Rattle.coherent_log.specs.Followed.{client_at}
use Rattle.coherent_log.specs.Rules.{MayGoBy}
use Rattle.coherent_log.proofs.lines.LineTold.broken.Given as goal

-- the rules asked so far let the message go
abbrev pub invariant-loop-rule : goal.invariant-loop-rule
invariant-loop-rule l = (k : ℕ) → k < l.rule-index → MayGoBy (rule_at k) (option_copied l.image) l.entry.hart l.entry.message.line l.entry.message.body (client_at l.self.clients.now) l.self.brought
