use Rattle.std.proofs.Common.{ℕ, ◌<◌, ◌≡◌, true}
use Rattle.lawful_log.proofs.Ranks.{rule_at}
use Rattle.lawful_log.specs.Facts.{may_go_by, told}
use Rattle.lawful_log.proofs.facts.Facts.broken.Given as goal

-- the rules asked so far let the message go
abbrev pub invariant-loop-rule : goal.invariant-loop-rule
invariant-loop-rule l = (k : ℕ) → k < l.rule-index → may_go_by l.profile (rule_at k) l.body (told l.self) ≡ true
