use Rattle.std.proofs.Common.{◌≡◌, ◌+◌, length}
use Rattle.allowed_outcomes.specs.Known.{allows_line}
use Rattle.fence_audit.specs.Answers.{first_refused}
use Rattle.fence_audit.proofs.answers.first_refused.Given as goal

-- all before are allowed
abbrev pub invariant-loop-rest : goal.invariant-loop-rest
invariant-loop-rest l = record {
  same : first_refused (allows_line l.allowed) l.names l.place l.rest ≡ first_refused (allows_line l.allowed) l.names 0 l.outcomes;
  count : l.place + length l.rest ≡ length l.outcomes;
}

abbrev pub decreases-loop-rest : goal.decreases-loop-rest
decreases-loop-rest l = length l.rest
