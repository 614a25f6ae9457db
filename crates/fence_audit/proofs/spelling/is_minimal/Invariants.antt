use Rattle.std.proofs.Common.{◌≡◌, length}
use Rattle.std.specs.List.{list_all}
use Rattle.fence_audit.specs.Text.{is_minimal, is_needed_in}
use Rattle.fence_audit.proofs.spelling.is_minimal.Given as goal

abbrev pub invariant-loop-rest : goal.invariant-loop-rest
invariant-loop-rest l = list_all (is_needed_in l.audit.searches.items l.audit.last.items) l.rest ≡ is_minimal l.audit

abbrev pub decreases-loop-rest : goal.decreases-loop-rest
decreases-loop-rest l = length l.rest
