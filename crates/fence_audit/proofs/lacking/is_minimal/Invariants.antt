use Rattle.std.proofs.Common.{◌≡◌, length}
use Rattle.std.specs.List.{list_all}
use Rattle.fence_audit.specs.Lacking.{is_minimal, is_needed}
use Rattle.fence_audit.proofs.lacking.is_minimal.Given as goal

abbrev pub invariant-loop-rest : goal.invariant-loop-rest
invariant-loop-rest l = list_all (is_needed l.missing.searches.items l.missing.last.items) l.rest ≡ is_minimal l.missing

abbrev pub decreases-loop-rest : goal.decreases-loop-rest
decreases-loop-rest l = length l.rest
