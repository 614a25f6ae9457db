use Rattle.std.proofs.Common.{◌≡◌, length}
use Rattle.fence_audit.specs.Searches.{search_in}
use Rattle.fence_audit.proofs.searches.search_in.Given as goal

abbrev pub invariant-loop-rest : goal.invariant-loop-rest
invariant-loop-rest l = search_in l.rest l.patches ≡ search_in l.searches l.patches

abbrev pub decreases-loop-rest : goal.decreases-loop-rest
decreases-loop-rest l = length l.rest
