use Rattle.std.proofs.Common.{◌≡◌, ◌++◌, length}
use Rattle.log_text.specs.Names.{without_names}
use Rattle.log_text.proofs.names.without_names.Given as goal

abbrev pub invariant-loop-kept : goal.invariant-loop-kept
invariant-loop-kept l = l.kept.items ++ without_names l.rest ≡ without_names l.fn.text

abbrev pub decreases-loop-kept : goal.decreases-loop-kept
decreases-loop-kept l = length l.rest
