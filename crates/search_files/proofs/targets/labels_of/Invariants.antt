use Rattle.std.proofs.Common.{◌≡◌, ◌++◌, length}
use Rattle.search_files.specs.Targets.{names_of}
use Rattle.search_files.proofs.targets.labels_of.Given as goal

abbrev pub invariant-loop-rest : goal.invariant-loop-rest
invariant-loop-rest l = l.names.items ++ names_of l.rest ≡ names_of l.words

abbrev pub decreases-loop-rest : goal.decreases-loop-rest
decreases-loop-rest l = length l.rest
