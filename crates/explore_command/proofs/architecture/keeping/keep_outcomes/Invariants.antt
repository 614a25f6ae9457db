use Rattle.std.proofs.Common.{length}
use Rattle.explore_command.specs.ModelKeeping.{outcome_stem, outcome_way}
use Rattle.explore_command.proofs.ModelKept.{HasKept}
use Rattle.explore_command.proofs.architecture.keeping.keep_outcomes.Given as goal

abbrev pub invariant-loop-rest : goal.invariant-loop-rest
invariant-loop-rest g l = HasKept outcome_stem outcome_way (g.F.Files.held l.initial.files) (g.F.Files.held l.files) l.folder.config l.folder.kib l.folder.name.now l.rest l.outcomes

abbrev pub decreases-loop-rest : goal.decreases-loop-rest
decreases-loop-rest g l = length l.rest
