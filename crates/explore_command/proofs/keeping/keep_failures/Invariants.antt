use Rattle.std.proofs.Common.{length}
use Rattle.explore_command.proofs.Kept.{HasKept}
use Rattle.explore_command.specs.Keeping.{failure_path}
use Rattle.explorer.specs.declared.found.FoundFailure.{FoundFailure}
use Rattle.explore_command.proofs.keeping.keep_failures.Given as goal

abbrev pub invariant-loop-rest : goal.invariant-loop-rest
invariant-loop-rest g l = HasKept (failure_path l.folder.name.now) (λ (f : FoundFailure). f.script) (g.F.Files.held l.initial.files) (g.F.Files.held l.files) l.folder.config l.folder.kib l.rest l.failures

abbrev pub decreases-loop-rest : goal.decreases-loop-rest
decreases-loop-rest g l = length l.rest
