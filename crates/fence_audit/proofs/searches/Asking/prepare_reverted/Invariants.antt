use Rattle.fence_audit.specs.SideBySide.{ArePrograms}
use Rattle.fence_audit.proofs.searches.Asking.prepare_reverted.Given as goal

abbrev pub invariant-loop-patch : goal.invariant-loop-patch
invariant-loop-patch g l = ArePrograms l.self.question l.programs.items
