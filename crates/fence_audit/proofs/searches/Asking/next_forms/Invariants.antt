use Rattle.fence_audit.specs.SideBySide.{ArePrograms}
use Rattle.fence_audit.proofs.searches.Asking.next_forms.Given as goal

abbrev pub invariant-loop-ordering : goal.invariant-loop-ordering
invariant-loop-ordering l = ArePrograms l.self.question l.programs.items
