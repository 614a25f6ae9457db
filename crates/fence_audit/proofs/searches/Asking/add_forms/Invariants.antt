use Rattle.fence_audit.specs.SideBySide.{ArePrograms}
use Rattle.fence_audit.proofs.searches.Asking.add_forms.Given as goal

abbrev pub invariant-loop-form : goal.invariant-loop-form
invariant-loop-form l = ArePrograms l.self.question l.programs.items
