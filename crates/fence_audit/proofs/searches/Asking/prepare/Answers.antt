use Rattle.std.proofs.Common.{subst, sym}
use Rattle.fence_audit.specs.SideBySide.{ArePrograms}
use Rattle.fence_audit.proofs.searches.Asking.prepare.Goals as goal

pub add_new-requires-clause-of_image : goal.add_new-requires-clause-of_image
add_new-requires-clause-of_image g c = c.in_ok-program.ensures.of_image c.args.self.now.question.image.now c.requires.of_image

pub search_all-requires-clause-of_image : goal.search_all-requires-clause-of_image
search_all-requires-clause-of_image g c κs within = subst (ArePrograms c.args.self.now.question) (sym c.as_slice.ensures.value) c.loop-ordering.invariant
