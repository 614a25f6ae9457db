use Rattle.std.proofs.Common.{subst, sym}
use Rattle.fence_audit.specs.Searches.{ArePatchesOf}
use Rattle.fence_audit.proofs.searches.Asking.ask_without.Goals as goal

pub ask-requires-clause-of_image : goal.ask-requires-clause-of_image
ask-requires-clause-of_image g c κs within =
    let question = c.args.self.now.question in
    subst (ArePatchesOf question) (sym c.deref.ensures.value) (c.in_ok-tried.ensures.of_image question.image.now c.requires.of_image)
