use Rattle.std.proofs.Common.{◌≡◌, List, subst, sym}
use Rattle.fence_audit.proofs.Told.{enough_found, enough_stays}
use Rattle.fence_audit.specs.Searches.{ArePatchesOf}
use Rattle.image_orderings.specs.Replaced.{addresses_of}
use Rattle.image_orderings.specs.declared.replacing.Patch.{Patch}
use Rattle.fence_audit.proofs.searches.Asking.reduced_by.Goals as goal

pub ask-requires-clause-of_image : goal.ask-requires-clause-of_image
ask-requires-clause-of_image g c κs within =
    let question = c.args.self.now.question in
    let before : ArePatchesOf question c.deref.result.now = subst (ArePatchesOf question) (sym c.deref.ensures.value) c.requires.of_image in
    subst (ArePatchesOf question) (sym c.deref-2.ensures.value) (c.in_ok-tried.ensures.of_image question.image.now before)

pub returns-in-Same-clause-of_image : goal.returns-in-Same-clause-of_image
returns-in-Same-clause-of_image g c =
    let question = c.args.self.now.question in
    let before : ArePatchesOf question c.deref.result.now = subst (ArePatchesOf question) (sym c.deref.ensures.value) c.requires.of_image in
    c.in_ok-tried.ensures.of_image question.image.now before

pub returns-in-Same-clause-enough : goal.returns-in-Same-clause-enough
returns-in-Same-clause-enough g c =
    enough_found c.args.own.now c.args.searches.now.items c.ask.new.searches.items c.args.last.items c.in_ok-tried.tried.items c.deref-2.result.now c.in_ok-ask.field-0
    c.deref-2.ensures.value c.in_ok-ask.ensures.asked c.in-Same.is (subst (λ (ps : List Patch). addresses_of c.in_ok-tried.tried.items ≡ addresses_of ps) c.deref.ensures.value c.in_ok-tried.ensures.places) c.requires.enough

pub returns-in-Other : goal.returns-in-Other
returns-in-Other g c = record {
  enough = enough_stays c.args.own.now c.args.searches.now.items c.ask.new.searches.items c.args.last.items c.in_ok-ask.ensures.grown c.requires.enough;
  of_image = c.requires.of_image;
  grown = c.in_ok-ask.ensures.grown;
  searched = c.in_ok-ask.ensures.searched;
}
