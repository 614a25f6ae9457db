use Rattle.std.proofs.Common.{◌∙◌, All, ap, refl, subst, sym}
use Rattle.fence_audit.proofs.Told.{addition_of}
use Rattle.fence_audit.specs.Searches.{ArePatchesOf}
use Rattle.fence_audit.specs.declared.searches.Asking.{Asking}
use Rattle.image_orderings.specs.Adding.{patches_strengthened}
use Rattle.image_orderings.specs.Meeting.{IsMetOrNever, met_places}
use Rattle.image_orderings.specs.declared.replacing.Patch.{Patch}
use Rattle.fence_audit.proofs.allowing.missing_of.Goals as goal

pub addition-requires-clause-of_image : goal.addition-requires-clause-of_image
addition-requires-clause-of_image g c κs within =
    let question = c.args.question in
    let own : ArePatchesOf question c.deref-2.result.now = subst (ArePatchesOf question) (sym c.deref-2.ensures.value) c.in_ok-own.ensures.of_image in
    subst (ArePatchesOf question) (sym c.deref-4.ensures.value) (c.in_ok-most.ensures.of_image question.image.now own)

pub returns : goal.returns
returns g c =
    let asking : Asking = record { alloc = c.args.alloc; question = c.args.question; standard = c.args.standard } in
    let made = c.in_ok-searches.field-0 in
    let added = addition_of asking c.deref-3.result.now c.in_ok-own.own.items c.deref-4.result.now c.in_ok-most.most.items made.last.items made.searches.items c.deref-3.ensures.value c.deref-4.ensures.value c.in_ok-searches.ensures in
    record {
      world_is = refl;
      known_is = refl;
      place_is = refl;
      own = c.in_ok-own.ensures.met ∙ ap (met_places c.args.question.image.now) (c.deref.ensures.value ∙ c.in_ok-places.ensures.found);
      never = subst (All (λ (p : Patch). IsMetOrNever c.args.question.image.now p.address)) (c.deref.ensures.value ∙ c.in_ok-places.ensures.found) c.in_ok-own.ensures.never;
      most = c.in_ok-most.ensures.made ∙ ap patches_strengthened c.deref-2.ensures.value;
      searched = added.searched;
      asked = added.asked;
      enough = added.enough;
      each = added.each;
    }
