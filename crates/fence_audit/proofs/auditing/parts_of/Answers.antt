use Rattle.std.proofs.Common.{◌∙◌, All, List, ap, subst, sym}
use Rattle.std.proofs.lemmas.Bool.{false≢true}
use Rattle.std.proofs.lemmas.List.Elements.{All-nil}
use Rattle.fence_audit.specs.Auditing.{IsReduction}
use Rattle.fence_audit.specs.Searches.{ArePatchesOf, AreSearched, IsSearchedBy}
use Rattle.fence_audit.specs.declared.searches.Asking.{Asking}
use Rattle.image_orderings.specs.Meeting.{IsMetOrNever, met_orderings}
use Rattle.image_orderings.specs.Programs.{own_patches}
use Rattle.image_orderings.specs.declared.orderings.ImageOrdering.{ImageOrdering}
use Rattle.image_orderings.specs.declared.replacing.Patch.{Patch}
use Rattle.fence_audit.proofs.auditing.parts_of.Goals as goal

pub returns-then-not-whole : goal.returns-then-not-whole
returns-then-not-whole g c =
    let image = c.args.question.image.now in
    let asking : Asking = record { alloc = c.args.alloc; question = c.args.question; standard = c.args.standard } in
    let bounded = c.if-not-whole.true in
    record {
      orderings = c.in_ok-orderings.ensures.found;
      met = c.in_ok-met.ensures.met ∙ ap (met_orderings image) c.deref-2.ensures.value;
      never = subst (All (λ (o : ImageOrdering). IsMetOrNever image o.address)) c.deref-2.ensures.value c.in_ok-met.ensures.never;
      own = c.in_ok-own.ensures.made ∙ ap (own_patches image) c.deref.ensures.value;
      searched = subst (AreSearched asking) (sym c.new-searches.ensures.items) (All-nil (IsSearchedBy asking));
      alone = λ so. absurd (false≢true (sym bounded ∙ so));
      weighed = λ so. absurd (false≢true (sym bounded ∙ so));
      enough = λ so. absurd (false≢true (sym bounded ∙ so));
      each = λ so. absurd (false≢true (sym bounded ∙ so));
    }

pub reduction-requires-clause-of_image : goal.reduction-requires-clause-of_image
reduction-requires-clause-of_image g c κs within = subst (ArePatchesOf c.args.question) (sym c.deref-4.ensures.value) c.in_ok-own.ensures.of_image

pub returns : goal.returns
returns g c =
    let image = c.args.question.image.now in
    let asking : Asking = record { alloc = c.args.alloc; question = c.args.question; standard = c.args.standard } in
    let searches = c.in_ok-searches.field-0.searches.items in
    let last = c.in_ok-searches.field-0.last.items in
    let is : IsReduction asking c.in_ok-met.met.items c.in_ok-own.own.items searches last = subst (λ (own : List Patch). IsReduction asking c.in_ok-met.met.items own searches last) c.deref-4.ensures.value
    (subst (λ (met : List ImageOrdering). IsReduction asking met c.deref-4.result.now searches last) c.deref-3.ensures.value c.in_ok-searches.ensures) in
    record {
      orderings = c.in_ok-orderings.ensures.found;
      met = c.in_ok-met.ensures.met ∙ ap (met_orderings image) c.deref-2.ensures.value;
      never = subst (All (λ (o : ImageOrdering). IsMetOrNever image o.address)) c.deref-2.ensures.value c.in_ok-met.ensures.never;
      own = c.in_ok-own.ensures.made ∙ ap (own_patches image) c.deref.ensures.value;
      searched = is.searched;
      alone = λ so. is.alone;
      weighed = λ so. is.weighed;
      enough = λ so. is.enough;
      each = λ so. is.each;
    }
