use Rattle.std.proofs.Common.{◌≡◌, List, subst, sym}
use Rattle.std.proofs.lemmas.List.Elements.{All-get_or}
use Rattle.elf_loader.specs.Image.{word_at}
use Rattle.fence_audit.proofs.Told.{enough_found, enough_stays, grows_on}
use Rattle.fence_audit.specs.Searches.{ArePatchesOf}
use Rattle.image_orderings.specs.Forms.{IsVariant}
use Rattle.image_orderings.specs.Replaced.{addresses_of}
use Rattle.image_orderings.specs.declared.replacing.Patch.{Patch}
use Rattle.fence_audit.proofs.searches.Asking.replaced_at.Goals as goal

pub ask-requires-clause-of_image : goal.ask-requires-clause-of_image
ask-requires-clause-of_image g c κs within =
    let question = c.args.self.now.question in
    let before : ArePatchesOf question c.deref.result.now = subst (ArePatchesOf question) (sym c.deref.ensures.value) c.loop-form.invariant.of_image in
    let variant = All-get_or (IsVariant (word_at question.image.now c.args.address)) c.args.words.now c.loop-form.form-index 0 c.loop-form-test.true c.requires.variants in
    subst (ArePatchesOf question) (sym c.deref-in-loop-form.ensures.value) (c.in_ok-tried.ensures.of_image question.image.now variant before)

pub returns-in-Same-clause-of_image : goal.returns-in-Same-clause-of_image
returns-in-Same-clause-of_image g c =
    let question = c.args.self.now.question in
    let before : ArePatchesOf question c.deref.result.now = subst (ArePatchesOf question) (sym c.deref.ensures.value) c.loop-form.invariant.of_image in
    let variant = All-get_or (IsVariant (word_at question.image.now c.args.address)) c.args.words.now c.loop-form.form-index 0 c.loop-form-test.true c.requires.variants in
    c.in_ok-tried.ensures.of_image question.image.now variant before

pub returns-in-Same-clause-enough : goal.returns-in-Same-clause-enough
returns-in-Same-clause-enough g c =
    enough_found c.args.own.now c.loop-form.searches.items c.ask.new.searches.items c.args.last.items c.in_ok-tried.tried.items c.deref-in-loop-form.result.now c.in_ok-answer.answer
    c.deref-in-loop-form.ensures.value c.in_ok-answer.ensures.asked c.in-Same.is (subst (λ (ps : List Patch). addresses_of c.in_ok-tried.tried.items ≡ addresses_of ps) c.deref.ensures.value c.in_ok-tried.ensures.places) c.loop-form.invariant.enough

pub returns-in-Same-clause-grown : goal.returns-in-Same-clause-grown
returns-in-Same-clause-grown g c = grows_on c.args.searches.now.items c.loop-form.searches.items c.ask.new.searches.items c.loop-form.invariant.grown c.in_ok-answer.ensures.grown

pub returns-in-Same-clause-searched : goal.returns-in-Same-clause-searched
returns-in-Same-clause-searched g c = λ first. c.in_ok-answer.ensures.searched (c.loop-form.invariant.searched first)

pub loop-form-preserved : goal.loop-form-preserved
loop-form-preserved g c =
    let was = c.loop-form.invariant in
    let old = c.loop-form.searches.items in
    let new = c.ask.new.searches.items in
    record {
      enough = enough_stays c.args.own.now old new c.args.last.items c.in_ok-answer.ensures.grown was.enough;
      of_image = was.of_image;
      grown = grows_on c.args.searches.now.items old new was.grown c.in_ok-answer.ensures.grown;
      searched = λ first. c.in_ok-answer.ensures.searched (was.searched first);
    }
