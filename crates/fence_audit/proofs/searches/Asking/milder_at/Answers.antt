use Rattle.std.proofs.Common.{All, subst, sym}
use Rattle.elf_loader.specs.Image.{word_at}
use Rattle.fence_audit.proofs.Told.{variants_of}
use Rattle.fence_audit.specs.Searches.{ArePatchesOf}
use Rattle.image_orderings.specs.Forms.{IsVariant}
use Rattle.fence_audit.proofs.searches.Asking.milder_at.Goals as goal

pub replaced_at-requires-clause-variants : goal.replaced_at-requires-clause-variants
replaced_at-requires-clause-variants g c κs within =
    let question = c.args.self.now.question in
    let image = question.image.now in
    let before : ArePatchesOf question c.deref.result.now = subst (ArePatchesOf question) (sym c.deref.ensures.value) c.requires.of_image in
    let word = c.in-Some.ensures.of_image image before in
    subst (All (IsVariant (word_at image c.args.own.address))) (sym c.deref-2.ensures.value) (variants_of image c.args.own.address c.in-Some.word c.in_ok-words.words.items word c.in_ok-words.ensures.variants)
