use Rattle.std.proofs.Common.{◌≡◌, ◌∙◌, ◌++◌, ◌+◌, ◌-◌, ◌<◌, ◌≤◌, All, List, ap, arith, subst, sym}
use Rattle.std.proofs.lemmas.List.Elements.{All-append}
use Rattle.elf_loader.specs.Image.{HasWord, end_of, word_at}
use Rattle.image_orderings.specs.Orderings.{orderings_at, orderings_from, parts_in}
use Rattle.image_orderings.specs.declared.orderings.ImageOrdering.{ImageOrdering}
use Rattle.image_orderings.proofs.Walked.{at_inside, one_walked}
use Rattle.image_orderings.proofs.orderings.orderings_of.Goals as goal
use Rattle.rv32_decode.specs.Rows.{decoded}

pub loop-left-preserved : goal.loop-left-preserved
loop-left-preserved c =
    let image = c.args.image.now in
    let address = c.loop-left.address in
    let left = c.loop-left.left in
    let old = c.loop-left.found.items in
    let was = c.loop-left.invariant in
    let some : 0 < left = omega arith in
    let below : address + 4 ≤ end_of image = omega arith in
    let grown : c.add_at.new.found.items ≡ old ++ orderings_at image address = c.in_ok-add_at.ensures in
    let P = λ (o : ImageOrdering). HasWord image o.address in (
      ap (λ (xs : List ImageOrdering). xs ++ orderings_from image (address + 4) (left - 1)) grown ∙ (one_walked image address left old some ∙ was.0),
      (omega arith, (omega arith, subst (All P) (sym grown) (All-append P old _ was.1.1.1 (at_inside image address (parts_in (decoded (word_at image address))) (was.1.1.0, below))))),
    )
