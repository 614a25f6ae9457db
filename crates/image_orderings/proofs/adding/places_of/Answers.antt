use Rattle.std.proofs.Common.{◌≡◌, ◌∙◌, ◌++◌, ◌+◌, ◌-◌, ◌<◌, ◌≤◌, All, List, ap, arith, subst, sym}
use Rattle.std.proofs.lemmas.List.Elements.{All-append}
use Rattle.elf_loader.specs.Image.{end_of}
use Rattle.image_orderings.specs.Adding.{places_at, places_from}
use Rattle.image_orderings.specs.declared.replacing.Patch.{Patch}
use Rattle.image_orderings.specs.Replaced.{IsPatchOf}
use Rattle.image_orderings.proofs.Walked.{place_inside, place_walked}
use Rattle.image_orderings.proofs.adding.places_of.Goals as goal

pub loop-left-preserved : goal.loop-left-preserved
loop-left-preserved c =
    let image = c.args.image.now in
    let address = c.loop-left.address in
    let left = c.loop-left.left in
    let old = c.loop-left.found.items in
    let was = c.loop-left.invariant in
    let some : 0 < left = omega arith in
    let below : address + 4 ≤ end_of image = omega arith in
    let grown : c.add_place.new.found.items ≡ old ++ places_at image address = c.in_ok-add_place.ensures in
    let P = IsPatchOf image in (
      ap (λ (xs : List Patch). xs ++ places_from image (address + 4) (left - 1)) grown ∙ (place_walked image address left old some ∙ was.0),
      (omega arith, (omega arith, subst (All P) (sym grown) (All-append P old _ was.1.1.1 (place_inside image address (was.1.1.0, below))))),
    )
