use Rattle.std.proofs.Common.{◌≡◌, All, List}
use Rattle.image_orderings.proofs.Inside.{addresses_with, if_made, patches_stay_with}
use Rattle.image_orderings.specs.Replaced.{IsPatchOf, addresses_of}
use Rattle.image_orderings.specs.declared.replacing.Patch.{Patch}
use Rattle.image_orderings.proofs.programs.patches_with.Goals as goal

pub returns-clause-of_image : goal.returns-clause-of_image
returns-clause-of_image c = λ image is all.
    if_made c.each_with.result (λ made. made.items) _ (All (IsPatchOf image)) (patches_stay_with image c.args.address c.args.word c.args.patches.now is all) c.each_with.ensures

pub returns-clause-places : goal.returns-clause-places
returns-clause-places c =
    if_made c.each_with.result (λ made. made.items) _ (λ (xs : List Patch). addresses_of xs ≡ addresses_of c.args.patches.now) (addresses_with c.args.address c.args.word c.args.patches.now) c.each_with.ensures
