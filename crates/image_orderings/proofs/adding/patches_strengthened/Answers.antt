use Rattle.std.proofs.Common.{◌≡◌, All, List}
use Rattle.image_orderings.proofs.Inside.{addresses_strengthened, if_made, patches_stay_strengthened}
use Rattle.image_orderings.specs.Replaced.{IsPatchOf, addresses_of}
use Rattle.image_orderings.specs.declared.replacing.Patch.{Patch}
use Rattle.image_orderings.proofs.adding.patches_strengthened.Goals as goal

pub returns-clause-of_image : goal.returns-clause-of_image
returns-clause-of_image c = λ image all.
    if_made c.each_strengthened.result (λ made. made.items) _ (All (IsPatchOf image)) (patches_stay_strengthened image c.args.patches.now all) c.each_strengthened.ensures

pub returns-clause-places : goal.returns-clause-places
returns-clause-places c =
    if_made c.each_strengthened.result (λ made. made.items) _ (λ (xs : List Patch). addresses_of xs ≡ addresses_of c.args.patches.now) (addresses_strengthened c.args.patches.now) c.each_strengthened.ensures
