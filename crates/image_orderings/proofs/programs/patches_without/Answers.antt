use Rattle.std.proofs.Common.{◌≡◌, All, List}
use Rattle.image_orderings.proofs.Inside.{addresses_without, if_made, patches_stay_without}
use Rattle.image_orderings.specs.Replaced.{IsPatchOf, addresses_of}
use Rattle.image_orderings.specs.declared.replacing.Patch.{Patch}
use Rattle.image_orderings.proofs.programs.patches_without.Goals as goal

pub returns-clause-of_image : goal.returns-clause-of_image
returns-clause-of_image c = λ image all.
    if_made c.each_without.result (λ made. made.items) _ (All (IsPatchOf image)) (patches_stay_without image c.args.ordering c.args.patches.now all) c.each_without.ensures

pub returns-clause-places : goal.returns-clause-places
returns-clause-places c =
    if_made c.each_without.result (λ made. made.items) _ (λ (xs : List Patch). addresses_of xs ≡ addresses_of c.args.patches.now) (addresses_without c.args.ordering c.args.patches.now) c.each_without.ensures
