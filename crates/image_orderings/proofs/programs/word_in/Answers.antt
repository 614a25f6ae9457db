use Rattle.std.proofs.Common.{◌≡◌, ℕ, Some, rules, slice_index_or}
use Rattle.image_orderings.proofs.Inside.{word_found}
use Rattle.image_orderings.specs.Programs.{word_in}
use Rattle.image_orderings.proofs.programs.word_in.Goals as goal

pub returns-then-first-address-clause-of_image : goal.returns-then-first-address-clause-of_image
returns-then-first-address-clause-of_image c = λ image all.
    let word : ℕ = (slice_index_or c.loop-rest.rest.now 0 record { address = 0; word = 0 }).word in
    let is : Some word ≡ word_in c.args.patches.now c.args.address = search rules in
    word_found image c.args.patches.now c.args.address word is all
