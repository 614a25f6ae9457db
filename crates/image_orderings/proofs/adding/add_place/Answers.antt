use Rattle.std.proofs.Common.{◌≡◌, ◌++◌, subst}
use Rattle.image_orderings.proofs.Walked.{added_if, none_if}
use Rattle.image_orderings.specs.Adding.{may_be_more, patch_at, place_of}
use Rattle.image_orderings.proofs.adding.add_place.Goals as goal

pub returns-then-not-may_be_more : goal.returns-then-not-may_be_more
returns-then-not-may_be_more c =
    let old = c.args.found.now.items in
    let address = c.args.address in
    let is : old ≡ old ++ place_of address c.word-word.result = none_if (may_be_more c.word-word.result) c.may_be_more.result (patch_at address c.word-word.result) old c.may_be_more.ensures c.if-not-may_be_more.true in
    subst (λ w. old ≡ old ++ place_of address w) c.word-word.ensures is

pub returns : goal.returns
returns c =
    let old = c.args.found.now.items in
    let address = c.args.address in
    let is : c.push.new.self.items ≡ old ++ place_of address c.word-word.result =
    added_if (may_be_more c.word-word.result) c.may_be_more.result (patch_at address c.word-word.result) old c.push.new.self.items c.may_be_more.ensures c.if-not-may_be_more.false c.in_ok-push.ensures.items in
    subst (λ w. c.push.new.self.items ≡ old ++ place_of address w) c.word-word.ensures is
